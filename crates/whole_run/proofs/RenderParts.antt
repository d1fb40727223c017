-- The rendering laws that the cut rule asks, for `Renderer` over rows: where a rendering from fresh stops, what it reads, and that a call that goes on
-- from there writes what one go would have written, with the text so far ahead.
-- Assumes nothing.
use mathlib.Core.Path.{◌≡◌, refl, ap, ◌∙◌}
use Rattle.std.specs.Prelude.{None}
use mathlib.Core.Bool.{true}
use mathlib.Core.List.{List}
use Prim.Native.Nat.{ℕ, ◌+◌, ◌-◌, ◌≤◌, max}
use native.Mathlib.Omega.{arith}
use lib.ListN.{length}
use Rattle.image.specs.Read.{Read, Image}
use Rattle.rows.specs.View.{view_of, nodes_at}
use Rattle.rows.specs.Nesting.{Nests}
use Rattle.marks.specs.Marks.{marks_needed}
use Rattle.renderer_rules.specs.Renderer.{render_nodes}
use Rattle.renderer_rules.specs.Check.{wrong_place_by}
use Rattle.renderer_rules.specs.Listed.{reads_from}
use Rattle.cut_rule.specs.Rules.{RenderTo}
use Rattle.cut_rule.specs.Laws.{SameBefore, to_stop}
use Rattle.cut_rule.specs.States.{RenderChoice, RenderState, render_fresh}
use Rattle.cut_rule.specs.Parts.{Drawn}
use Rattle.cut_rule.specs.PartLaws.{RenderPartLaws}
use Rattle.whole_run.specs.Parts.{renderer_of, page, open_rows, still_entered, all_rendered, drawn, parts_by}
use Rattle.whole_run.proofs.Local.{cell_same}
use Rattle.whole_run.proofs.Past.{Unders}
use Rattle.whole_run.proofs.Marks.{marks_local, marks_add, nodes_under}
use Rattle.whole_run.proofs.Right.{Right, right, none_found, right_none, right_both, right_same}
use Rattle.whole_run.proofs.StopMarks.{Keeps, ahead_keeps, meaning_length}
use Rattle.whole_run.proofs.StopTops.{all_get, reads_at_top}
use Rattle.whole_run.proofs.StopParts.{fresh_drawn, row_at, fresh_enters, fresh_runs_out, fresh_further, fresh_nearer, fresh_past, fresh_local}
use Rattle.whole_run.proofs.StopsJoin.{joined}

-- the marks that the rows of a store need, from one up to a stop
abbrev needed : List ℕ → ℕ → ℕ → ℕ
needed store i n = marks_needed (n - i) store i

needed_join : (store : List ℕ) (n m : ℕ) → n ≤ m → needed store 0 m ≡ max (needed store 0 n) (needed store n m)
needed_join store n m h =
    let e : m - 0 ≡ (n - 0) + (m - n) = omega arith in
    let f : 0 + (n - 0) ≡ n = omega arith in
    ap (λ (k : ℕ). marks_needed k store 0) e
    ∙ marks_add (n - 0) (m - n) store 0
    ∙ ap (λ (k : ℕ). max (needed store 0 n) (marks_needed (m - n) store k)) f

needed_local : (store other : List ℕ) (i n : ℕ) → SameBefore n store other → needed store i n ≡ needed other i n
needed_local store other i n e = marks_local (n - i) store other i (λ k c p q l. cell_same n store other e k c (omega arith) l)

-- the nodes of rows before the stop have numbers under the marks
under_marks : (store marks : List ℕ) (i n : ℕ) → needed store 0 n ≤ length marks → Unders (length marks) (nodes_at (view_of store) i n)
under_marks store marks i n h = nodes_under store (n - 0) 0 i n (length marks) h (omega arith) (omega arith)

module _ (s b : List ℕ) where
  -- rows that 11 lets pass nest
  nests : (q : RenderTo RenderChoice) (store : List ℕ) → wrong_place_by q.choice.rule s b store 0 q.stop ≡ None → Nests (view_of store) 0 q.stop 0
  nests q store u = (right q.choice.rule s b store 0 q.stop (omega arith) u).nests

  draw_marks : (z : RenderState) (q : RenderTo RenderChoice) (n : ℕ) (marks store : List ℕ) → length (drawn s b z q n marks store).marks ≡ length marks
  draw_marks z q n marks store =
      let v = view_of store in
      let p = page q.choice s b in
      let r = renderer_of z.pen marks in
      (all_get (Keeps (length marks)) (still_entered s b z q marks store) n (all_rendered s b z q marks store)
      (ahead_keeps v p (length marks) q.stop (open_rows v z) (length z.listed) z.row r refl)
      (record { marks = meaning_length v p (length marks) q.stop (open_rows v z) (length z.listed) z.row r refl })).marks

  -- the rows before a top row that is not past the stop are right
  right_to : (rule : ℕ) (store : List ℕ) (n m : ℕ) → Right rule s b store 0 n → m ≤ n → Nests (view_of store) 0 m 0 → Right rule s b store 0 m
  right_to rule store n m r h g = record {
    few = omega (arith, r.few);
    room = omega (arith, r.room);
    nests = g;
    places = λ k a c. r.places k a (omega arith);
  }

  stop_top : (q : RenderTo RenderChoice) (n : ℕ) (marks store : List ℕ) → wrong_place_by q.choice.rule s b store 0 q.stop ≡ None
      → wrong_place_by q.choice.rule s b store 0
      (reads_from (drawn s b render_fresh q n marks store).listed (drawn s b render_fresh q n marks store).row)
      ≡ None
  stop_top q n marks store u =
      let v = view_of store in
      let p = page q.choice s b in
      let start = renderer_of render_fresh.pen marks in
      let g = nests q store u in
      let t = reads_at_top v p q.stop g start (render_nodes p (nodes_at v 0 q.stop) true start) n in
      let e = ap (λ (y : Drawn). reads_from y.listed y.row) (fresh_drawn s b q marks store n) in
      ap (wrong_place_by q.choice.rule s b store 0) e
      ∙ none_found q.choice.rule s b store 0 _ (right_to q.choice.rule store q.stop _ (right q.choice.rule s b store 0 q.stop (omega arith) u) t.1 t.0)

  pub render_parts : (r : Read Image) → RenderPartLaws (parts_by r s b)
  render_parts r = record {
    none_wrong = λ c store. none_found c.rule s b store 0 0 (right_none c.rule s b store);
    right_join =
        λ c store n m h e f.
        none_found c.rule s b store 0 m (right_both c.rule s b store n m (right c.rule s b store 0 n (omega arith) e) (right c.rule s b store n m h f));
    needed_join = needed_join;
    right_local =
        λ c store other n e f. none_found c.rule s b other 0 n (right_same c.rule s b store other n e (right c.rule s b store 0 n (omega arith) f));
    needed_local = needed_local;
    draw_local = λ q n marks store other u e. fresh_local s b q marks store other (nests q store u) e n;
    draw_marks = draw_marks;
    draw_past = λ q n marks past store u h. fresh_past s b q marks past store (under_marks store marks 0 q.stop h) n;
    stop_row = λ q n marks store u. (row_at s b q marks store (nests q store u) n).1;
    stop_top = stop_top;
    enters = λ q n marks store u. fresh_enters s b q marks store (nests q store u) n;
    runs_out = λ q n marks store u. fresh_runs_out s b q marks store (nests q store u) n;
    further_stop =
        λ c f t n marks store h u w l. fresh_further s b c f t marks store h (nests (to_stop f c) store u) (nests (to_stop t c) store w) n l;
    nearer_stop =
        λ c t f n marks store h u w l m.
        fresh_nearer s b c t f marks store h (nests (to_stop t c) store u) (nests (to_stop f c) store w) n l m;
    draw_join = λ z q j k marks store u h there. joined s b q marks store (nests q store u) h j z k there;
  }
