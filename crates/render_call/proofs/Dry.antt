-- The dry run: over the marks that `put_aside` leaves it counts the bytes of the true run, and `put_back` then restores store and marks.
-- Assumes nothing.
use mathlib.Core.Path.{◌≡◌, refl, sym, ap, ap₂, subst, ◌∙◌}
use mathlib.Core.Bool.{Bool, true, false, cond, ◌&&◌, ◌||◌}
use mathlib.Core.List.{List, [], ◌++◌, append_assoc}
use Prim.Native.Nat.{ℕ, ◌+◌, ◌-◌, ◌≤◌, ◌<◌}
use native.Mathlib.Omega.{arith}
use lib.ListN.{length, get_or, take, drop, replicate, length-append, length-replicate}
use lib.Seq.{length-take-le}
use lib.Dec.{eqb}
use borrow.Author.Tests.{eqb-true, ne_eqb}
use Rattle.rows.specs.Kinds.{CALL}
use Rattle.rows.specs.View.{View, cell, view_of, nodes_at}
use Rattle.rows.specs.Nesting.{Nests}
use Rattle.renderer_rules.specs.Check.{uses_number, uses_number2, uses_second, uses_text, uses_width, text_fits, no_text_fits, places_fit}
use Rattle.renderer_rules.specs.Renderer.{Page, Renderer}
use Rattle.renderer_rules.specs.Listed.{listed_those, can_close_all}
use Rattle.renderer_rules.specs.Stops.{Stop, stop_at, listed_rows, ahead, meaning}
use Rattle.renderer.specs.Run.{state_of}
use Rattle.renderer_rules.proofs.Names.{Same}
use Rattle.renderer_rules.proofs.OwnMarks.{Agree, Inside}
use Rattle.image.specs.Read.{read_earlier}
use Rattle.marks.specs.Marks.{marks_needed, clear_from, Held, held, put_aside, put_back}
use Rattle.marks.proofs.Undone.{owns, Bytes, Unused, undone}
use Rattle.marks.proofs.Seen.{aside_view, aside_size, aside_count, clear_count, clear_parts, same_start}
use Rattle.render_by_rule.proofs.Aside.{aside_unturned}
use Rattle.cut_rule.specs.States as states
use Rattle.cut_rule.specs.Parts.{read_from}
use Rattle.whole_run.specs.Parts.{renderer_of, page, open_rows, stopped}
use Rattle.whole_run.proofs.StopsKeep.{stop_keeps}
use Rattle.whole_run.proofs.StopsGrow.{Another, another_nodes, mark_kept}
use Rattle.whole_run.proofs.StopsAlike.{AlikeAt, stops_alike}
use Rattle.whole_run.proofs.RenderParts.{render_parts}
use Rattle.render_call.specs.Calls.{goes_to}
use Rattle.render_call.specs.Whole.{Counted, Runnable, Halts}
use Rattle.render_call.specs.declared.RenderArgs.{RenderArgs}
use Rattle.render_call.specs.declared.run.Halt.{Halt}
use Rattle.render_call.proofs.Accepted.{Accepted, in_order, places_right, runnable}
use Rattle.render_call.proofs.Resumes.{low, at_open, all_lie}
use Rattle.render_call.proofs.Ran.{marks_in_use, there, past_stop}
use Rattle.render_call.proofs.Owned.{nodes_other, second_other}

-- ---- a row that is no `Str` has 0 as its width
second_true : (a b c d : Bool) → (a && ((b || c) && d)) ≡ true → b ≡ false → c ≡ true
second_true true false true d e f = refl
second_true true false false d e f = absurd (let z : ◌≡◌ {A = ℕ} 0 1 = cc in omega arith)
second_true true true c d e f = absurd (let z : ◌≡◌ {A = ℕ} 0 1 = cc in omega arith)
second_true false b c d e f = absurd (let z : ◌≡◌ {A = ℕ} 0 1 = cc in omega arith)

no_width : (s b store : List ℕ) (k : ℕ) → places_fit s b store k ≡ true → (cell store k 0 ≡ 5 → ⊥) → cell store k 8 ≡ 0
unfolding places_fit
no_width s b store k e f =
    let kind = cell store k 0 in
    let numbers =
    (uses_number kind || eqb (cell store k 1) 0) && ((uses_number2 kind || eqb (cell store k 2) 0) && (uses_second kind || eqb (cell store k 3) 0))
    in
    let text = cond (uses_text kind) (text_fits s b store k) (no_text_fits store k) in
    eqb-true (cell store k 8) 0 (second_true numbers (uses_width kind) (eqb (cell store k 8) 0) text e (ne_eqb kind 5 f))

-- ---- the marks with those from u up to n cleared
cleared_front : (m : List ℕ) (u n : ℕ) → u ≤ length m → n ≤ length m
    → clear_from (n - u) u m
    ≡ (take u m ++ replicate (n - length (take u m)) 0) ++ drop (length (take u m ++ replicate (n - length (take u m)) 0)) m
cleared_front m u n h k =
    clear_parts (n - u) u m (omega arith)
    ∙ sym (append_assoc (take u m) (replicate (n - u) 0) (drop (u + (n - u)) m))
    ∙ ap (λ (z : ℕ). (take u m ++ replicate (n - u) 0) ++ drop z m) (sym size)
    ∙ ap (λ (z : ℕ). (take u m ++ replicate (n - z) 0) ++ drop (length (take u m ++ replicate (n - z) 0)) m) (sym front)
  where
    front : length (take u m) ≡ u
    front = length-take-le u m h

    size : length (take u m ++ replicate (n - u) 0) ≡ u + (n - u)
    size = length-append (take u m) (replicate (n - u) 0) ∙ ap₂ ◌+◌ front (length-replicate (n - u) 0)

module _ (source image : List ℕ) (z : states.RenderState) (args : RenderArgs) (store marks : List ℕ) (a : Accepted source image z args store marks) where
  -- how many rows are read, and how many marks they need
  abbrev from : ℕ
  from = read_from z

  abbrev count : ℕ
  count = args.stop - read_from z

  abbrev needed : ℕ
  needed = marks_needed (args.stop - read_from z) store (read_from z)

  abbrev aside : Held
  aside = put_aside (args.stop - read_from z) z.in_use (held store marks) (read_from z)

  -- the marks that the true run starts with
  abbrev taken : List ℕ
  taken = marks_in_use source image z args store marks a

  abbrev behind : List ℕ
  behind = drop (length taken) marks

  abbrev v : View
  v = view_of store

  abbrev pg : Page
  pg = page (goes_to args).choice source image

  pub cleared_whole : clear_from (needed - z.in_use) z.in_use marks ≡ taken ++ behind
  cleared_whole = cleared_front marks z.in_use needed a.in_use a.enough

  -- the rows' own numbers, and no others, are those of the nodes
  abbrev own : ℕ → Bool
  own x = owns x count store from

  inside : (i j : ℕ) → from ≤ i → j ≤ args.stop → Inside own (nodes_at v i j)
  inside i j h k x e = nodes_other x store count from i j e h (let y = in_order source image z args store marks a in omega arith)

  second : (x : ℕ) → own x ≡ false → (i : ℕ) → from ≤ i → i < args.stop → v.kind i ≡ CALL → Another x (v.number2 i)
  unfolding view_of
  second x e i h k c = second_other x store count from i e h (omega arith) c

  unused : Unused count store from
  unused =
      record {
        at =
            λ k p q f. no_width source image store k
            (places_right source image z args store marks a k p (omega (arith, in_order source image z args store marks a))) f;
      }

  -- at these numbers the dry run starts with the same marks
  agree : Agree own (taken ++ behind) aside.marks
  agree =
      record {
        size =
            aside_count count z.in_use (held store marks) from
            ∙ sym (clear_count (needed - z.in_use) z.in_use marks)
            ∙ ap length cleared_whole;
        at = λ x e. same_start count z.in_use (held store marks) from x e ∙ ap (λ (m : List ℕ). get_or m x 0) cleared_whole;
      }

  -- where a run over these marks stops
  abbrev over : List ℕ → Stop
  over m = stopped source image z (goes_to args) args.allotment m store

  alike : AlikeAt own (over (taken ++ behind)) (over aside.marks)
  alike =
      let x = runnable source image z args store marks a in
      let at = at_open source image z args store x in
      stops_alike own v pg from args.stop inside (open_rows v z) (length z.listed) z.row args.allotment (renderer_of z.pen (taken ++ behind))
      (renderer_of z.pen aside.marks) at.under at.low (low source image z args store x) (all_lie source image z args store x)
      (record { rest = refl; marks = agree })

  same_text : (over aside.marks).state.buf ≡ (there source image z args store marks a).state.buf
  same_text =
      ap (λ (r : Renderer). r.buf) alike.state.rest
      ∙ ap (λ (e : Stop). e.state.buf) (past_stop source image z args store marks a behind)

  same_marks : (x : ℕ) → own x ≡ false → get_or (over aside.marks).state.marks x 0 ≡ get_or aside.marks x 0
  same_marks x o =
      let y = runnable source image z args store marks a in
      let at = at_open source image z args store y in
      (stop_keeps v pg (Another x) (Same x) (mark_kept x pg) from args.stop
      (λ i j h k. another_nodes x (nodes_at v i j) (inside i j h k x o)) (second x o) (open_rows v z) (length z.listed) z.row args.allotment
      (renderer_of z.pen aside.marks) at.under at.low (low source image z args store y) (all_lie source image z args store y)).before.mark

  as_many : length (over aside.marks).state.marks ≡ length aside.marks
  as_many = (render_parts source image (read_earlier source image)).draw_marks z (goes_to args) args.allotment aside.marks store

  -- the rows with old marks in them, and the marks then
  module _ (rows2 marks2 : List ℕ) (e : held rows2 marks2 ≡ aside) where
    pub aside_rows : length rows2 ≡ length store
    aside_rows = ap (λ (h : Held). length h.rows) e ∙ aside_size count z.in_use (held store marks) from

    same_view : view_of rows2 ≡ view_of store
    same_view = ap (λ (h : Held). view_of h.rows) e ∙ aside_view count z.in_use (held store marks) from

    pub aside_runs : Runnable source image z args rows2
    aside_runs =
        let x = runnable source image z args store marks a in
        record {
          room = (let y = x.room in omega (arith, aside_rows));
          few = x.few;
          nests = subst (λ (u : View). Nests u from args.stop 0) (sym same_view) x.nests;
          ahead = x.ahead;
          indent = x.indent;
          next_indent = x.next_indent;
          column = x.column;
          few_listed = x.few_listed;
          those = ap (λ (u : View). listed_those u z.listed z.row) same_view ∙ x.those;
          closable = ap (λ (u : View). can_close_all u z.listed z.pen) same_view ∙ x.closable;
          unturned =
              rw (ap (λ (h : Held). h.rows) e)
              (aside_unturned count z.in_use (held store marks) from from args.stop x.unturned);
        }

    -- the run with limit 0, and the marks put back
    module _ (h : Halt) (b : Bytes marks) (rows3 marks3 out3 rows4 marks4 : List ℕ)
        (r : Halts source image z args rows2 marks2 [] h rows3 marks3 out3)
        (f : held rows4 marks4 ≡ put_back count (held rows3 marks3) from) where
      stop_is : stop_at h.next (listed_rows h.frames.items h.frames.depth) (state_of h.writing marks3 r.text) ≡ over aside.marks
      stop_is =
          r.stops
          ∙ ap₂
          (λ (u : View) (m : List ℕ).
          get_or (ahead u pg args.stop (open_rows u z) (length z.listed) z.row (renderer_of z.pen m)) args.allotment
          (stop_at args.stop [] (meaning u pg args.stop (open_rows u z) (length z.listed) z.row (renderer_of z.pen m))))
          same_view
          (ap (λ (h : Held). h.marks) e)

      marks_are : marks3 ≡ (over aside.marks).state.marks
      marks_are = ap (λ (s : Stop). s.state.marks) stop_is

      all_back : held rows4 marks4 ≡ held store marks
      all_back =
          f
          ∙ ap (λ (y : List ℕ). put_back count (held y marks3) from) (r.store_left_of ∙ ap (λ (y : Held). y.rows) e)
          ∙ undone count z.in_use store marks marks3 from unused b
          (let g = a.within in let y = in_order source image z args store marks a in omega arith)
          (ap length marks_are ∙ as_many ∙ aside_count count z.in_use (held store marks) from)
          (λ x o. ap (λ (m : List ℕ). get_or m x 0) marks_are ∙ same_marks x o)

      pub counted : Counted source image z args store marks h.writing.at rows4 marks4
      counted =
          record {
            bytes = r.wrote.bytes ∙ ap (λ (s : Stop). length s.state.buf) stop_is ∙ ap length same_text;
            store_left_of = ap (λ (y : Held). y.rows) all_back;
            marks_left_of = ap (λ (y : Held). y.marks) all_back;
          }
