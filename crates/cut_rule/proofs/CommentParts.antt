-- Each piece places the next comments of the list, so the document up to any stop has the first of them.
-- Assumes nothing but the laws of the parts.
use mathlib.Core.Path.{◌≡◌, sym, ap, ap₂, subst, ◌∙◌}
use mathlib.Core.Bool.{Bool, true, false}
use mathlib.Core.List.{List, ◌++◌}
use Prim.Native.Nat.{ℕ, zero, suc, ◌+◌, ◌-◌, ◌*◌, ◌≤◌, ◌<◌}
use native.Mathlib.Nat.{sub-zero}
use native.Mathlib.Omega.{arith}
use lib.ListN.{length, take, drop, length-drop}
use lib.Seq.{take-add, drop-drop}
use Rattle.rows.specs.Places.{PLACES}
use Rattle.cut_rule.specs.Rules.{LayoutArgs}
use Rattle.rows.specs.Node.{Text}
use Rattle.cut_rule.specs.CutRule.{comments_in}
use Rattle.cut_rule.specs.Laws.{CommentLaws}
use Rattle.cut_rule.specs.States.{LayoutChoice, Cursor, layout_fresh}
use Rattle.cut_rule.specs.Parts.{Piece, RuleParts, and_then, end, call_piece, rules}
use Rattle.cut_rule.specs.PartLaws.{Counts, LayoutPartLaws, PlacesNext, CommentPartLaws}
use Rattle.cut_rule.proofs.Comments.{comments_join}
use Rattle.cut_rule.proofs.LayoutParts.{up_to, from_fresh, counts_then, fitting, layout_laws}

-- a piece that counts its rows and places the next comments
record Laying (listed : List Text) (c : Cursor) (p : Piece) : Type 0 where
  counts : Counts c p
  places : PlacesNext listed c p

laying_then : (listed : List Text) (c : Cursor) (p : Piece) (g : Cursor → Piece)
    → Laying listed c p → Laying listed p.cursor (g p.cursor) → Laying listed c (and_then p g)
laying_then listed c p g u v =
    let q = g p.cursor in
    let n = p.cursor.row - c.row in
    let m = q.cursor.row - p.cursor.row in
    let i = p.cursor.placed - c.placed in
    let j = q.cursor.placed - p.cursor.placed in
    let rows : length p.rows ≡ PLACES * n = omega (arith, u.counts.row) in
    let all : n + m ≡ q.cursor.row - c.row = omega (arith, u.counts.row, v.counts.row) in
    let at : c.placed + i ≡ p.cursor.placed = omega (arith, u.places.more) in
    let both : i + j ≡ q.cursor.placed - c.placed = omega (arith, u.places.more, v.places.more) in
    record {
      counts = counts_then c p g u.counts v.counts;
      places = record {
        more = omega (arith, u.places.more, v.places.more);
        within = v.places.within;
        next = ap (comments_in (p.rows ++ q.rows)) (sym all)
            ∙ comments_join m n p.rows q.rows rows
            ∙ ap₂ (λ (xs ys : List Text). xs ++ ys) u.places.next v.places.next
            ∙ ap (λ (ys : List Text). take i (drop c.placed listed) ++ take j ys)
            (ap (λ (k : ℕ). drop k listed) (sym at) ∙ sym (drop-drop i c.placed listed))
            ∙ sym (take-add i j (drop c.placed listed))
            ∙ ap (λ (k : ℕ). take k (drop c.placed listed)) both;
      };
    }

module _ (P : RuleParts) (L : LayoutPartLaws P) (listed : List Text) (K : CommentPartLaws P listed) where
  abbrev c₀ : Cursor
  c₀ = layout_fresh.cursor

  laying_up_to : (k : LayoutChoice) (n : ℕ) → n ≤ P.declarations → Laying listed c₀ (up_to P k n)
  laying_up_to k zero h = record { counts = L.shebang_counts k c₀; places = K.shebang_places k c₀ (omega arith) }
  laying_up_to k (suc n) h =
      let t = laying_up_to k n (omega arith) in
      let c = (up_to P k n).cursor in
      let l : 0 + n < P.declarations = omega arith in
      laying_then listed c₀ (up_to P k n) (P.declaration k (0 + n)) t
      (record { counts = L.declaration_counts k (0 + n) c l; places = K.declaration_places k (0 + n) c l t.places.within })

  laying_end : (k : LayoutChoice) (b : Bool) (n : ℕ) → n ≤ P.declarations → Laying listed c₀ (end P k b (up_to P k n))
  laying_end k false n h = laying_up_to k n h
  laying_end k true n h =
      let t = laying_up_to k n h in
      let c = (up_to P k n).cursor in
      laying_then listed c₀ (up_to P k n) (P.final k) t
      (record { counts = L.final_counts k c; places = K.final_places k c t.places.within })

  laying_due : (q : LayoutArgs LayoutChoice) → q.stop ≤ P.declarations → Laying listed c₀ (call_piece P layout_fresh q)
  laying_due q h = subst (Laying listed c₀) (sym (from_fresh P q)) (laying_end q.choice q.close q.stop h)

module _ (P : RuleParts) (L : LayoutPartLaws P) (listed : List Text) (K : CommentPartLaws P listed) where
  first_placed : (q : LayoutArgs LayoutChoice) → q.stop ≤ P.declarations
      → comments_in (call_piece P layout_fresh q).rows (call_piece P layout_fresh q).cursor.row ≡ take (call_piece P layout_fresh q).cursor.placed listed
  first_placed q h =
      let p = call_piece P layout_fresh q in
      ap (comments_in p.rows) (sym (sub-zero p.cursor.row))
      ∙ (laying_due P L listed K q h).places.next
      ∙ ap (λ (k : ℕ). take k listed) (sub-zero p.cursor.placed)

  pub comment_laws : CommentLaws (rules P) (layout_laws P L) listed
  comment_laws = record {
    first_placed = λ q k. first_placed q (fitting P L q k).to;
    rest_left = λ q k. omega (arith, K.all_listed, length-drop (call_piece P layout_fresh q).cursor.placed listed);
  }
