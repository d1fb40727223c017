-- The marks that rows need, counted row by row: the most so far, and what the rows ahead need, make the answer.
-- Assumes nothing.
use mathlib.Core.Path.{◌≡◌, refl, ap, sym, ◌∙◌}
use Prim.Native.Nat.{ℕ, suc, ◌+◌, ◌-◌, ◌≤◌, ◌<◌, max}
use native.Mathlib.Omega.{arith}
use native.Mathlib.Numerals.{add-one}
use mathlib.Core.List.{List}
use borrow.Author.Tests.{ne_eqb}
use Rattle.rows.specs.Kinds.{GROUP, IF_WRAP, CALL}
use Rattle.rows.specs.Places.{KIND, NUMBER, SECOND_NUMBER}
use Rattle.laws.proofs.Numbers.{one_more}
use Rattle.rows.specs.View.{cell}
use Rattle.marks.specs.Marks.{row_marks, marks_needed}

pub row_call : (s : List ℕ) (i kind a b m : ℕ) → kind ≡ cell s i KIND → a ≡ cell s i NUMBER
    → b ≡ cell s i SECOND_NUMBER → m ≡ max a b → kind ≡ CALL → 1 + m ≡ row_marks s i
row_call s i kind a b m e f g h k = rw (← e, k, h, f, g)

pub row_group : (s : List ℕ) (i kind a : ℕ) → kind ≡ cell s i KIND → a ≡ cell s i NUMBER → kind ≡ GROUP → 1 + a ≡ row_marks s i
row_group s i kind a e f k = rw (← e, k, f)

pub row_if : (s : List ℕ) (i kind a : ℕ) → kind ≡ cell s i KIND → a ≡ cell s i NUMBER → kind ≡ IF_WRAP → 1 + a ≡ row_marks s i
row_if s i kind a e f k = rw (← e, k, f)

pub row_none : (s : List ℕ) (i kind : ℕ) → kind ≡ cell s i KIND → (kind ≡ CALL → ⊥) → (kind ≡ GROUP → ⊥) → (kind ≡ IF_WRAP → ⊥) → 0 ≡ row_marks s i
row_none s i kind e a b c = rw (← e, ne_eqb kind 11 a, ne_eqb kind 0 b, ne_eqb kind 10 c)

pub record Needing (s : List ℕ) (from stop most row : ℕ) : Type 0 where
  pub high : row ≤ stop
  pub same : max most (marks_needed (stop - row) s row) ≡ marks_needed (stop - from) s from

needed_some : (n : ℕ) (s : List ℕ) (i : ℕ) → marks_needed (suc n) s i ≡ max (row_marks s i) (marks_needed n s (suc i))
unfolding marks_needed
needed_some n s i = refl

needed_next : (s : List ℕ) (stop row : ℕ) → row < stop → marks_needed (stop - row) s row ≡ max (row_marks s row) (marks_needed (stop - (row + 1)) s (row + 1))
needed_next s stop row h =
    ap (λ (n : ℕ). marks_needed n s row) (one_more stop row h)
    ∙ needed_some (stop - (row + 1)) s row
    ∙ ap (λ (k : ℕ). max (row_marks s row) (marks_needed (stop - (row + 1)) s k)) (sym (add-one row))

pub needing_more : (s : List ℕ) (from stop most row n most2 : ℕ) → Needing s from stop most row → row < stop → n ≡ row_marks s row → most2 ≡ max most n
    → Needing s from stop most2 (row + 1)
needing_more s from stop most row n most2 c h e f =
    let q = c.same in
    let p = needed_next s stop row h in
    record {
      high = omega arith;
      same = regroup most2 most n (row_marks s row) (marks_needed (stop - (row + 1)) s (row + 1)) (marks_needed (stop - row) s row) f e p ∙ q;
    }
  where
    regroup : (most2 most n r x z : ℕ) → most2 ≡ max most n → n ≡ r → z ≡ max r x → max most2 x ≡ max most z
    regroup most2 most n r x z f e p = omega arith

none_needed : (n : ℕ) (s : List ℕ) (i : ℕ) → n ≡ 0 → marks_needed n s i ≡ 0
unfolding marks_needed
none_needed n s i e = rw e

pub needing_end : (s : List ℕ) (from stop most row : ℕ) → Needing s from stop most row → stop ≤ row → most ≡ marks_needed (stop - from) s from
needing_end s from stop most row c h = let q = c.same in let z = none_needed (stop - row) s row (omega arith) in omega arith
