-- What is left of the grammar's table after a match on a number: where the code has an arm for each rule that a test picks, and the kind is none of these,
-- and no kind that the test doesn't pick is meant, no rule is for it.
-- Assumes nothing.
use mathlib.Core.Path.{◌≡◌, refl}
use mathlib.Core.Bool.{Bool, true, false}
use Prim.Native.Nat.{ℕ}
use borrow.Author.Tests.{ne_eqb}
use Rattle.image.specs.Grammar.{Grammar, others, ◌⇒◌∣◌, row_in}

abbrev and_if : Bool → Type 0 → Type 0 → Type 0
and_if true X A = A × X
and_if false X A = A

-- k is none of the kinds that have an arm
abbrev Missed : (ℕ → Bool) → ℕ → Grammar → Type 0 → Type 0
Missed f k others A = A
Missed f k (n ⇒ r ∣ rs) A = Missed f k rs (and_if (f n) (k ≡ n → ⊥) A)

module _ (f : ℕ → Bool) (k : ℕ) (out : (n : ℕ) → f n ≡ false → k ≡ n → ⊥) where
  both : (n : ℕ) (t : Bool) (A : Type 0) → f n ≡ t → and_if t (k ≡ n → ⊥) A → A × (k ≡ n → ⊥)
  both n true A e h = h
  both n false A e h = (h, out n e)

  missing : (rs : Grammar) (A : Type 0) → Missed f k rs A → A × (row_in k rs ≡ 0)
  missing others A h = (h, refl)
  missing (n ⇒ r ∣ rs) A h =
      let (g, e) = missing rs (and_if (f n) (k ≡ n → ⊥) A) h in
      let (a, apart) = both n (f n) A refl g in
      (a, rw (ne_eqb k n apart) e)

  pub none : (rs : Grammar) → Missed f k rs Unit → 0 ≡ row_in k rs
  none rs h = rw (missing rs Unit h).1
