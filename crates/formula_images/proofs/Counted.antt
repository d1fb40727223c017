-- The counts that the code knows.
-- Assumes nothing.
use mathlib.Core.Path.{◌≡◌, refl, sym, ap, ◌∙◌}
use Prim.Native.Nat.{ℕ, zero, suc, ◌-◌, ◌≤◌, ◌*◌}
use native.Mathlib.Omega.{arith}
use native.Mathlib.Nat.{mul-le-mul}
use lib.ListN.{length}
use Rattle.formulas.specs.Formulas.{plus, times, products, splits, of_size, up_to, formulas}

pub one : length (formulas 1) ≡ 1
unfolding products splits of_size up_to
one = refl

pub two : length (formulas 2) ≡ 2
unfolding products splits of_size up_to
two = refl

pub three : length (formulas 3) ≡ 6
unfolding products splits of_size up_to
three = refl

pub four : length (formulas 4) ≡ 20
unfolding products splits of_size up_to
four = refl

pub five : length (formulas 5) ≡ 72
unfolding products splits of_size up_to
five = refl

pub six : length (formulas 6) ≡ 272
unfolding products splits of_size up_to
six = refl

pub seven : length (formulas 7) ≡ 1064
unfolding products splits of_size up_to
seven = refl

pub count_is : (n k c : ℕ) → n ≡ k → length (formulas k) ≡ c → c ≡ length (formulas n)
count_is n k c e h = sym h ∙ ap (λ (m : ℕ). length (formulas m)) (sym e)

-- ---- those of one operator
abbrev Each : ℕ → ℕ → Type 0
Each n c = (c ≡ length (splits plus formulas 1 n)) × (c ≡ length (splits times formulas 1 n))

pub each_two : Each 0 0
unfolding products splits of_size up_to
each_two = (refl, refl)

pub each_three : Each 1 1
unfolding products splits of_size up_to
each_three = (refl, refl)

pub each_four : Each 2 4
unfolding products splits of_size up_to
each_four = (refl, refl)

pub each_five : Each 3 16
unfolding products splits of_size up_to
each_five = (refl, refl)

pub each_six : Each 4 64
unfolding products splits of_size up_to
each_six = (refl, refl)

pub each_seven : Each 5 260
unfolding products splits of_size up_to
each_seven = (refl, refl)

pub each_is : (n k c : ℕ) → n - 2 ≡ k → Each k c → Each (n - 2) c
each_is n k c e h = rw e h

-- ---- no product wraps
none : length (formulas 0) ≡ 0
unfolding up_to
none = refl

most : (n : ℕ) → n ≤ 7 → length (formulas n) ≤ 1064
most zero h = rw none (omega arith)
most (suc zero) h = rw one (omega arith)
most (suc (suc zero)) h = rw two (omega arith)
most (suc (suc (suc zero))) h = rw three (omega arith)
most (suc (suc (suc (suc zero)))) h = rw four (omega arith)
most (suc (suc (suc (suc (suc zero))))) h = rw five (omega arith)
most (suc (suc (suc (suc (suc (suc zero)))))) h = rw six (omega arith)
most (suc (suc (suc (suc (suc (suc (suc zero))))))) h = rw seven (omega arith)
most (suc (suc (suc (suc (suc (suc (suc (suc n)))))))) h = absurd (omega arith)

pub few_pairs : (k m : ℕ) → k ≤ 7 → m ≤ 7 → length (formulas k) * length (formulas m) ≤ 1132096
few_pairs k m h g = mul-le-mul (most k h) (most m g)
