-- A number in decimal is what std writes of it, and no line of a refusal is longer than its room.
-- Assumes nothing.
use Rattle.std.proofs.Common.{◌≡◌, rules, append_assoc, List, [], ◌∷◌, ◌++◌, ℕ, zero, suc, ◌+◌, ◌-◌, ◌/◌, ◌%◌, ◌<◌, ◌≤◌, ◌^◌, length}
use mathlib.Core.Path.{refl, ap, ap₂, ◌∙◌}
use native.Mathlib.Omega.{arith}
use Rattle.std.specs.Fmt as std
use Rattle.std.proofs.lemmas.Fmt.{AppendsLastDigit, decimal_from_appends, length-decimal-le}
use borrow.Author.Tests.{lt-ltb, le-ltb}
use Rattle.lines.specs.Lines.{decimal_in, decimal}

appends : AppendsLastDigit decimal_in
unfolding decimal_in
appends = record { one = λ k n h. rw (lt-ltb n 10 h); more = λ k n h. rw (le-ltb n 10 h) }

short : (n : ℕ) → n < 2 ^ 64 → length (std.decimal n) ≤ 20
short n h = search (rules, length-decimal-le 20)

pub same_decimal : (n : ℕ) → n < 2 ^ 64 → decimal n ≡ std.decimal n
same_decimal n h = decimal_from_appends decimal_in appends 20 n h (short n h)

pub decimal_short : (n : ℕ) → n < 2 ^ 64 → length (decimal n) ≤ 20
decimal_short n h = rw (same_decimal n h) (short n h)

-- ---- digits behind what is there
pub appended_none : (xs : List ℕ) (most n : ℕ) → most ≡ 0 → xs ≡ xs ++ decimal_in most n
unfolding decimal_in
appended_none xs most n e = rw e (search rules)

-- the only digit
pub appended_one : (xs ys zs : List ℕ) (d most n : ℕ) → (most ≡ 0 → ⊥) → n < 10 → d ≡ 48 + n % 10 → ys ≡ xs → zs ≡ ys ++ (d ∷ [])
    → zs ≡ xs ++ decimal_in most n
unfolding decimal_in
appended_one xs ys zs d zero n h u e f g = absurd (h refl)
appended_one xs ys zs d (suc k) n h u e f g =
    let same : d ≡ 48 + n = omega arith in
    rw (lt-ltb n 10 u) (g ∙ ap₂ (λ (ts : List ℕ) (k : ℕ). ts ++ (k ∷ [])) f same)

-- the last digit
pub appended_more : (xs ms ys zs : List ℕ) (d most n : ℕ) → (most ≡ 0 → ⊥) → 10 ≤ n → d ≡ 48 + n % 10
    → ms ≡ xs ++ decimal_in (most - 1) (n / 10) → ys ≡ ms → zs ≡ ys ++ (d ∷ []) → zs ≡ xs ++ decimal_in most n
unfolding decimal_in
appended_more xs ms ys zs d zero n h u e m f g = absurd (h refl)
appended_more xs ms ys zs d (suc k) n h u e m f g =
    let fewer : suc k - 1 ≡ k = omega arith in
    let front = f ∙ m ∙ ap (λ (i : ℕ). xs ++ decimal_in i (n / 10)) fewer in
    rw (le-ltb n 10 u)
    (g ∙ ap₂ (λ (ts : List ℕ) (k : ℕ). ts ++ (k ∷ [])) front e ∙ append_assoc xs (decimal_in k (n / 10)) ((48 + n % 10) ∷ []))
