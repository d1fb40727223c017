-- Finite tables: what the check computes at each number below a bound holds of each.
-- Assumes nothing.
use mathlib.Core.Path.{◌≡◌, refl}
use mathlib.Core.Bool.{Bool, true, false, ◌&&◌}
use Prim.Native.Nat.{ℕ, zero, suc, ◌<◌}
use native.Mathlib.Omega.{arith}
use native.Mathlib.Nat.{not-suc-le-zero}
use lib.Dec.{ltb}
use borrow.Author.Tests.{ltb-true, ltb-false}
use Rattle.laws.proofs.Booleans.{and_left, and_right}

-- f holds of each number below n
abbrev pub below : (ℕ → Bool) → ℕ → Bool
below f zero = true
below f (suc n) = below f n && f n

pub below_at : (f : ℕ → Bool) (n : ℕ) → below f n ≡ true → (k : ℕ) → k < n → f k ≡ true
below_at f zero e k h = absurd (not-suc-le-zero h)
below_at f (suc n) e k h = go (below_at f n (and_left (below f n) (f n) e) k) (ltb k n) refl
  where
    go : (k < n → f k ≡ true) → (t : Bool) → ltb k n ≡ t → f k ≡ true
    go more true q = more (ltb-true k n q)
    go more false q = let same : k ≡ n = omega (arith, ltb-false k n q) in rw same (and_right (below f n) (f n) e)
