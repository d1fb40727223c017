-- Numbers that are none of those in a row: the last arm of a `match` on a number is none of the arms before it.
-- Assumes nothing.
use mathlib.Core.Path.{◌≡◌}
use Prim.Native.Nat.{ℕ, zero, suc, ◌+◌, ◌≤◌}
use native.Mathlib.Omega.{arith}

-- k is none of n places from `from` on
abbrev Apart : ℕ → ℕ → ℕ → Type 0
Apart k from zero = Unit
Apart k from (suc n) = Apart k from n × (k ≡ from + n → ⊥)

pub past_all : (k from n : ℕ) → from ≤ k → Apart k from n → from + n ≤ k
past_all k from zero h a = omega arith
past_all k from (suc n) h a = let m = past_all k from n h a.0 in let apart = a.1 in omega arith
