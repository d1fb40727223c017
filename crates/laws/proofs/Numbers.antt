-- Laws of numbers that are counted down to a stop.
-- Assumes nothing.
use mathlib.Core.Path.{◌≡◌}
use Prim.Native.Nat.{ℕ, suc, ◌+◌, ◌-◌, ◌≤◌, ◌<◌}
use native.Mathlib.Omega.{arith}

-- one more is left at a place than at the next
pub one_more : (stop at : ℕ) → at < stop → stop - at ≡ suc (stop - (at + 1))
one_more stop at h = omega arith

pub lt_of : (a b : ℕ) → a ≤ b → (a ≡ b → ⊥) → a < b
lt_of a b h n = omega arith
