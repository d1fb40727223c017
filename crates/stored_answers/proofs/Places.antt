-- Places further on.
-- Assumes nothing.
use mathlib.Core.Path.{◌≡◌}
use Prim.Native.Nat.{ℕ, ◌+◌}
use native.Mathlib.Omega.{arith}
use Rattle.stored_answers.specs.Numbers.{onward}

pub onward_twice : (at m n : ℕ) → onward (onward at m) n ≡ onward at (m + n)
unfolding onward
onward_twice at m n = omega arith
