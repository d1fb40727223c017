-- Something is not nothing.
-- Assumes nothing.
use mathlib.Core.Path.{◌≡◌, ap}
use Rattle.std.specs.Prelude.{Option, None, Some}
use Prim.Native.Nat.{ℕ}
use native.Mathlib.Omega.{arith}

abbrev count : {A : Type 0} → Option A → ℕ
count None = 0
count (Some a) = 1

pub never : {A : Type 0} (a : A) → ◌≡◌ {A = Option A} (Some a) None → ⊥
never a e = let z : ◌≡◌ {A = ℕ} 1 0 = ap count e in omega arith
