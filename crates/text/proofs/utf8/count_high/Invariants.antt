-- The invariant: what is counted of the bytes passed.
use mathlib.Core.Path.{◌≡◌}
use Prim.Native.Nat.{ℕ, ◌≤◌}
use Rattle.text.specs.Utf8.{highs}
use Rattle.text.proofs.utf8.count_high.Given as goal

abbrev pub invariant-loop-k : goal.invariant-loop-k
invariant-loop-k l = (l.n ≤ l.k) × ◌≡◌ {A = ℕ} l.n (highs l.k l.s l.at)
