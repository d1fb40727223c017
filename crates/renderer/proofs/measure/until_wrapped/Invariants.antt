-- The loop keeps `Passed`; each way out of it is a law of Sums.antt.
-- Assumes nothing.
use Prim.Native.Nat.{◌-◌}
use Rattle.renderer.specs.Measure.{Passed}
use Rattle.renderer.proofs.measure.until_wrapped.Given as goal

abbrev pub invariant-loop-row : goal.invariant-loop-row
invariant-loop-row l = Passed l.store l.marks l.from l.to l.row l.sum.0

abbrev pub decreases-loop-row : goal.decreases-loop-row
decreases-loop-row l = l.to - l.row
