-- What is ahead has the rest of the offenders.
use Prim.Native.Nat.{◌-◌}
use Rattle.readback.proofs.Ahead.{Walking}
use Rattle.readback.proofs.walk.first_broken.Given as goal

abbrev pub invariant-loop-at : goal.invariant-loop-at
invariant-loop-at l = Walking l.image l.tree l.at l.best

abbrev pub decreases-loop-at : goal.decreases-loop-at
decreases-loop-at l = l.best - l.at
