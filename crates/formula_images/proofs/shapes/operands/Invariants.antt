-- The place is `rest` among the formulas whose left operand has size k or more.
-- Assumes nothing.
use Prim.Native.Nat.{◌-◌}
use Rattle.formula_images.proofs.Splits.{Going}
use Rattle.formula_images.proofs.shapes.operands.Given as goal

abbrev pub invariant-loop-here : goal.invariant-loop-here
invariant-loop-here l = Going l.size l.place l.k l.rest l.here

abbrev pub decreases-loop-here : goal.decreases-loop-here
decreases-loop-here l = l.size - l.k
