-- Each turn keeps the divisor, and lowers the second number.
-- Assumes nothing.
use Rattle.std.proofs.Common.{◌≡◌}
use Rattle.tallies.specs.Fraction.{common_divisor}
use Rattle.tallies.proofs.lowest.common_divisor.Given as goal

abbrev pub invariant-loop-b : goal.invariant-loop-b
invariant-loop-b l = common_divisor l.a l.b ≡ common_divisor l.fn.a l.fn.b

abbrev pub decreases-loop-b : goal.decreases-loop-b
decreases-loop-b l = l.b
