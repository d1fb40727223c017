-- Each turn takes a file more; what is held is what the files so far give.
-- Assumes nothing.
use Rattle.std.proofs.Common.{◌-◌}
use Rattle.report.proofs.Turns.{Taken}
use Rattle.report.proofs.take_files.Given as goal

abbrev pub invariant-loop-progress : goal.invariant-loop-progress
invariant-loop-progress g l = Taken l.progress

abbrev pub decreases-loop-progress : goal.decreases-loop-progress
decreases-loop-progress g l = 18446744073709551615 - l.progress.files
