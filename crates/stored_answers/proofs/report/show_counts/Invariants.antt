use Rattle.stored_answers.proofs.Counting.{Counting}
use Rattle.stored_answers.proofs.report.show_counts.Given as goal

abbrev pub invariant-loop-number : goal.invariant-loop-number
invariant-loop-number g l = Counting l.counts l.all l.number
