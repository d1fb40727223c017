use Rattle.marks.proofs.Aside.{Putting}
use Rattle.marks.proofs.keep.put_aside.Given as goal

abbrev pub invariant-loop-row : goal.invariant-loop-row
invariant-loop-row l = Putting l.in_use l.initial.store l.initial.marks l.from l.stop l.store l.marks l.row
