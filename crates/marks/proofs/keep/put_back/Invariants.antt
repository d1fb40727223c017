use Rattle.marks.proofs.Aside.{Backing}
use Rattle.marks.proofs.keep.put_back.Given as goal

abbrev pub invariant-loop-row : goal.invariant-loop-row
invariant-loop-row l = Backing l.initial.store l.initial.marks l.from l.stop l.store l.marks l.row
