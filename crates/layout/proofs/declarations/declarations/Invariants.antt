use Rattle.tree.specs.At.{DeclarationsAt}
use Rattle.layout.specs.Forms.{declarations_from}
use Rattle.layout.proofs.Walking.{Walking}
use Rattle.layout.proofs.declarations.declarations.Given as goal

abbrev pub invariant-loop-at : goal.invariant-loop-at
invariant-loop-at l =
    Walking DeclarationsAt (declarations_from l.opens) (declarations_from l.first) l.parsed l.from l.to l.at-iterator l.initial.state l.state
