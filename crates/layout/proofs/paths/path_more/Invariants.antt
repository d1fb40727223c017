use Rattle.tree.specs.At.{IdentsAt}
use Rattle.layout.specs.Layout.{path_more}
use Rattle.layout.proofs.Walking.{Walking}
use Rattle.layout.proofs.paths.path_more.Given as goal

abbrev pub invariant-loop-at : goal.invariant-loop-at
invariant-loop-at l =
    Walking IdentsAt (λ g. path_more g l.breaks) (λ g. path_more g l.breaks) l.parsed l.from l.to l.at-iterator l.initial.state l.state
