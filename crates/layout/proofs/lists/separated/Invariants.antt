use Prim.Native.Nat.{◌+◌}
use Rattle.layout.specs.Elems.{Laying, ElemsAt, elements_rule}
use Rattle.layout.proofs.Walking.{Walking}
use Rattle.layout.proofs.lists.separated.Given as goal

abbrev pub invariant-loop-p : goal.invariant-loop-p
invariant-loop-p g l =
    Walking (ElemsAt (Laying g.F.Fn l.f)) (elements_rule l.form.commas l.initial.first) (elements_rule l.form.commas l.first) l.parsed (l.at + 13) l.last
    l.p-iterator l.initial.state l.state
