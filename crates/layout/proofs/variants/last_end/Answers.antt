use Rattle.layout.proofs.Lasts.{first_whole, types_in, all, next_turn, last_turn}
use Rattle.layout.proofs.variants.last_end.Goals as goal

pub records-at-items-requires : goal.records-at-items-requires
records-at-items-requires c = types_in _ _ _ _ _ c.requires.held

pub loop-at-init : goal.loop-at-init
loop-at-init c = record { types = c.requires; left_is = all (cc); ends = λ r l. l }

pub loop-at-preserved : goal.loop-at-preserved
loop-at-preserved c = next_turn c.loop-at.invariant c.in-Some.ensures.steps

pub end-requires : goal.end-requires
end-requires c = first_whole c.loop-at.invariant.types

pub returns : goal.returns
returns c = rw c.end.ensures (last_turn c.loop-at.invariant c.in-None.ensures.steps.0)
