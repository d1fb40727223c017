use Rattle.acts.proofs.Laws.{laid_skip}
use Rattle.layout.proofs.paths.line_if.Goals as goal

pub push-requires : goal.push-requires
push-requires c = record { room = rw c.if-breaks.true at c.requires; small = tt }

pub returns-then-breaks : goal.returns-then-breaks
returns-then-breaks c = record { laid = rw c.if-breaks.true c.push.ensures.laid; same = cc }

pub returns-else-breaks : goal.returns-else-breaks
returns-else-breaks c = record { laid = rw c.if-breaks.false laid_skip; same = cc }
