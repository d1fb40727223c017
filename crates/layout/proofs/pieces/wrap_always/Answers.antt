use Rattle.acts.proofs.Laws.{laid_skip}
use Rattle.layout.proofs.pieces.wrap_always.Goals as goal

pub push-requires : goal.push-requires
push-requires c = record { room = rw c.in-Wrap.is at c.requires; small = tt }

pub returns-in-Wrap : goal.returns-in-Wrap
returns-in-Wrap c = record { laid = rw c.in-Wrap.is c.push.ensures.laid; same = cc }

pub returns-in-Tight : goal.returns-in-Tight
returns-in-Tight c = record { laid = rw c.in-Tight.is laid_skip; same = cc }

pub returns-in-Spaced : goal.returns-in-Spaced
returns-in-Spaced c = record { laid = rw c.in-Spaced.is laid_skip; same = cc }
