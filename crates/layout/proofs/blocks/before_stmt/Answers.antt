use Rattle.acts.proofs.Laws.{room_first, room_past, laid_then}
use Rattle.layout.specs.Layout.{before_stmt}
use Rattle.layout.proofs.blocks.before_stmt.Goals as goal

pub gap-requires : goal.gap-requires
unfolding before_stmt
gap-requires c = (room_first _ (rw c.if-first.true at c.requires))

pub push-requires : goal.push-requires
unfolding before_stmt
push-requires c =
    record { room = room_past (rw c.if-first.true at c.requires) c.gap.ensures.laid; small = tt }

pub returns-then-first : goal.returns-then-first
unfolding before_stmt
returns-then-first c =
    record { laid = rw c.if-first.true (laid_then c.gap.ensures.laid c.push.ensures.laid); same = cc }

pub gap-requires-2 : goal.gap-requires-2
unfolding before_stmt
gap-requires-2 c = (room_first _ (rw c.if-first.false at c.requires))

pub push-requires-2 : goal.push-requires-2
unfolding before_stmt
push-requires-2 c =
    record { room = room_past (rw c.if-first.false at c.requires) c.gap-2.ensures.laid; small = tt }

pub returns : goal.returns
unfolding before_stmt
returns c =
    record { laid = rw c.if-first.false (laid_then c.gap-2.ensures.laid c.push-2.ensures.laid); same = cc }
