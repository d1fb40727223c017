use Rattle.acts.proofs.Laws.{room_first, room_past, laid_then, laid_skip}
use Rattle.layout.specs.Layout.{block_start}
use Rattle.layout.proofs.blocks.block_start.Goals as goal

pub word-requires : goal.word-requires
unfolding block_start
word-requires c = room_first _ c.requires

pub push-requires : goal.push-requires
unfolding block_start
push-requires c = record { room = room_first _ (room_past c.requires c.word.ensures.laid); small = tt }

pub returns-then-empty : goal.returns-then-empty
unfolding block_start
returns-then-empty c =
    record { laid = rw c.if-empty.true (laid_then c.word.ensures.laid (laid_then c.push.ensures.laid laid_skip)); same = cc }

pub push-requires-2 : goal.push-requires-2
unfolding block_start
push-requires-2 c =
    record { room = rw c.if-empty.false at (room_past (room_past c.requires c.word.ensures.laid) c.push.ensures.laid); small = tt }

pub returns : goal.returns
unfolding block_start
returns c =
    record { laid = rw c.if-empty.false (laid_then c.word.ensures.laid (laid_then c.push.ensures.laid c.push-2.ensures.laid)); same = cc }
