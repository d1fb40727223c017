use Rattle.acts.proofs.Laws.{room_first, room_past, laid_then}
use Rattle.layout.specs.Layout.{opens}
use Rattle.layout.proofs.pieces.open_list.Goals as goal

pub wrap_always-requires : goal.wrap_always-requires
unfolding opens
wrap_always-requires c = room_first _ c.requires

pub word-requires : goal.word-requires
unfolding opens
word-requires c = room_first _ (room_past c.requires c.wrap_always.ensures.laid)

pub edge-requires : goal.edge-requires
unfolding opens
edge-requires c =
    room_past (room_past c.requires c.wrap_always.ensures.laid) c.word.ensures.laid

pub returns : goal.returns
unfolding opens
returns c =
    record { laid = laid_then c.wrap_always.ensures.laid (laid_then c.word.ensures.laid c.edge.ensures.laid); same = cc }
