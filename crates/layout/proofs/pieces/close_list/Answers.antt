use Rattle.acts.proofs.Laws.{room_first, room_past, laid_then}
use Rattle.layout.proofs.pieces.close_list.Goals as goal

pub edge-requires : goal.edge-requires
edge-requires c = room_first _ c.requires

pub word-requires : goal.word-requires
word-requires c =
    room_first _ (room_past c.requires c.edge.ensures.laid)

pub pop_trailing_comment-requires : goal.pop_trailing_comment-requires
pop_trailing_comment-requires c = (room_past (room_past c.requires c.edge.ensures.laid) c.word.ensures.laid)

pub returns : goal.returns
returns c =
    record { laid = laid_then c.edge.ensures.laid (laid_then c.word.ensures.laid c.pop_trailing_comment.ensures.laid); same = cc }
