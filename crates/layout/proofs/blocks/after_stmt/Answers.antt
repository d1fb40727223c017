use Rattle.acts.proofs.Laws.{room_first, room_past, laid_then}
use Rattle.layout.specs.Layout.{after_stmt}
use Rattle.layout.proofs.blocks.after_stmt.Goals as goal

pub gap-requires : goal.gap-requires
unfolding after_stmt
gap-requires c = (room_first _ c.requires)

pub pop_trailing_comment-requires : goal.pop_trailing_comment-requires
unfolding after_stmt
pop_trailing_comment-requires c = (room_past c.requires c.gap.ensures.laid)

pub returns : goal.returns
unfolding after_stmt
returns c = record { laid = laid_then c.gap.ensures.laid c.pop_trailing_comment.ensures.laid; same = cc }
