use Rattle.acts.proofs.Laws.{room_first, room_past, laid_then, laid_skip}
use Rattle.layout.specs.Layout.{ends}
use Rattle.layout.proofs.pieces.end_elems.Goals as goal

pub if_wrap-requires : goal.if_wrap-requires
unfolding ends
if_wrap-requires c = room_first _ (rw c.if-commas.true at c.requires)

pub gap-requires : goal.gap-requires
unfolding ends
gap-requires c = (room_past (rw c.if-commas.true at c.requires) c.if_wrap.ensures.laid)

pub returns-then-commas : goal.returns-then-commas
unfolding ends
returns-then-commas c =
    record { laid = rw c.if-commas.true (laid_then c.if_wrap.ensures.laid c.gap.ensures.laid); same = cc }

pub gap-requires-2 : goal.gap-requires-2
unfolding ends
gap-requires-2 c = (room_past (rw c.if-commas.false at c.requires) (laid_skip {s = c.args.state.now.store.now}))

pub returns : goal.returns
unfolding ends
returns c = record { laid = rw c.if-commas.false (laid_then laid_skip c.gap-2.ensures.laid); same = cc }
