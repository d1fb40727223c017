use Rattle.acts.proofs.Laws.{room_first, room_past, laid_then, laid_skip}
use Rattle.layout.specs.Layout.{before_elem}
use Rattle.layout.proofs.pieces.before_elem.Goals as goal

pub gap-requires : goal.gap-requires
unfolding before_elem
gap-requires c = (room_first _ (room_past (rw c.if-first.true at c.requires) (laid_skip {s = c.args.state.now.store.now})))

pub returns-then-first : goal.returns-then-first
unfolding before_elem
returns-then-first c = record { laid = rw c.if-first.true (laid_then laid_skip (laid_then c.gap.ensures.laid laid_skip)); same = cc }

pub word-requires : goal.word-requires
unfolding before_elem
word-requires c = room_first _ (rw (c.if-first.false, c.if-commas.true) at c.requires)

pub gap-requires-then-commas : goal.gap-requires-then-commas
unfolding before_elem
gap-requires-then-commas c = (room_first _ (room_past (rw (c.if-first.false, c.if-commas.true) at c.requires) c.word.ensures.laid))

pub push-requires : goal.push-requires
unfolding before_elem
push-requires c =
    record {
      room = room_past (room_past (rw (c.if-first.false, c.if-commas.true) at c.requires) c.word.ensures.laid) c.gap-then-commas.ensures.laid;
      small = tt;
    }

pub returns-then-commas : goal.returns-then-commas
unfolding before_elem
returns-then-commas c =
    record {
      laid = rw (c.if-first.false, c.if-commas.true)
          (laid_then c.word.ensures.laid (laid_then c.gap-then-commas.ensures.laid c.push.ensures.laid));
      same = cc;
    }

pub gap-requires-2 : goal.gap-requires-2
unfolding before_elem
gap-requires-2 c = (room_first _ (room_past (rw (c.if-first.false, c.if-commas.false) at c.requires) (laid_skip {s = c.args.state.now.store.now})))

pub push-requires-2 : goal.push-requires-2
unfolding before_elem
push-requires-2 c =
    record {
      room =
          room_past
          (room_past (rw (c.if-first.false, c.if-commas.false) at c.requires) (laid_skip {s = c.args.state.now.store.now})) c.gap-2.ensures.laid;
      small = tt;
    }

pub returns : goal.returns
unfolding before_elem
returns c =
    record { laid = rw (c.if-first.false, c.if-commas.false) (laid_then laid_skip (laid_then c.gap-2.ensures.laid c.push-2.ensures.laid)); same = cc }
