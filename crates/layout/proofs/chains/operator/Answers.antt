use Rattle.layout.specs.Layout as rules
use Rattle.acts.proofs.Laws.{lays, lays_asking, room_first, room_next, room_asked, room_asks, lays_then, lays_asks}
use Rattle.layout.proofs.Lays.{laid_as}
use Rattle.layout.proofs.chains.operator.Goals as goal

pub pop_whitespace-gap-requires : goal.pop_whitespace-gap-requires
unfolding rules.operator
pop_whitespace-gap-requires c = (room_asked _ _ (room_first _ (rw (
  ← c.requires.held.0.head.start,
  ← c.start.ensures,
  ← c.requires.held.0.which.byte,
  ← c.payload.ensures,
  ← c.of.ensures,
  ← c.symbol-symbol.ensures,
) at c.requires.room)))

pub between-requires : goal.between-requires
unfolding rules.operator
between-requires c =
    record {
      room =
          room_asks _ (room_first _ (rw (
            ← c.requires.held.0.head.start,
            ← c.start.ensures,
            ← c.requires.held.0.which.byte,
            ← c.payload.ensures,
            ← c.of.ensures,
            ← c.symbol-symbol.ensures,
          ) at c.requires.room)) (lays_asking c.pop_whitespace-gap.ensures.laid);
      small = tt;
    }

pub word-requires : goal.word-requires
unfolding rules.operator
word-requires c =
    room_first _ (room_next (rw (
      ← c.requires.held.0.head.start,
      ← c.start.ensures,
      ← c.requires.held.0.which.byte,
      ← c.payload.ensures,
      ← c.of.ensures,
      ← c.symbol-symbol.ensures,
    ) at c.requires.room) (lays_asks _ (lays_asking c.pop_whitespace-gap.ensures.laid) (lays c.between.ensures.laid)))

pub word-requires-2 : goal.word-requires-2
unfolding rules.operator
word-requires-2 c =
    room_next (room_next (rw (
      ← c.requires.held.0.head.start,
      ← c.start.ensures,
      ← c.requires.held.0.which.byte,
      ← c.payload.ensures,
      ← c.of.ensures,
      ← c.symbol-symbol.ensures,
    ) at c.requires.room) (lays_asks _ (lays_asking c.pop_whitespace-gap.ensures.laid) (lays c.between.ensures.laid)))
    (lays c.word.ensures.laid)

pub returns : goal.returns
unfolding rules.operator
returns c =
    laid_as (cc) (record {
      of =
          λ x a. rw
          (← a.0.head.start, ← c.start.ensures, ← a.0.which.byte, ← c.payload.ensures, ← c.of.ensures, ← c.symbol-symbol.ensures)
          (lays_then (lays_asks _ (lays_asking c.pop_whitespace-gap.ensures.laid) (lays c.between.ensures.laid))
          (lays_then (lays c.word.ensures.laid) (lays c.word-2.ensures.laid)));
    })
