use Rattle.layout.specs.Layout as rules
use Rattle.acts.proofs.Laws.{lays, room_first, room_next, lays_then}
use Rattle.layout.proofs.Lays.{lays_as, laid_as, has_at}
use Rattle.layout.proofs.declarations.declares.Goals as goal

pub opening-requires : goal.opening-requires
unfolding rules.declares
opening-requires c = (room_first _ (rw (← c.requires.held.head.start, ← c.start.ensures) at c.requires.room))

pub word-requires : goal.word-requires
unfolding rules.declares
word-requires c =
    room_first _ (room_next (rw (← c.requires.held.head.start, ← c.start.ensures) at c.requires.room) (lays c.opening.ensures.laid))

pub ident-requires : goal.ident-requires
unfolding rules.declares
ident-requires c =
    has_at c.requires (room_next
    (room_next (rw (← c.requires.held.head.start, ← c.start.ensures) at c.requires.room) (lays c.opening.ensures.laid))
    (lays c.word.ensures.laid))

pub returns : goal.returns
unfolding rules.declares
returns c =
    laid_as (cc) (record {
      of =
          λ i h. rw (← h.head.start, ← c.start.ensures) (lays_then (lays c.opening.ensures.laid)
          (lays_then (lays c.word.ensures.laid) ((lays_as c.requires.accepted c.ident.ensures).of i h)));
    })
