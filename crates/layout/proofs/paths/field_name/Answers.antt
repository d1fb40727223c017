use Rattle.acts.proofs.Laws.{lays, room_first, room_next, lays_then}
use Rattle.layout.proofs.Lays.{lays_as, laid_as, has_at}
use Rattle.layout.proofs.paths.field_name.Goals as goal

pub push-requires : goal.push-requires
push-requires c = record { room = room_first _ c.requires.room; small = tt }

pub word-requires : goal.word-requires
word-requires c =
    room_first _ (room_next c.requires.room (lays c.push.ensures.laid))

pub ident-requires : goal.ident-requires
ident-requires c =
    has_at c.requires (room_next (room_next c.requires.room (lays c.push.ensures.laid)) (lays c.word.ensures.laid))

pub returns : goal.returns
returns c =
    laid_as (cc) (record {
      of =
          λ i h. lays_then (lays c.push.ensures.laid)
          (lays_then (lays c.word.ensures.laid) ((lays_as c.requires.accepted c.ident.ensures).of i h));
    })
