use Rattle.acts.proofs.Laws.{lays, room_first, room_next, lays_then}
use Rattle.layout.specs.Layout.{path_next}
use Rattle.layout.proofs.Lays.{lays_as, laid_as, has_at}
use Rattle.layout.proofs.paths.path_next.Goals as goal

pub line_if-requires : goal.line_if-requires
unfolding path_next
line_if-requires c = room_first _ c.requires.room

pub gap-requires : goal.gap-requires
unfolding path_next
gap-requires c = (rw (c.end-position.ensures, c.requires.held.head.end) (room_first _ (room_next c.requires.room (lays c.line_if.ensures.laid))))

pub word-requires : goal.word-requires
unfolding path_next
word-requires c =
    room_first _ (room_next (room_next c.requires.room (lays c.line_if.ensures.laid))
    (rw (c.end-position.ensures, c.requires.held.head.end) at (lays c.gap.ensures.laid)))

pub ident-requires : goal.ident-requires
unfolding path_next
ident-requires c =
    has_at c.requires (room_next (room_next (room_next c.requires.room (lays c.line_if.ensures.laid))
    (rw (c.end-position.ensures, c.requires.held.head.end) at (lays c.gap.ensures.laid)))
    (lays c.word.ensures.laid))

pub returns : goal.returns
unfolding path_next
returns c =
    laid_as (cc) (record {
      of =
          λ i h. lays_then (lays c.line_if.ensures.laid) (lays_then (rw (c.end-position.ensures, h.head.end) at (lays c.gap.ensures.laid))
          (lays_then (lays c.word.ensures.laid) ((lays_as c.requires.accepted c.ident.ensures).of i h)));
    })
