use Rattle.acts.proofs.Laws.{lays, room_first, room_next, lays_then}
use Rattle.acts.proofs.Closes.{closes_group, closes_indent}
use Rattle.acts.proofs.Nested.{opens_group, room_group, opens_indent, room_indent}
use Rattle.layout.specs.Layout.{separated, inside}
use Rattle.layout.proofs.Lays.{laid_empty}
use Rattle.layout.proofs.pieces.empty_list.Goals as goal

pub open-group-requires : goal.open-group-requires
unfolding separated inside
open-group-requires c = opens_group _ c.requires.room

pub word-requires : goal.word-requires
unfolding separated inside
word-requires c =
    room_first _ (room_group _ (rw (← c.requires.ended) at c.requires.room) c.open-group.ensures.opened)

pub push-requires : goal.push-requires
unfolding separated inside
push-requires c =
    record {
      room = room_first _
          (room_next (room_group _ (rw (← c.requires.ended) at c.requires.room) c.open-group.ensures.opened) (lays c.word.ensures.laid));
      small = tt;
    }

pub open-indent-requires : goal.open-indent-requires
unfolding separated inside
open-indent-requires c =
    opens_indent _ (room_first _ (room_next
    (room_next (room_group _ (rw (← c.requires.ended) at c.requires.room) c.open-group.ensures.opened) (lays c.word.ensures.laid))
    (lays c.push.ensures.laid)))

pub gap-requires : goal.gap-requires
unfolding separated inside
gap-requires c = (room_indent (room_first _ (room_next
    (room_next (room_group _ (rw (← c.requires.ended) at c.requires.room) c.open-group.ensures.opened) (lays c.word.ensures.laid))
    (lays c.push.ensures.laid)))
    c.open-indent.ensures.opened)

pub push-requires-2 : goal.push-requires-2
unfolding separated inside
push-requires-2 c =
    record {
      room = room_first _ (room_next (room_next
          (room_next (room_group _ (rw (← c.requires.ended) at c.requires.room) c.open-group.ensures.opened) (lays c.word.ensures.laid))
          (lays c.push.ensures.laid))
          (closes_indent c.open-indent.ensures (lays c.gap.ensures.laid) c.close.ensures));
      small = tt;
    }

pub word-requires-2 : goal.word-requires-2
unfolding separated inside
word-requires-2 c =
    room_first _ (room_next (room_next (room_next
    (room_next (room_group _ (rw (← c.requires.ended) at c.requires.room) c.open-group.ensures.opened) (lays c.word.ensures.laid))
    (lays c.push.ensures.laid))
    (closes_indent c.open-indent.ensures (lays c.gap.ensures.laid) c.close.ensures))
    (lays c.push-2.ensures.laid))

pub pop_trailing_comment-requires : goal.pop_trailing_comment-requires
unfolding separated inside
pop_trailing_comment-requires c = ((room_next (room_next (room_next (room_next
    (room_next (room_group _ (rw (← c.requires.ended) at c.requires.room) c.open-group.ensures.opened) (lays c.word.ensures.laid))
    (lays c.push.ensures.laid))
    (closes_indent c.open-indent.ensures (lays c.gap.ensures.laid) c.close.ensures))
    (lays c.push-2.ensures.laid))
    (lays c.word-2.ensures.laid)))

pub returns : goal.returns
unfolding separated inside
returns c =
    laid_empty (cc) (record {
      of =
          λ p e. rw (← e) (closes_group _ c.open-group.ensures (lays_then (lays c.word.ensures.laid) (lays_then
          (lays c.push.ensures.laid) (lays_then
          (closes_indent c.open-indent.ensures (lays c.gap.ensures.laid) c.close.ensures) (lays_then
          (lays c.push-2.ensures.laid) (lays_then (lays c.word-2.ensures.laid) (lays c.pop_trailing_comment.ensures.laid))))))
          c.close-2.ensures);
    })
