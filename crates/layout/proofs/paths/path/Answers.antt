use Rattle.acts.proofs.Laws.{lays, room_first, room_next, lays_then}
use Rattle.acts.proofs.Closes.{closes_group, closes_indent}
use Rattle.acts.proofs.Nested.{opens_group, room_group, opens_indent, room_indent}
use Rattle.layout.specs.Layout.{path_rule}
use Rattle.layout.proofs.Lays.{lays_as, lays_all, laid_as}
use Rattle.layout.proofs.paths.path.Goals as goal

pub open-group-requires : goal.open-group-requires
unfolding path_rule
open-group-requires c = opens_group _ (room_first _ (rw c.if-group.true at c.requires.room))

pub ident-requires : goal.ident-requires
unfolding path_rule
ident-requires c =
    record {
      accepted = c.requires.accepted;
      tree = c.requires.tree.first;
      held = c.requires.held.first;
      room = room_first _ (room_group _ (room_first _ (rw c.if-group.true at c.requires.room)) c.open-group.ensures.opened);
    }

pub open-indent-requires : goal.open-indent-requires
unfolding path_rule
open-indent-requires c =
    opens_indent _ (room_next (room_group _ (room_first _ (rw c.if-group.true at c.requires.room)) c.open-group.ensures.opened)
    ((lays_as c.requires.accepted c.ident.ensures).of c.requires.tree.first c.requires.held.first))

pub path_more-requires : goal.path_more-requires
unfolding path_rule
path_more-requires c =
    rw (c.second-from.ensures, c.past-to.ensures) (record {
      accepted = c.requires.accepted;
      tree = c.requires.tree.more;
      held = c.requires.held.more;
      inside = c.requires.held.head.head.fits;
      room =
          room_indent (room_next (room_group _ (room_first _ (rw c.if-group.true at c.requires.room)) c.open-group.ensures.opened)
          ((lays_as c.requires.accepted c.ident.ensures).of c.requires.tree.first c.requires.held.first))
          c.open-indent.ensures.opened;
    })

pub pop_trailing_comment-requires : goal.pop_trailing_comment-requires
unfolding path_rule
pop_trailing_comment-requires c = (room_next (rw c.if-group.true at c.requires.room) (closes_group _ c.open-group.ensures
    (lays_then ((lays_as c.requires.accepted c.ident.ensures).of c.requires.tree.first c.requires.held.first)
    (closes_indent c.open-indent.ensures ((lays_all c.requires.accepted
    (rw c.past-to.ensures c.requires.held.head.head.fits) c.path_more.ensures).of c.requires.tree.more
    (rw (c.second-from.ensures, c.past-to.ensures) c.requires.held.more))
    c.close.ensures))
    c.close-then-group.ensures))

pub returns-then-group : goal.returns-then-group
unfolding path_rule
returns-then-group c =
    laid_as (cc) (record {
      of =
          λ p h. rw c.if-group.true (lays_then (closes_group _ c.open-group.ensures (lays_then
          ((lays_as c.requires.accepted c.ident.ensures).of p.first h.first) (closes_indent c.open-indent.ensures
          ((lays_all c.requires.accepted (rw c.past-to.ensures c.requires.held.head.head.fits) c.path_more.ensures).of
          p.more (rw (c.second-from.ensures, c.past-to.ensures) h.more))
          c.close.ensures))
          c.close-then-group.ensures)
          (lays c.pop_trailing_comment.ensures.laid));
    })

pub ident-requires-2 : goal.ident-requires-2
unfolding path_rule
ident-requires-2 c =
    record {
      accepted = c.requires.accepted;
      tree = c.requires.tree.first;
      held = c.requires.held.first;
      room = room_first _ (rw c.if-group.false at c.requires.room);
    }

pub path_more-requires-2 : goal.path_more-requires-2
unfolding path_rule
path_more-requires-2 c =
    rw (c.second-from.ensures, c.past-to.ensures) (record {
      accepted = c.requires.accepted;
      tree = c.requires.tree.more;
      held = c.requires.held.more;
      inside = c.requires.held.head.head.fits;
      room =
          room_first _ (room_next (rw c.if-group.false at c.requires.room)
          ((lays_as c.requires.accepted c.ident-2.ensures).of c.requires.tree.first c.requires.held.first));
    })

pub pop_trailing_comment-requires-2 : goal.pop_trailing_comment-requires-2
unfolding path_rule
pop_trailing_comment-requires-2 c = (room_next (room_next (rw c.if-group.false at c.requires.room)
    ((lays_as c.requires.accepted c.ident-2.ensures).of c.requires.tree.first c.requires.held.first))
    ((lays_all c.requires.accepted (rw c.past-to.ensures c.requires.held.head.head.fits) c.path_more-2.ensures).of
    c.requires.tree.more (rw (c.second-from.ensures, c.past-to.ensures) c.requires.held.more)))

pub returns : goal.returns
unfolding path_rule
returns c =
    laid_as (cc) (record {
      of =
          λ p h. rw c.if-group.false (lays_then ((lays_as c.requires.accepted c.ident-2.ensures).of p.first h.first)
          (lays_then ((lays_all c.requires.accepted (rw c.past-to.ensures c.requires.held.head.head.fits)
          c.path_more-2.ensures).of p.more (rw (c.second-from.ensures, c.past-to.ensures) h.more))
          (lays c.pop_trailing_comment-2.ensures.laid)));
    })
