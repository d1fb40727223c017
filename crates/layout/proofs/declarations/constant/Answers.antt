use Rattle.acts.proofs.Laws.{lays, room_first, room_next, lays_then}
use Rattle.layout.specs.Layout as rules
use Rattle.tree.specs.At.{DeclarationAt}
use Rattle.layout.proofs.Places.{within, ident_whole, type_whole}
use Rattle.layout.proofs.Lays.{lays_as, laid_as}
use Rattle.layout.proofs.declarations.constant.Goals as goal

pub second-p-requires : goal.second-p-requires
unfolding DeclarationAt
second-p-requires c = within (ident_whole c.requires.held.1)

pub third-q-requires : goal.third-q-requires
unfolding DeclarationAt
third-q-requires c =
    record {
      second_in_image = within (ident_whole c.requires.held.1);
      third_in_image = within (type_whole _ _ _ c.requires.tree.1 c.requires.held.2);
    }

pub declares-requires : goal.declares-requires
unfolding DeclarationAt rules.declaration
declares-requires c =
    record { accepted = c.requires.accepted; tree = c.requires.tree.0; held = c.requires.held.1; room = room_first _ c.requires.room }

pub word-requires : goal.word-requires
unfolding DeclarationAt rules.declaration
word-requires c =
    room_first _
    (room_next c.requires.room ((lays_as c.requires.accepted c.declares.ensures).of c.requires.tree.0 c.requires.held.1))

pub type_expr-requires : goal.type_expr-requires
unfolding DeclarationAt rules.declaration
type_expr-requires c =
    rw c.second-p.ensures (record {
      accepted = c.requires.accepted;
      tree = c.requires.tree.1;
      held = c.requires.held.2;
      room =
          room_first _ (room_next
          (room_next c.requires.room ((lays_as c.requires.accepted c.declares.ensures).of c.requires.tree.0 c.requires.held.1))
          (lays c.word.ensures.laid));
    })

pub word-requires-2 : goal.word-requires-2
unfolding DeclarationAt rules.declaration
word-requires-2 c =
    room_first _ (room_next (room_next
    (room_next c.requires.room ((lays_as c.requires.accepted c.declares.ensures).of c.requires.tree.0 c.requires.held.1))
    (lays c.word.ensures.laid))
    ((lays_as c.requires.accepted c.type_expr.ensures).of c.requires.tree.1 (rw c.second-p.ensures c.requires.held.2)))

pub expr-requires : goal.expr-requires
unfolding DeclarationAt rules.declaration
expr-requires c =
    rw c.third-q.ensures (record {
      accepted = c.requires.accepted;
      tree = c.requires.tree.2;
      held = c.requires.held.3;
      room =
          room_first _ (room_next (room_next (room_next
          (room_next c.requires.room ((lays_as c.requires.accepted c.declares.ensures).of c.requires.tree.0 c.requires.held.1))
          (lays c.word.ensures.laid))
          ((lays_as c.requires.accepted c.type_expr.ensures).of c.requires.tree.1 (rw c.second-p.ensures c.requires.held.2)))
          (lays c.word-2.ensures.laid));
    })

pub word-requires-3 : goal.word-requires-3
unfolding DeclarationAt rules.declaration
word-requires-3 c =
    room_next (room_next (room_next (room_next
    (room_next c.requires.room ((lays_as c.requires.accepted c.declares.ensures).of c.requires.tree.0 c.requires.held.1))
    (lays c.word.ensures.laid))
    ((lays_as c.requires.accepted c.type_expr.ensures).of c.requires.tree.1 (rw c.second-p.ensures c.requires.held.2)))
    (lays c.word-2.ensures.laid))
    ((lays_as c.requires.accepted c.expr.ensures).of c.requires.tree.2 (rw c.third-q.ensures c.requires.held.3))

pub returns : goal.returns
unfolding DeclarationAt rules.declaration
returns c =
    laid_as (cc) (record {
      of =
          λ x a. lays_then ((lays_as c.requires.accepted c.declares.ensures).of x.0 a.1) (lays_then (lays c.word.ensures.laid)
          (lays_then ((lays_as c.requires.accepted c.type_expr.ensures).of x.1 (rw c.second-p.ensures a.2))
          (lays_then (lays c.word-2.ensures.laid) (lays_then
          ((lays_as c.requires.accepted c.expr.ensures).of x.2 (rw c.third-q.ensures a.3))
          (lays c.word-3.ensures.laid)))));
    })
