use Rattle.acts.proofs.Laws.{room_first, room_next, room_assoc, lays_then, lays_assoc}
use Rattle.layout.specs.Layout as rules
use Rattle.tree.specs.At.{DeclarationAt}
use Rattle.layout.proofs.Places.{within, head_whole, ident_whole}
use Rattle.layout.proofs.Lays.{lays_as, laid_as}
use Rattle.layout.proofs.declarations.filter_map.Goals as goal

pub third-q-requires : goal.third-q-requires
unfolding DeclarationAt
third-q-requires c =
    record { second_in_image = within (ident_whole c.requires.held.1); third_in_image = within (head_whole c.requires.held.2) }

pub declares_function-requires : goal.declares_function-requires
unfolding DeclarationAt rules.declaration
declares_function-requires c =
    record {
      accepted = c.requires.accepted;
      tree = (c.requires.tree.0, (c.requires.tree.1, c.requires.tree.2));
      held = (c.requires.held.1, (c.requires.held.2, c.requires.held.3));
      room = room_first _ (room_assoc _ _ _ (room_assoc _ _ _ c.requires.room));
    }

pub block-requires : goal.block-requires
unfolding DeclarationAt rules.declaration
block-requires c =
    rw c.third-q.ensures (record {
      accepted = c.requires.accepted;
      tree = c.requires.tree.3;
      held = c.requires.held.4;
      room =
          room_next (room_assoc _ _ _ (room_assoc _ _ _ c.requires.room))
          ((lays_as c.requires.accepted c.declares_function.ensures).of (c.requires.tree.0, (c.requires.tree.1, c.requires.tree.2))
          (c.requires.held.1, (c.requires.held.2, c.requires.held.3)));
    })

pub returns : goal.returns
unfolding DeclarationAt rules.declaration
returns c =
    laid_as (cc) (record {
      of =
          λ x a.
          lays_assoc _ _ _ (lays_assoc _ _ _
          (lays_then ((lays_as c.requires.accepted c.declares_function.ensures).of (x.0, (x.1, x.2)) (a.1, (a.2, a.3)))
          ((lays_as c.requires.accepted c.block.ensures).of x.3 (rw c.third-q.ensures a.4))));
    })
