use Rattle.acts.proofs.Laws.{room_first, room_next, room_assoc, lays_then, lays_assoc}
use Rattle.layout.specs.Layout as rules
use Rattle.tree.specs.At.{DeclarationAt}
use Rattle.layout.proofs.Places.{within, ident_whole, maybe_list}
use Rattle.layout.proofs.Lays.{lays_as, laid_as}
use Rattle.layout.proofs.declarations.decl_record.Goals as goal

pub third-q-requires : goal.third-q-requires
unfolding DeclarationAt
third-q-requires c =
    record {
      second_in_image = within (ident_whole c.requires.held.1);
      third_in_image = maybe_list _ _ _ c.requires.tree.1 c.requires.held.2;
    }

pub declares_type-requires : goal.declares_type-requires
unfolding DeclarationAt rules.declaration
declares_type-requires c =
    record {
      accepted = c.requires.accepted;
      tree = (c.requires.tree.0, c.requires.tree.1);
      held = (c.requires.held.1, c.requires.held.2);
      room = room_first _ (room_assoc _ _ _ (room_assoc _ _ _ c.requires.room));
    }

pub record_type-requires : goal.record_type-requires
unfolding DeclarationAt rules.declaration
record_type-requires c =
    rw c.third-q.ensures (record {
      accepted = c.requires.accepted;
      tree = (c.requires.tree.2, c.requires.tree.3);
      held = (c.requires.held.3, c.requires.held.4);
      room =
          room_next (room_assoc _ _ _ (room_assoc _ _ _ c.requires.room))
          ((lays_as c.requires.accepted c.declares_type.ensures).of (c.requires.tree.0, c.requires.tree.1) (c.requires.held.1, c.requires.held.2));
    })

pub returns : goal.returns
unfolding DeclarationAt rules.declaration
returns c =
    laid_as (cc) (record {
      of =
          λ x a.
          lays_assoc _ _ _ (lays_assoc _ _ _
          (lays_then ((lays_as c.requires.accepted c.declares_type.ensures).of (x.0, x.1) (a.1, a.2))
          ((rw c.third-q.ensures at (lays_as c.requires.accepted c.record_type.ensures)).of (x.2, x.3) (a.3, a.4))));
    })
