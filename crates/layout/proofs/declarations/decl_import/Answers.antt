use Rattle.acts.proofs.Laws.{lays, room_first, room_next, lays_then}
use Rattle.layout.specs.Layout as rules
use Rattle.tree.specs.At.{DeclarationAt}
use Rattle.layout.proofs.Places.{import_whole, import_start}
use Rattle.layout.proofs.Lays.{lays_as, laid_as}
use Rattle.layout.proofs.declarations.decl_import.Goals as goal

pub start-requires : goal.start-requires
unfolding DeclarationAt
start-requires c = import_whole _ _ _ c.requires.tree c.requires.held

pub opening-requires : goal.opening-requires
unfolding DeclarationAt rules.declaration
opening-requires c = (room_first _ (rw (← (import_start _ _ _ c.requires.tree c.requires.held), ← c.start.ensures) at c.requires.room))

pub word-requires : goal.word-requires
unfolding DeclarationAt rules.declaration
word-requires c =
    room_first _ (room_next (rw (← (import_start _ _ _ c.requires.tree c.requires.held), ← c.start.ensures) at c.requires.room)
    (lays c.opening.ensures.laid))

pub import_path-requires : goal.import_path-requires
unfolding DeclarationAt rules.declaration
import_path-requires c =
    record {
      accepted = c.requires.accepted;
      tree = c.requires.tree;
      held = c.requires.held;
      room =
          room_first _ (room_next (room_next
          (rw (← (import_start _ _ _ c.requires.tree c.requires.held), ← c.start.ensures) at c.requires.room)
          (lays c.opening.ensures.laid))
          (lays c.word.ensures.laid));
    }

pub word-requires-2 : goal.word-requires-2
unfolding DeclarationAt rules.declaration
word-requires-2 c =
    room_next (room_next (room_next (rw (← (import_start _ _ _ c.requires.tree c.requires.held), ← c.start.ensures) at c.requires.room)
    (lays c.opening.ensures.laid))
    (lays c.word.ensures.laid))
    ((lays_as c.requires.accepted c.import_path.ensures).of c.requires.tree c.requires.held)

pub returns : goal.returns
unfolding DeclarationAt rules.declaration
returns c =
    laid_as (cc) (record {
      of =
          λ x a. rw (← (import_start _ _ _ x a), ← c.start.ensures) (lays_then (lays c.opening.ensures.laid)
          (lays_then (lays c.word.ensures.laid)
          (lays_then ((lays_as c.requires.accepted c.import_path.ensures).of x a) (lays c.word-2.ensures.laid))));
    })
