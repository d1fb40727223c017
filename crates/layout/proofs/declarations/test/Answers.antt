use Rattle.acts.proofs.Laws.{lays, room_first, room_next, lays_then}
use Rattle.layout.specs.Layout as rules
use Rattle.tree.specs.At.{DeclarationAt}
use Rattle.layout.proofs.Places.{within, ident_whole}
use Rattle.layout.proofs.Lays.{lays_as, laid_as}
use Rattle.layout.proofs.declarations.test.Goals as goal

pub second-p-requires : goal.second-p-requires
unfolding DeclarationAt
second-p-requires c = within (ident_whole c.requires.held.1)

pub declares-requires : goal.declares-requires
unfolding DeclarationAt rules.declaration
declares-requires c =
    record { accepted = c.requires.accepted; tree = c.requires.tree.0; held = c.requires.held.1; room = room_first _ c.requires.room }

pub word-requires : goal.word-requires
unfolding DeclarationAt rules.declaration
word-requires c =
    room_first _
    (room_next c.requires.room ((lays_as c.requires.accepted c.declares.ensures).of c.requires.tree.0 c.requires.held.1))

pub block-requires : goal.block-requires
unfolding DeclarationAt rules.declaration
block-requires c =
    rw c.second-p.ensures (record {
      accepted = c.requires.accepted;
      tree = c.requires.tree.1;
      held = c.requires.held.2;
      room =
          room_next
          (room_next c.requires.room ((lays_as c.requires.accepted c.declares.ensures).of c.requires.tree.0 c.requires.held.1))
          (lays c.word.ensures.laid);
    })

pub returns : goal.returns
unfolding DeclarationAt rules.declaration
returns c =
    laid_as (cc) (record {
      of =
          λ x a. lays_then ((lays_as c.requires.accepted c.declares.ensures).of x.0 a.1) (lays_then (lays c.word.ensures.laid)
          ((lays_as c.requires.accepted c.block.ensures).of x.1 (rw c.second-p.ensures a.2)));
    })
