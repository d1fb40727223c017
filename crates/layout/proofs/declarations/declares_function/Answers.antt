use Rattle.acts.proofs.Laws.{lays, room_first, room_next, lays_then}
use Rattle.layout.proofs.Places.{within, ident_whole}
use Rattle.layout.proofs.Lays.{lays_as, laid_as}
use Rattle.layout.proofs.declarations.declares_function.Goals as goal

pub second-p-requires : goal.second-p-requires
second-p-requires c = within (ident_whole c.requires.held.0)

pub declares-requires : goal.declares-requires
declares-requires c =
    record {
      accepted = c.requires.accepted;
      tree = c.requires.tree.0;
      held = c.requires.held.0;
      room = room_first _ (room_first _ c.requires.room);
    }

pub params-requires : goal.params-requires
params-requires c =
    rw c.second-p.ensures (record {
      accepted = c.requires.accepted;
      tree = c.requires.tree.1;
      held = c.requires.held.1;
      room = room_next (room_first _ c.requires.room) ((lays_as c.requires.accepted c.declares.ensures).of c.requires.tree.0 c.requires.held.0);
    })

pub word-requires : goal.word-requires
word-requires c =
    room_next c.requires.room
    (lays_then ((lays_as c.requires.accepted c.declares.ensures).of c.requires.tree.0 c.requires.held.0)
    ((rw c.second-p.ensures at (lays_as c.requires.accepted c.params.ensures)).of c.requires.tree.1 c.requires.held.1))

pub returns : goal.returns
returns c =
    laid_as (cc) (record {
      of =
          λ x a.
          lays_then
          (lays_then ((lays_as c.requires.accepted c.declares.ensures).of x.0 a.0)
          ((rw c.second-p.ensures at (lays_as c.requires.accepted c.params.ensures)).of x.1 a.1))
          (lays c.word.ensures.laid);
    })
