use mathlib.Core.Path.{refl}
use Rattle.acts.proofs.Laws.{laid_move_to}
use Rattle.acts.proofs.State.move_to.Goals as goal

pub returns : goal.returns
returns c = record { laid = laid_move_to refl; same = refl }
