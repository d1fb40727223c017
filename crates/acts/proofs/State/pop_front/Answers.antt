use mathlib.Core.Path.{refl}
use Rattle.acts.proofs.Laws.{laid_pop}
use Rattle.acts.proofs.State.pop_front.Goals as goal

pub returns : goal.returns
returns c = record { laid = laid_pop refl; same = refl }
