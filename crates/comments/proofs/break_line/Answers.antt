use mathlib.Core.Path.{refl}
use Rattle.acts.proofs.Laws.{lays_skip, lays_if}
use borrow.Author.Tests.{eq-eqb}
use Rattle.comments.proofs.break_line.Goals as goal

pub returns-in-0 : goal.returns-in-0
returns-in-0 c = record { laid = (lays_if _ (eq-eqb _ 0 c.in-0.is) lays_skip).does c.requires; same = refl }
