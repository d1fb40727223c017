use mathlib.Core.Path.{refl}
use Rattle.widths.proofs.Edition.table.Goals as goal

pub returns-in-Unicode151 : goal.returns-in-Unicode151
returns-in-Unicode151 c = rw c.in-Unicode151.is refl

pub returns-in-Unicode160 : goal.returns-in-Unicode160
returns-in-Unicode160 c = rw c.in-Unicode160.is refl
