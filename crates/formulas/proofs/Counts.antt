-- How many formulas there are of each size.
-- Assumes nothing.
use mathlib.Core.Path.{refl}
use Rattle.formulas.specs.Formulas.{products, splits, of_size, up_to}
use Rattle.formulas.specs.Once.{Counted}

pub counts : Counted
unfolding products splits of_size up_to
counts = refl
