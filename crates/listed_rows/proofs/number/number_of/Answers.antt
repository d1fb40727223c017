use mathlib.Core.Path.{◌∙◌}
use Rattle.listed_rows.proofs.Numbers.{number_is, bit_is, way_deeper, way_shallow}
use Rattle.listed_rows.proofs.number.number_of.Goals as goal
use Rattle.listed_rows.proofs.number.number_of.Goals.{then-f, else-f}

pub returns : goal.returns
returns c =
    elim c.if-f.branch [
      | then-f w ↦ number_is c.args.f _ _ (way_deeper _ _ w.if-f.true _ w.way'-is) (bit_is c.args.f.wrap _ c.from.ensures)
      | else-f w ↦ number_is c.args.f _ _ (way_shallow _ _ w.if-f.false _ (w.way'-is ∙ w.from-way.ensures)) (bit_is c.args.f.wrap _ c.from.ensures)
    ]
