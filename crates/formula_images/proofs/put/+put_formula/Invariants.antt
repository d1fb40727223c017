-- An operand is smaller.
-- Assumes nothing.
use Rattle.formula_images.proofs.put.+put_formula.Given as goal

abbrev pub decreases-put_formula : goal.decreases-put_formula
decreases-put_formula l = l.at.size
