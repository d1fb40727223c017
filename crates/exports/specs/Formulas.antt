-- Request 14: the numbers that the image of a formula leaves.
use Rattle.std.specs.Prelude.{◌≡◌, List, ℕ, length}
use Rattle.refusals.specs.Answers.{numbers_of}
use Rattle.formula_images.specs.Images.{formula_answer, formula_output}
use Rattle.exports.specs.Generator.{told_bytes}

-- the output, and the answer's numbers
abbrev pub PutsFormula : ℕ → ℕ → List ℕ → List ℕ → List ℕ → List ℕ → Type 0
PutsFormula size place output out output2 out2 =
    (output2 ≡ formula_output size place output) × (out2 ≡ numbers_of told_bytes (formula_answer size place (length output)) out)
