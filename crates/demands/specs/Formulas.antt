-- Document 02, 14/14, of the entry that writes small formulas, by what it promises and nothing else: demand 1, and what stands in its output.
-- proofs/Formulas.antt proves it.
use Rattle.std.specs.Prelude.{◌≡◌, true, List, [], ◌∷◌, ℕ, length, take, drop, Result, Ok}
use Rattle.refusals.specs.Reasons.{refusal_in}
use Rattle.refusals.specs.declared.Refused.{Refused}
use Rattle.formula_images.specs.Images.{formula_image, is_there, formula_refusal, WritesFormula}
use Rattle.demands.specs.Demand1.{Answered}

-- "Refused: 24, ..; 17 for room"
abbrev pub formula_numbers : List ℕ
formula_numbers = 24 ∷ 17 ∷ []

-- "the image is written": the formula is there, the image's bytes stand at the output's start, and behind them is what was there
pub record TheImage (size place n : ℕ) (out out2 : List ℕ) : Type 0 where
  pub there : is_there size place ≡ true
  pub bytes : n ≡ length (formula_image size place)
  pub image : take n out2 ≡ formula_image size place
  pub behind : drop n out2 ≡ drop n out

pub record Formulas1 : Type 0 where
  pub answered : (size place : ℕ) (out : List ℕ) (r : Result ℕ Refused) (out2 : List ℕ) → WritesFormula size place out r out2
      → Answered formula_numbers (formula_refusal size place (length out)) (refusal_in r) (out2 ≡ out)
  pub written : (size place : ℕ) (out : List ℕ) (n : ℕ) (out2 : List ℕ) → WritesFormula size place out (Ok n) out2 → TheImage size place n out out2
