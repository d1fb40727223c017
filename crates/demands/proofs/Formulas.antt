-- The entry refuses by its table, and else writes the image.
-- Assumes nothing.
use mathlib.Core.Path.{◌≡◌, refl, sym, ap, ap₂, ◌∙◌}
use mathlib.Core.Bool.{Bool, true, false, not}
use mathlib.Core.List.{List, [], ◌∷◌, ◌++◌}
use Prim.Native.Nat.{ℕ, ◌≤◌}
use Rattle.std.specs.Prelude.{Option, None, Ok}
use lib.Dec.{ltb}
use lib.ListN.{length, take, drop}
use lib.Seq.{sets, take-append_seam, drop-append_seam}
use borrow.Author.Tests.{ltb-false}
use Rattle.refusals.specs.Refusals.{Refusal, refuse_if, unless}
use Rattle.refusals.specs.Answers.{refusal_of}
use Rattle.refusals.specs.declared.Refused.{Refused}
use Rattle.refusals.proofs.Groups.{passes_line, passes_others, not_if}
use Rattle.refusals.proofs.Answers.{by_table, accepted_by, sets_front}
use Rattle.formula_images.specs.Images.{formula_image, is_there, formula_refusal, WritesFormula}
use Rattle.demands.specs.Formulas.{formula_numbers, TheImage, Formulas1}
use Rattle.demands.proofs.Demand1.{Under, under_if, under_first, answered, left_same, as_answer}

pub formula_under : (size place room : ℕ) → Under formula_numbers (formula_refusal size place room)
formula_under size place room =
    let gone = not (is_there size place) in
    let long = ltb room (length (formula_image size place)) in
    under_first formula_numbers (refuse_if gone 24 0 ∷ refuse_if long 17 (length (formula_image size place)) ∷ []) (
      under_if formula_numbers gone 24 0 refl,
      (under_if formula_numbers long 17 (length (formula_image size place)) refl, tt),
    )

not_gone : (t : Bool) → not t ≡ false → t ≡ true
not_gone true e = refl
not_gone false e = sym e

-- nothing refuses
passed : (size place room : ℕ) → formula_refusal size place room ≡ None
    → (is_there size place ≡ true) × (length (formula_image size place) ≤ room)
passed size place room e =
    let needed = length (formula_image size place) in
    let there = refuse_if (not (is_there size place)) 24 0 in
    let fits = refuse_if (ltb room needed) 17 needed in (
      not_gone (is_there size place) (not_if (not (is_there size place)) 24 0 (passes_line there (fits ∷ []) e)),
      ltb-false room needed (not_if (ltb room needed) 17 needed (passes_line fits [] (passes_others there (fits ∷ []) e))),
    )

the_image : (size place : ℕ) (out : List ℕ) (n : ℕ) (out2 : List ℕ) → WritesFormula size place out (Ok n) out2 → TheImage size place n out out2
the_image size place out n out2 p =
    let image = formula_image size place in
    let a = accepted_by (formula_refusal size place (length out)) n (length image) p.0 in
    let there = passed size place (length out) a.passes in
    let stored : out2 ≡ image ++ drop (length image) out =
    p.1 ∙ ap (λ (x : Option Refusal). unless x out (sets out 0 image)) a.passes ∙ sets_front image out there.1
    in
    record {
      there = there.0;
      bytes = a.is;
      image = ap₂ (λ (k : ℕ) (x : List ℕ). take k x) a.is stored ∙ take-append_seam image (drop (length image) out);
      behind =
          ap₂ (λ (k : ℕ) (x : List ℕ). drop k x) a.is stored
          ∙ drop-append_seam image (drop (length image) out)
          ∙ ap (λ (k : ℕ). drop k out) (sym a.is);
    }

pub formulas_1 : Formulas1
formulas_1 = record {
  answered =
      λ size place out r out2 p.
      answered (as_answer _ r ∙ ap refusal_of p.0 ∙ by_table (formula_refusal size place (length out)) _) (formula_under size place (length out))
      (λ q f. p.1 ∙ left_same _ q out _ f);
  written = the_image;
}
