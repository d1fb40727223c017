-- The answer to a size and a place.
-- Assumes nothing.
use mathlib.Core.Path.{◌≡◌, refl, ap, ◌∙◌}
use mathlib.Core.Bool.{true, false, ◌&&◌}
use mathlib.Core.List.{List}
use Prim.Native.Nat.{ℕ, ◌+◌, ◌≤◌}
use native.Mathlib.Omega.{arith}
use lib.Dec.{ltb, leb}
use lib.ListN.{length, take}
use lib.Seq.{length-sets}
use borrow.Author.Tests.{lt-ltb, le-ltb, le-leb, leb-true, ltb-true}
use Rattle.laws.proofs.Booleans.{and_left, and_right}
use Rattle.refusals.specs.Answers.{Answer}
use Rattle.image.specs.Limits.{MAX_BODY}
use Rattle.image.specs.Read.{got}
use Rattle.steps.specs.Writer.{contents_from, writer_answer, writer_output}
use Rattle.tree.proofs.Ordered.{in_order}
use Rattle.steps.proofs.Sizes.{record_size}
use Rattle.steps.proofs.WholeAccepted.{contents_there}
use Rattle.writer.specs.Stands.{Puts}
use Rattle.formulas.specs.Formulas.{size, formulas}
use Rattle.formulas.specs.Places.{formula_at}
use Rattle.formulas.proofs.Places.{exchanged}
use Rattle.formula_images.specs.declared.shapes.Spot.{Spot}
use Rattle.formula_images.specs.Images.{formula_contents, formula_image, is_there, formula_answer, formula_output}
use Rattle.formula_images.specs.Parts.{There, const_steps}
use Rattle.formula_images.proofs.Steps.{const_length, taken_back}
use Rattle.formula_images.proofs.Laid.{bytes_at}
use Rattle.formula_images.proofs.Fitting.{contents_fit}

abbrev pub spot : ℕ → ℕ → Spot
spot n p = record { size = n; place = p }

-- ---- the test of 24
pub there_test : (n p : ℕ) → There (spot n p) → is_there n p ≡ true
there_test n p t = rw (le-leb 1 n t.least, le-leb n 7 t.most, lt-ltb p (length (formulas n)) t.inside)

pub there_is : (n p : ℕ) → is_there n p ≡ true → There (spot n p)
there_is n p h =
    let rest = and_right (leb 1 n) (leb n 7 && ltb p (length (formulas n))) h in
    record {
      least = leb-true 1 n (and_left (leb 1 n) (leb n 7 && ltb p (length (formulas n))) h);
      most = leb-true n 7 (and_left (leb n 7) (ltb p (length (formulas n))) rest);
      inside = ltb-true p (length (formulas n)) (and_right (leb n 7) (ltb p (length (formulas n))) rest);
    }

-- ---- the image
pub fits_at : (n p : ℕ) → There (spot n p) → size (formula_at n p) ≤ 7
fits_at n p t = omega (arith, (exchanged n).sized p t.inside, t.most)

module _ (n p : ℕ) (t : There (spot n p)) where
  steps_short : length (const_steps (formula_at n p)) ≤ 373
  steps_short = omega (arith, const_length (formula_at n p), bytes_at (spot n p) t, t.most)

  taken_as : contents_from (const_steps (formula_at n p)) ≡ got (formula_contents (formula_at n p)) (length (const_steps (formula_at n p)))
  unfolding const_steps in_order
  taken_as = contents_there (formula_contents (formula_at n p)) (contents_fit (formula_at n p) (fits_at n p t)) refl

  pub image_short : length (formula_image n p) ≤ 753
  unfolding const_steps
  image_short = omega (arith, record_size (contents_fit (formula_at n p) (fits_at n p t)).tree, steps_short)

  not_long : ltb (5 + MAX_BODY) (length (formula_image n p)) ≡ false
  not_long = le-ltb (5 + MAX_BODY) (length (formula_image n p)) (omega (arith, image_short))

  answer_is : (room : ℕ) → writer_answer (const_steps (formula_at n p)) room ≡ formula_answer n p room
  answer_is room = rw (taken_as, not_long, there_test n p t)

  output_is : (out : List ℕ) → writer_output (const_steps (formula_at n p)) out ≡ formula_output n p out
  output_is out = rw (taken_as, not_long, there_test n p t)

  module _ (store o : List ℕ) (end : ℕ) (big : length store ≡ 512) (puts : Puts (const_steps (formula_at n p)) 0 store end o) where
    pub end_inside : end ≤ length o
    end_inside = omega (arith, puts.place, ap length puts.output ∙ length-sets store 0 (const_steps (formula_at n p)), steps_short)

    pub written_by : (answer : Answer ℕ) (out now : List ℕ) → answer ≡ writer_answer (take end o) (length out)
        → now ≡ writer_output (take end o) out → (answer ≡ formula_answer n p (length out)) × (now ≡ formula_output n p out)
    written_by answer out now e f =
        let same = taken_back (const_steps (formula_at n p)) store o end (omega (arith, steps_short)) puts in (
          e ∙ ap (λ (l : List ℕ). writer_answer l (length out)) same ∙ answer_is (length out),
          f ∙ ap (λ (l : List ℕ). writer_output l out) same ∙ output_is out,
        )
