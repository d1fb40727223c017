-- The steps are within their list, and what the writer answers to them is the answer.
use mathlib.Core.Path.{◌≡◌, refl, sym}
use Prim.Native.Nat.{ℕ, ◌≤◌, ◌<◌}
use native.Mathlib.Omega.{arith}
use lib.Seq.{length-take-le}
use lib.ListN.{length}
use Rattle.formulas.specs.Formulas.{formulas}
use Rattle.formula_images.proofs.Answered.{spot, end_inside, written_by}
use Rattle.formula_images.specs.Parts.{There}
use Rattle.formula_images.proofs.write_formula.Goals as goal

-- the tests that were passed
passed : (n p c : ℕ) → 1 ≤ n → n ≤ 7 → c ≡ length (formulas n) → p < c → There (spot n p)
passed n p c small large count past =
    record { least = small; most = large; inside = omega (arith, count, past) }

pub slice_bounds-steps-end : goal.slice_bounds-steps-end
slice_bounds-steps-end c =
    end_inside _ _ (passed c.args.size c.args.place _ c.if-size-lt1.false c.if-size-gt-LARGEST.false c.count.ensures c.if-count-place.false) _ _ _ refl
    c.put_const-end.ensures

pub slice_bounds-write_image-end : goal.slice_bounds-write_image-end
slice_bounds-write_image-end c =
    sym
    (length-take-le _ _
    (end_inside _ _ (passed c.args.size c.args.place _ c.if-size-lt1.false c.if-size-gt-LARGEST.false c.count.ensures c.if-count-place.false) _ _ _ refl
    c.put_const-end.ensures))

pub returns : goal.returns
returns c =
    written_by _ _ (passed c.args.size c.args.place _ c.if-size-lt1.false c.if-size-gt-LARGEST.false c.count.ensures c.if-count-place.false) _ _ _ refl
    c.put_const-end.ensures _ _ _ c.write_image.ensures.0 c.write_image.ensures.1
