-- The record of a formula stands where an expression may, and the whole is right.
-- Assumes nothing.
use mathlib.Core.Path.{refl}
use mathlib.Core.List.{List, [], ◌∷◌}
use Prim.Native.Nat.{ℕ, zero, suc, ◌≤◌}
use native.Mathlib.Omega.{arith}
use Rattle.text.specs.Utf8.{within, row_in, followed, sequence, run, prefix, well_formed}
use Rattle.image.specs.Grammar.{row_of, row_under_of, kind_fits_of, any_type, any_expr}
use Rattle.tree.proofs.Fits.{two, text, byte, nothing, Fits, fits, ends, gone, here, no_more, FitsAll}
use Rattle.image.specs.Write.{bytes2}
use Rattle.formulas.specs.Formulas.{Op, plus, times, Formula, path, binary, negation, parentheses, place, size}
use Rattle.formula_images.specs.Images.{text_of, path_of, operator_of, record_of, u32, formula_contents}

span : 0 ≤ 0
span = omega arith

-- a text of the images
abbrev Text : List ℕ → Type 0
Text t = (left : ℕ) → Fits 2 (suc left) 2 (text_of t)

name_fits : Text (0x63 ∷ [])
unfolding row_under_of row_of kind_fits_of well_formed prefix run within sequence followed row_in
name_fits left = fits refl span (text (bytes2 1) (0x63 ∷ []) (two 1 refl refl) refl refl refl) (ends refl)

a_fits : Text (0x61 ∷ [])
unfolding row_under_of row_of kind_fits_of well_formed prefix run within sequence followed row_in
a_fits left = fits refl span (text (bytes2 1) (0x61 ∷ []) (two 1 refl refl) refl refl refl) (ends refl)

u32_fits : Text (0x75 ∷ 0x33 ∷ 0x32 ∷ [])
unfolding row_under_of row_of kind_fits_of well_formed prefix run within sequence followed row_in
u32_fits left = fits refl span (text (bytes2 3) (0x75 ∷ 0x33 ∷ 0x32 ∷ []) (two 3 refl refl) refl refl refl) (ends refl)

path_fits : (t : List ℕ) → Text t → (left : ℕ) → Fits 2 (suc (suc left)) 4 (path_of t)
unfolding row_under_of row_of kind_fits_of
path_fits t f left = fits refl span (nothing refl refl refl) (here refl (f left) (ends refl))

eight : 8 ≤ 13
eight = omega arith

ten : 10 ≤ 13
ten = omega arith

operator_fits : (o : Op) (left : ℕ) → Fits 2 (suc left) 86 (operator_of (place o))
unfolding row_under_of row_of kind_fits_of
operator_fits plus left = fits refl span (byte 8 refl refl eight refl) (ends refl)
operator_fits times left = fits refl span (byte 10 refl refl ten refl) (ends refl)

-- an expression, with so many levels left
formula_fits : (f : Formula) (left : ℕ) → size f ≤ left → Fits 2 (suc (suc left)) any_expr (record_of f)
unfolding record_of size row_under_of row_of kind_fits_of
formula_fits path zero h = absurd (omega arith)
formula_fits path (suc left) h = fits refl span (nothing refl refl refl) (here refl (path_fits (0x61 ∷ []) a_fits left) (ends refl))
formula_fits (binary o l r) zero h = absurd (omega arith)
formula_fits (binary o l r) (suc left) h =
    fits refl span (nothing refl refl refl)
    (here refl (formula_fits l left (omega arith))
    (here refl (operator_fits o (suc left))
    (here refl (formula_fits r left (omega arith)) (ends refl))))
formula_fits (negation f) zero h = absurd (omega arith)
formula_fits (negation f) (suc left) h = fits refl span (nothing refl refl refl) (here refl (formula_fits f left (omega arith)) (ends refl))
formula_fits (parentheses f) zero h = absurd (omega arith)
formula_fits (parentheses f) (suc left) h = fits refl span (nothing refl refl refl) (here refl (formula_fits f left (omega arith)) (ends refl))

-- the whole
type_fits : (left : ℕ) → Fits 2 (suc (suc (suc left))) any_type u32
unfolding row_under_of row_of kind_fits_of
type_fits left =
    fits refl span (nothing refl refl refl)
    (here refl (path_fits (0x75 ∷ 0x33 ∷ 0x32 ∷ []) u32_fits left) (gone refl (ends refl)))

pub contents_fit : (f : Formula) → size f ≤ 7 → FitsAll 2 (formula_contents f)
unfolding row_under_of row_of kind_fits_of
contents_fit f h =
    record {
      listing = no_more;
      tree =
          fits refl span (nothing refl refl refl)
          (gone refl
          (here refl
          (fits refl span (nothing refl refl refl)
          (here refl (name_fits 61)
          (here refl (type_fits 59)
          (here refl (formula_fits f 60 (omega arith)) (ends refl)))))
          (ends refl)));
    }
