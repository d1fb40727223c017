-- A row that is tried: right where it lies inside the rows around it, and its parts and places are right.
-- Assumes nothing.
use mathlib.Core.Path.{◌≡◌, refl, sym, ap, ◌∙◌}
use Prim.Native.Nat.{ℕ}
use mathlib.Core.Bool.{Bool, true, false, ◌&&◌}
use mathlib.Core.List.{List}
use Rattle.std.specs.Prelude.{Option, Some, None}
use Rattle.laws.proofs.Booleans.{both}
use Rattle.rows.specs.Places.{KIND, AFTER}
use Rattle.rows.specs.Kinds.{kind_of}
use Rattle.rows.specs.View.{View, cell, view_of}
use Rattle.renderer_rules.specs.Check.{parts_fit, places_fit, row_fits_of}
use Rattle.rowcheck.specs.Shape.{shape_fits, inside_of}
use Rattle.rowcheck.specs.Needs.{WithRow, Tried, is_right}
use Rattle.rowcheck.specs.declared.needs.Needs.{Needs}
use Rattle.rowcheck.proofs.Laws.{no_parts}

and_false : (a b : Bool) → b ≡ false → (a && b) ≡ false
and_false true b e = e
and_false false b e = refl

module _ (source image s : List ℕ) (end d row : ℕ) where
  abbrev fits : Bool
  fits = row_fits_of (places_fit source image s) (view_of s) end d row

  module _ (after : ℕ) (e : after ≡ cell s row AFTER) where
    fits_is : fits ≡ (inside_of d row after end && shape_fits source image s row)
    unfolding row_fits_of view_of
    fits_is = ap (λ (a : ℕ). inside_of d row a end && shape_fits source image s row) (sym e)

    pub inside_right : fits ≡ true → inside_of d row after end ≡ true
    inside_right h = (both (inside_of d row after end) (shape_fits source image s row) (sym fits_is ∙ h)).0

    pub shape_right : fits ≡ true → shape_fits source image s row ≡ true
    shape_right h = (both (inside_of d row after end) (shape_fits source image s row) (sym fits_is ∙ h)).1

    pub outside : inside_of d row after end ≡ false → fits ≡ false
    outside h = fits_is ∙ ap (λ (t : Bool). t && shape_fits source image s row) h

    pub misshapen : shape_fits source image s row ≡ false → fits ≡ false
    misshapen h = fits_is ∙ and_false (inside_of d row after end) (shape_fits source image s row) h

    pub kindless : kind_of (cell s row KIND) ≡ None → fits ≡ false
    unfolding view_of
    kindless h = misshapen (ap (λ (t : Bool). t && places_fit source image s row) (no_parts s row h))

    pub all_right : inside_of d row after end ≡ true → shape_fits source image s row ≡ true → fits ≡ true
    all_right h g = fits_is ∙ (λ i. h i && g i)

-- what is told then
pub tried_none : (s : List ℕ) (row m : ℕ) (n : Needs) (f : Bool) → f ≡ false → Tried s row m f n None
tried_none s row m n f e = record { right = sym e; needs = λ k h. absurd (cc) }

pub tried_some : (s : List ℕ) (row m : ℕ) (n k : Needs) (f : Bool) → f ≡ true → WithRow s row m n k → Tried s row m f n (Some k)
tried_some s row m n k f e w = record { right = sym e; needs = λ l h. same l (cc) }
  where
    same : (l : Needs) → k ≡ l → WithRow s row m n l
    same l q = rw (← q) w
