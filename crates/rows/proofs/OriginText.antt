-- An origin and its number, each from the other, and the text of a number that is none.
-- Assumes nothing.
use Prim.Native.Nat.{ℕ, zero, suc}
use mathlib.Core.Path.{◌≡◌, refl}
use mathlib.Core.List.{List, []}
use Rattle.std.specs.Prelude.{Some, None}
use Rattle.rows.specs.Texts.{origin_text, origin_number, origin_of}
use Rattle.rows.specs.declared.origins.Origin.{Origin}

-- the number that has an origin is the origin's
pub is_origin : (n : ℕ) (o : Origin) → origin_of n ≡ Some o → n ≡ origin_number o
is_origin zero o e = cc
is_origin (suc zero) o e = cc
is_origin (suc (suc zero)) o e = cc
is_origin (suc (suc (suc n))) o e = absurd (cc)

-- a number that has no origin has no text
pub no_origin : (source image : List ℕ) (n : ℕ) → origin_of n ≡ None → origin_text source image n ≡ []
unfolding origin_text
no_origin source image zero e = absurd (cc)
no_origin source image (suc zero) e = absurd (cc)
no_origin source image (suc (suc zero)) e = absurd (cc)
no_origin source image (suc (suc (suc n))) e = refl
