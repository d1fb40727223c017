-- The steps of a payload.
-- Assumes nothing.
use mathlib.Core.Path.{◌≡◌, ap, ◌∙◌}
use mathlib.Core.Bool.{true, false}
use mathlib.Core.List.{List, [], ◌∷◌, ◌++◌}
use Prim.Native.Nat.{ℕ, ◌+◌, ◌*◌, ◌/◌, ◌%◌}
use native.Mathlib.Omega.{arith}
use lib.Dec.{eqb}
use Rattle.image.specs.Bytes.{be16}
use Rattle.image.specs.Kinds.{TEXT}
use Rattle.image.specs.Grammar.{has_byte}
use Rattle.image.specs.Write.{bytes2}
use Rattle.tree.proofs.Fits.{Front, two, none}
use Rattle.steps.specs.Steps.{text_step, payload_step, payload_steps}

-- a width of two bytes is a number
pub wide : (x front t : List ℕ) → Front 2 front → x ≡ front ++ t → (width : ℕ) × (x ≡ bytes2 width ++ t)
wide x front t (two width e is) h = (width, h ∙ ap (λ (y : List ℕ). y ++ t) is)
wide x front t (none e is) h = absurd (omega arith)

two_digits : (n : ℕ) → n / 256 * 256 + n % 256 ≡ n
two_digits n = omega arith

pub text_steps : (kind width : ℕ) (t : List ℕ) → eqb kind TEXT ≡ true → payload_steps kind (bytes2 width ++ t) ≡ text_step width t ∷ []
unfolding be16
text_steps kind width t e = rw (e, two_digits width)

pub byte_steps : (kind y : ℕ) → eqb kind TEXT ≡ false → has_byte kind ≡ true → payload_steps kind (y ∷ []) ≡ payload_step y ∷ []
byte_steps kind y e h = simp (e, h)

pub no_steps : (kind : ℕ) → eqb kind TEXT ≡ false → has_byte kind ≡ false → payload_steps kind [] ≡ []
no_steps kind e h = simp (e, h)
