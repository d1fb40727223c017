-- What the version says of a text's width.
-- Assumes nothing.
use mathlib.Core.Path.{◌≡◌, refl}
use mathlib.Core.Bool.{Bool, true, false}
use mathlib.Core.Logic.{◌⊎◌, inl, inr}
use mathlib.Core.List.{List}
use Prim.Native.Nat.{ℕ, ◌+◌, ◌≤◌, ◌<◌}
use native.Mathlib.Omega.{arith}
use lib.ListN.{get_or}
use lib.Dec.{eqb}
use Rattle.image.specs.Bytes.{be16}
use Rattle.image.specs.Read.{version, width_bytes, stored_width}

pub two_or_none : (b : List ℕ) → (width_bytes b ≡ 2) ⊎ (width_bytes b ≡ 0)
unfolding width_bytes
two_or_none b = go (eqb (version b) 1) refl
  where
    go : (t : Bool) → eqb (version b) 1 ≡ t → (width_bytes b ≡ 2) ⊎ (width_bytes b ≡ 0)
    go true e = inl (rw e)
    go false e = inr (rw e)

pub two_at_most : (b : List ℕ) → width_bytes b ≤ 2
two_at_most b = go (two_or_none b)
  where
    go : (width_bytes b ≡ 2) ⊎ (width_bytes b ≡ 0) → width_bytes b ≤ 2
    go (inl e) = omega arith
    go (inr e) = omega arith

pub stored_small : (b : List ℕ) (at : ℕ) → get_or b (at + 13) 0 ≤ 255 → get_or b (at + 13 + 1) 0 ≤ 255 → stored_width b at < 65536
unfolding stored_width be16
stored_small b at x y = go (eqb (version b) 1) refl
  where
    go : (t : Bool) → eqb (version b) 1 ≡ t → stored_width b at < 65536
    go true e = rw e (omega arith)
    go false e = rw e (omega arith)

-- version 1 has two
pub two_bytes : (b : List ℕ) → version b ≡ 1 → width_bytes b ≡ 2
unfolding width_bytes
two_bytes b e = rw e

-- version 2 has none
pub no_bytes : (b : List ℕ) → version b ≡ 2 → width_bytes b ≡ 0
unfolding width_bytes
no_bytes b e = rw e
