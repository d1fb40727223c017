-- Records of an image one after the other, by their offsets.
use Rattle.std.specs.Prelude.{◌≡◌, ℕ, zero, suc, ◌-◌, List, [], ◌∷◌, Bool, true, cond, ◌&&◌, ltb, leb, length}
use Rattle.image.specs.Read.{stop_at}

-- the first n of them at most
unfoldable pub offsets_of : ℕ → List ℕ → ℕ → ℕ → List ℕ
offsets_of zero b at to = []
offsets_of (suc n) b at to = cond (ltb at to) (at ∷ offsets_of n b (stop_at b at) to) []

-- all of them: each has a byte at least
abbrev pub offsets_from : List ℕ → ℕ → ℕ → List ℕ
offsets_from b at to = offsets_of (to - at) b at to

unfoldable pub all_in : ℕ → List ℕ → ℕ → ℕ → Bool
all_in zero b at to = true
all_in (suc n) b at to = cond (ltb at to) (leb (stop_at b at) (length b) && all_in n b (stop_at b at) to) true

-- each lies in the image
pub record AllIn (b : List ℕ) (at to : ℕ) : Type 0 where
  pub inside : all_in (to - at) b at to ≡ true
