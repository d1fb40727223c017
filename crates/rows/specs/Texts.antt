-- The texts that rows refer to, by the number of the origin.
use Rattle.std.specs.Prelude.{ℕ, List, [], ◌∷◌, get_or, Option, Some, None}
use Rattle.rows.specs.Words.{words}
use Rattle.rows.specs.declared.origins.Origin.{Origin}
use Rattle.rows.specs.declared.origins.Origin.TheVariants as origins

-- the text of an origin: "text origin (0 source, 1 image, 2 fixed words)"
unfoldable pub origin_text : List ℕ → List ℕ → ℕ → List ℕ
origin_text source image origin = get_or (source ∷ image ∷ words ∷ []) origin []

-- the number of an origin, as it is written in a row; and the origin that a number is written for
abbrev pub origin_number : Origin → ℕ
origin_number origins.Source = 0
origin_number origins.Image = 1
origin_number origins.Words = 2

abbrev pub origin_of : ℕ → Option Origin
origin_of n = get_or (Some origins.Source ∷ Some origins.Image ∷ Some origins.Words ∷ []) n None
