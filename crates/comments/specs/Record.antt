-- A record of an image, as layout reads it.
use Rattle.std.specs.Prelude.{ℕ, ◌≤◌, List, length}
use Rattle.image.specs.Bytes.{be32}
use Rattle.image.specs.Read.{stop_at}

-- a record, or the absence of one, within the image
pub record InImage (b : List ℕ) (at : ℕ) : Type 0 where
  pub fits : stop_at b at ≤ length b

-- a record within the image
pub record Whole (b : List ℕ) (at : ℕ) : Type 0 where
  pub long : 9 ≤ be32 b at
  pub fits : stop_at b at ≤ length b
