-- "A source over 65,536 bytes is refused by 1 and an image over 1,048,581 by 3 (if 1 and 2 don't refuse its source), whatever stands in them. So it
-- is enough to keep the first 65,537 and 1,048,582 bytes, and to pass over the others." proofs/Front.antt proves the claim.
use Rattle.std.specs.Prelude.{◌≡◌, List, ℕ, ◌+◌, take}
use Rattle.image.specs.Limits.{MAX_SOURCE, MAX_BODY}
use Rattle.tallies.specs.declared.Tallies.{Tallies}
use Rattle.figures.specs.Figures.{count_answer}

abbrev pub SOURCE_KEPT : ℕ
SOURCE_KEPT = MAX_SOURCE + 1

-- an image has five bytes before its body
abbrev pub IMAGE_KEPT : ℕ
IMAGE_KEPT = 5 + MAX_BODY + 1

abbrev pub FrontIsEnough : Type 0
FrontIsEnough = (s b : List ℕ) (t : Tallies) → count_answer (take SOURCE_KEPT s) (take IMAGE_KEPT b) t ≡ count_answer s b t
