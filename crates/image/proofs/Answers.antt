-- What `check` answers is the refusal of what it read, or the document.
-- Assumes nothing.
use mathlib.Core.Path.{◌≡◌, refl}
use Rattle.refusals.specs.Answers.{refusal_of}
use Rattle.image.specs.Read.{Read, got, bad, Image, outcome, read_refusal}

pub read_refusal_lem : (x : Read Image) → refusal_of (outcome x) ≡ read_refusal x
read_refusal_lem (got i end) = refl
read_refusal_lem (bad n p) = refl
