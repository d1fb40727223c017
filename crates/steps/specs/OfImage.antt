-- The steps of an image: refused by 1 to 7 where the reader refuses it, then by 17 where they are longer than the output.
use Rattle.std.specs.Prelude.{true, List, [], ◌∷◌, ℕ, ltb, length, Option}
use Rattle.std.proofs.lemmas.List.Edits.{sets}
use Rattle.refusals.specs.Refusals.{Refusal, first, refuse_if, unless}
use Rattle.refusals.specs.Answers.{Answer, answer_by}
use Rattle.image.specs.Read.{Read, got, bad, Image, read_version, read_refusal}
use Rattle.steps.specs.Steps.{steps, list_bytes}
use Rattle.tree.specs.Contents.{contents_of}

-- the steps of an image that was read, as a list of bytes
abbrev pub steps_of : List ℕ → Image → List ℕ
steps_of b i = list_bytes (steps (contents_of b i))

-- of an image that is refused there are none
abbrev pub steps_by : List ℕ → Read Image → List ℕ
steps_by b (got i end) = steps_of b i
steps_by b (bad n p) = []

-- of version 1, its comments in order: "the writer's rule on steps" is "the strict one", and so is that on images
abbrev pub steps_due : List ℕ → List ℕ → List ℕ
steps_due s b = steps_by b (read_version 1 true s b)

-- 1 to 7, then 17, with the bytes needed
abbrev pub steps_of_refusal : List ℕ → List ℕ → ℕ → Option Refusal
steps_of_refusal s b room =
    first (read_refusal (read_version 1 true s b) ∷ refuse_if (ltb room (length (steps_due s b))) 17 (length (steps_due s b)) ∷ [])

-- the answer gives the bytes of the steps; and the output at exit
abbrev pub steps_of_answer : List ℕ → List ℕ → ℕ → Answer ℕ
steps_of_answer s b room = answer_by (steps_of_refusal s b room) (length (steps_due s b))

abbrev pub steps_of_output : List ℕ → List ℕ → List ℕ → List ℕ
steps_of_output s b out = unless (steps_of_refusal s b (length out)) out (sets out 0 (steps_due s b))
