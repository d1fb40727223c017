-- Request 5: the numbers that the writer of images and the steps of an image leave.
use Rattle.std.specs.Prelude.{ℕ, List, [], ◌∷◌, ◌≡◌, length}
use Rattle.refusals.specs.Answers.{numbers_of}
use Rattle.steps.specs.Writer.{writer_answer, writer_output}
use Rattle.steps.specs.OfImage.{steps_of_answer, steps_of_output}

-- the bytes written
abbrev pub told_bytes : ℕ → List ℕ
told_bytes n = n ∷ []

-- an image from a list of steps, and the steps of an image: the output, and the answer's numbers
abbrev pub WritesImage : List ℕ → List ℕ → List ℕ → List ℕ → List ℕ → Type 0
WritesImage l output out output2 out2 = (output2 ≡ writer_output l output) × (out2 ≡ numbers_of told_bytes (writer_answer l (length output)) out)

abbrev pub ListsSteps : List ℕ → List ℕ → List ℕ → List ℕ → List ℕ → List ℕ → Type 0
ListsSteps s b output out output2 out2 = (output2 ≡ steps_of_output s b output) × (out2 ≡ numbers_of told_bytes (steps_of_answer s b (length output)) out)
