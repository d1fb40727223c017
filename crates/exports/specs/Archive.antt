-- Request 9: the numbers that the moves of an image leave.
use Rattle.std.specs.Prelude.{◌≡◌, ℕ, List, length}
use Rattle.refusals.specs.Answers.{numbers_of}
use Rattle.moves.specs.Moved.{forward_answer, forward_output, back_answer, back_output}
use Rattle.exports.specs.Generator.{told_bytes}

-- the output, and the answer's numbers
abbrev pub MovesForward : List ℕ → List ℕ → List ℕ → List ℕ → List ℕ → List ℕ → Type 0
MovesForward s b output out output2 out2 =
    (output2 ≡ forward_output s b output) × (out2 ≡ numbers_of told_bytes (forward_answer s b (length output)) out)

abbrev pub MovesBack : List ℕ → List ℕ → List ℕ → List ℕ → List ℕ → List ℕ → Type 0
MovesBack s b output out output2 out2 =
    (output2 ≡ back_output s b output) × (out2 ≡ numbers_of told_bytes (back_answer s b (length output)) out)
