-- What the two moves promise: of the source s and the image b, with the output before and after.
use Rattle.std.specs.Prelude.{◌≡◌, List, ℕ, length, Result}
use Rattle.std.proofs.lemmas.List.Edits.{sets}
use Rattle.refusals.specs.Refusals.{unless}
use Rattle.refusals.specs.Answers.{Answer, answer_by}
use Rattle.refusals.specs.Reasons.{answer_of}
use Rattle.refusals.specs.declared.Refused.{Refused}
use Rattle.moves.specs.Moves.{forward_image, back_image, forward_refusal, back_refusal}

-- the answer gives the bytes of the image that is written; a refusal leaves the output untouched
abbrev pub forward_answer : List ℕ → List ℕ → ℕ → Answer ℕ
forward_answer s b room = answer_by (forward_refusal s b room) (length (forward_image s b))

abbrev pub forward_output : List ℕ → List ℕ → List ℕ → List ℕ
forward_output s b out = unless (forward_refusal s b (length out)) out (sets out 0 (forward_image s b))

abbrev pub back_answer : List ℕ → List ℕ → ℕ → Answer ℕ
back_answer s b room = answer_by (back_refusal s b room) (length (back_image s b))

abbrev pub back_output : List ℕ → List ℕ → List ℕ → List ℕ
back_output s b out = unless (back_refusal s b (length out)) out (sets out 0 (back_image s b))

abbrev pub MovesForward : List ℕ → List ℕ → List ℕ → Result ℕ Refused → List ℕ → Type 0
MovesForward s b out r out2 = (answer_of (λ n. n) r ≡ forward_answer s b (length out)) × (out2 ≡ forward_output s b out)

abbrev pub MovesBack : List ℕ → List ℕ → List ℕ → Result ℕ Refused → List ℕ → Type 0
MovesBack s b out r out2 = (answer_of (λ n. n) r ≡ back_answer s b (length out)) × (out2 ≡ back_output s b out)
