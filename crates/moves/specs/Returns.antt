-- "Either move after the other, given room, returns the identical bytes."
use Rattle.std.specs.Prelude.{◌≡◌, List, ℕ, length, Option, None}
use Rattle.refusals.specs.Refusals.{Refusal}
use Rattle.image.specs.Write.{Bytes}
use Rattle.moves.specs.Moves.{forward_image, back_image, forward_refusal, back_refusal}

-- b is accepted, and gives back b2
pub record Returned (refusal : List ℕ → List ℕ → ℕ → Option Refusal)
    (image : List ℕ → List ℕ → List ℕ) (s b b2 : List ℕ) : Type 0 where
  pub passes : refusal s b (length b2) ≡ None
  pub same : image s b ≡ b2

abbrev pub BackAfterForward : Type 0
BackAfterForward =
    (s b : List ℕ) (room : ℕ) → Bytes b → forward_refusal s b room ≡ None → Returned back_refusal back_image s (forward_image s b) b

abbrev pub ForwardAfterBack : Type 0
ForwardAfterBack =
    (s b : List ℕ) (room : ℕ) → Bytes b → back_refusal s b room ≡ None → Returned forward_refusal forward_image s (back_image s b) b
