-- Document 02, 9/14, of the entries that move an image between versions, by what they promise and nothing else: demand 1. That either move after the
-- other returns the identical bytes, and what 21 names, is said of what they promise: crates/moves/specs/Returns.antt and Exact.antt.
-- proofs/Archive.antt proves it.
use Rattle.std.specs.Prelude.{◌≡◌, List, [], ◌∷◌, ◌++◌, ℕ, length, Result}
use Rattle.refusals.specs.Reasons.{refusal_in}
use Rattle.refusals.specs.declared.Refused.{Refused}
use Rattle.image.specs.Read.{reader_numbers}
use Rattle.moves.specs.Moves.{forward_refusal, back_refusal}
use Rattle.moves.specs.Moved.{MovesForward, MovesBack}
use Rattle.demands.specs.Demand1.{Answered}

-- the reader's, 21 "after 6; then 17"
abbrev pub move_numbers : List ℕ
move_numbers = reader_numbers ++ (21 ∷ 17 ∷ [])

pub record Archive1 : Type 0 where
  pub forward : (s b out : List ℕ) (r : Result ℕ Refused) (out2 : List ℕ) → MovesForward s b out r out2
      → Answered move_numbers (forward_refusal s b (length out)) (refusal_in r) (out2 ≡ out)
  pub back : (s b out : List ℕ) (r : Result ℕ Refused) (out2 : List ℕ) → MovesBack s b out r out2
      → Answered move_numbers (back_refusal s b (length out)) (refusal_in r) (out2 ≡ out)
