-- What every entry answers: a refusal, or what it gives where it accepts.
use Rattle.std.specs.Prelude.{List, [], ◌∷◌, ℕ, Option, None, Some}
use Rattle.std.proofs.lemmas.List.Edits.{sets}
use Rattle.refusals.specs.Refusals.{Refusal}

pub data Answer (A : Type 0) : Type 0 where
  refused : Refusal → Answer A
  accepted : A → Answer A

-- by the table: its refusal, or what is given where it has none
abbrev pub answer_by : {A : Type 0} → Option Refusal → A → Answer A
answer_by (Some r) a = refused r
answer_by None a = accepted a

-- the refusal of an answer, or none
abbrev pub refusal_of : {A : Type 0} → Answer A → Option Refusal
refusal_of (refused r) = Some r
refusal_of (accepted a) = None

-- an answer in an array: number and place, or 0 and the numbers of what is given; the places behind stay as they were
abbrev pub numbers_of : {A : Type 0} → (A → List ℕ) → Answer A → List ℕ → List ℕ
numbers_of given (refused r) out = sets out 0 (r.number ∷ r.place ∷ [])
numbers_of given (accepted a) out = sets out 0 (0 ∷ given a)
