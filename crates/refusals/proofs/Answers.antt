-- What an answer by a table tells: as a value, and in the numbers of an array.
-- Assumes nothing.
use mathlib.Core.Path.{◌≡◌, refl, sym, ap, ◌∙◌}
use Rattle.std.specs.Prelude.{Option, None, Some}
use mathlib.Core.List.{List, [], ◌∷◌, ◌++◌}
use Prim.Native.Nat.{ℕ, suc, ◌+◌, ◌≤◌}
use native.Mathlib.Omega.{arith}
use lib.ListN.{length, drop}
use lib.Seq.{sets, sets-eq}
use Rattle.laws.proofs.Options.{never}
use Rattle.refusals.specs.Refusals.{Refusal}
use Rattle.refusals.specs.Answers.{refused, accepted, answer_by, refusal_of, numbers_of}

-- ---- as a value
-- an answer by a table has the table's refusal
pub by_table : {A : Type 0} (o : Option Refusal) (a : A) → refusal_of (answer_by o a) ≡ o
by_table (Some r) a = refl
by_table None a = refl

-- so a refusal is the table's,
pub refused_by : {A : Type 0} (o : Option Refusal) (a : A) (r : Refusal) → refused r ≡ answer_by o a → o ≡ Some r
refused_by o a r e = sym (by_table o a) ∙ sym (ap refusal_of e)

-- and what is accepted, the table lets pass, and is what is due
pub record AcceptedBy {A : Type 0} (o : Option Refusal) (a due : A) : Type 0 where
  pub passes : o ≡ None
  pub is : a ≡ due

pub accepted_by : {A : Type 0} (o : Option Refusal) (a due : A) → accepted a ≡ answer_by o due → AcceptedBy o a due
accepted_by None a due e = record { passes = refl; is = (cc) }
accepted_by (Some r) a due e = absurd (never r (sym (ap refusal_of e)))

-- ---- in numbers
-- numbers stored from the start of an array that has room for them stand at its start
pub sets_front : (vs out : List ℕ) → length vs ≤ length out → sets out 0 vs ≡ vs ++ drop (length vs) out
sets_front vs out h =
    let from : 0 + length vs ≡ length vs = omega arith in
    sets-eq vs out 0 (omega arith) ∙ ap (λ (k : ℕ). vs ++ drop k out) from

module _ {A : Type 0} (given : A → List ℕ) (o : Option Refusal) (a : A) (out : List ℕ) where
  -- where the table refuses nothing, 0 is first, and behind it is what is given
  pub told_zero : suc (length (given a)) ≤ length out → o ≡ None
      → numbers_of given (answer_by o a) out ≡ (0 ∷ given a) ++ drop (suc (length (given a))) out
  told_zero h e = ap (λ (x : Option Refusal). numbers_of given (answer_by x a) out) e ∙ sets_front (0 ∷ given a) out h

  -- where it refuses, number and place are the first two
  pub told_refusal : (r : Refusal) → 2 ≤ length out → o ≡ Some r
      → numbers_of given (answer_by o a) out ≡ (r.number ∷ r.place ∷ []) ++ drop 2 out
  told_refusal r h e = ap (λ (x : Option Refusal). numbers_of given (answer_by x a) out) e ∙ sets_front (r.number ∷ r.place ∷ []) out h
