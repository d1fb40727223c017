-- Document 02, 11/14, of the entry that says whether a tree reads back the same, by what it promises and nothing else: demand 1, and what its verdict
-- means. proofs/ReadsBack.antt proves it.
use Rattle.std.specs.Prelude.{◌≡◌, List, ℕ, Result}
use Rattle.refusals.specs.Reasons.{answer_of, refusal_in}
use Rattle.refusals.specs.declared.Refused.{Refused}
use Rattle.image.specs.Read.{Image, got, read_all, read_refusal, reader_numbers}
use Rattle.readback.specs.ReadsBack.{ReadsBack, Verdicts}
use Rattle.readback.specs.declared.Verdict.{Verdict}
use Rattle.demands.specs.Demand1.{Answered}

pub record ReadsBack1 : Type 0 where
  -- "Refused: 1 to 7, as the image reader"; it is lent nothing to change
  pub answered : (s b : List ℕ) (r : Result Verdict Refused) → ReadsBack s b r
      → Answered reader_numbers (read_refusal (read_all s b)) (refusal_in r) (Unit {0})
  -- else yes, or the first operand that breaks a rule
  pub verdict : (s b : List ℕ) (r : Result Verdict Refused) → ReadsBack s b r → (i : Image) (end : ℕ) → read_all s b ≡ got i end
      → Verdicts b i (answer_of (λ v. v) r)
