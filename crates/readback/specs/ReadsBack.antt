-- What `reads_back` promises, and what is claimed of the verdict; proofs/Claimed.antt proves it.
use Rattle.std.specs.Prelude.{◌≡◌, true, List, [], ℕ, ◌≤◌, Result}
use Rattle.refusals.specs.Refusals.{is_one_of}
use Rattle.refusals.specs.Answers.{Answer, accepted}
use Rattle.refusals.specs.Reasons.{answer_of}
use Rattle.refusals.specs.declared.Refused.{Refused}
use Rattle.image.specs.Read.{Image, got, read_all}
use Rattle.readback.specs.declared.Verdict.{Verdict}
use Rattle.readback.specs.declared.Verdict.TheVariants.{Same, Differs}
use Rattle.readback.specs.Operands.{is_operator}
use Rattle.readback.specs.Verdict.{offenders, verdict_due}

abbrev pub ReadsBack : List ℕ → List ℕ → Result Verdict Refused → Type 0
ReadsBack s b r = answer_of (λ v. v) r ≡ verdict_due s b

-- what an answer to an accepted image says
pub record Verdicts (b : List ℕ) (i : Image) (answer : Answer Verdict) : Type 0 where
  -- "yes exactly when none does"
  pub same_none : answer ≡ accepted Same → offenders b i.tree ≡ []
  pub none_same : offenders b i.tree ≡ [] → answer ≡ accepted Same
  -- "otherwise the first that does": it is one of them, "a 63", and none is before it
  pub one : (at : ℕ) → answer ≡ accepted (Differs at) → is_one_of at (offenders b i.tree) ≡ true
  pub operator : (at : ℕ) → answer ≡ accepted (Differs at) → is_operator b at ≡ true
  pub first : (at x : ℕ) → answer ≡ accepted (Differs at) → is_one_of x (offenders b i.tree) ≡ true → at ≤ x

abbrev pub VerdictHolds : Type 0
VerdictHolds = (s b : List ℕ) (i : Image) (end : ℕ) → read_all s b ≡ got i end → Verdicts b i (verdict_due s b)
