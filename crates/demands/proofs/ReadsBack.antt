-- The verdict is refused as the reader refuses, and else means what it says.
-- Assumes nothing.
use mathlib.Core.Path.{◌≡◌, refl, sym, ap, subst, ◌∙◌}
use mathlib.Core.List.{List}
use Prim.Native.Nat.{ℕ}
use Rattle.refusals.specs.Answers.{Answer, answer_by, refusal_of}
use Rattle.image.specs.Read.{Read, got, bad, Image, read_all, read_refusal}
use Rattle.readback.specs.ReadsBack.{Verdicts}
use Rattle.readback.specs.Verdict.{offenders, verdict_on, verdict_by}
use Rattle.readback.specs.declared.Verdict.{Verdict}
use Rattle.readback.specs.declared.Verdict.TheVariants.{Same}
use Rattle.readback.proofs.Claimed.{verdict_holds}
use Rattle.demands.specs.ReadsBack.{ReadsBack1}
use Rattle.demands.proofs.Demand1.{read_under, answered, as_answer}

-- the verdict is an answer by the reader's refusal
abbrev pub verdict_read : List ℕ → Read Image → Verdict
verdict_read b (got i end) = verdict_on (offenders b i.tree)
verdict_read b (bad n p) = Same

pub verdict_answer : (b : List ℕ) (x : Read Image) → verdict_by b x ≡ answer_by (read_refusal x) (verdict_read b x)
verdict_answer b (got i end) = refl
verdict_answer b (bad n p) = refl

refused_as_read : (b : List ℕ) (x : Read Image) → refusal_of (verdict_by b x) ≡ read_refusal x
refused_as_read b (got i end) = refl
refused_as_read b (bad n p) = refl

pub reads_back_1 : ReadsBack1
reads_back_1 = record {
  answered = λ s b r e. answered (as_answer _ r ∙ ap refusal_of e ∙ refused_as_read b (read_all s b)) (read_under s b) (λ q f. tt);
  verdict = λ s b r e i end h. subst (λ (a : Answer Verdict). Verdicts b i a) (sym e) (verdict_holds s b i end h);
}
