-- Refusals 1 and 2 by their tests, 3 where the image is of another version; else the answer is the image's.
-- Assumes nothing.
use mathlib.Core.Path.{sym, ◌∙◌, ap}
use mathlib.Core.Path.{◌≡◌}
use mathlib.Core.Logic.{◌⊎◌, inl, inr}
use lib.ListN.{length}
use borrow.Author.Tests.{eqb-true}
use Rattle.refusals.specs.Answers.{refused}
use Rattle.refusals.specs.Reasons.{refusal_in}
use Rattle.image.specs.Read.{version, outcome, read_with}
use Rattle.refusals.proofs.Passed.{passed}
use Rattle.image.proofs.Texts.{checked_well, checked_bad}
use Rattle.image.proofs.OneVersion.{one_read, another_refused}
use Rattle.image.proofs.check_version.Goals.{then-is_empty-via-then-is_empty, then-is_empty-via-else-is_empty+then-image-version}
use Rattle.image.proofs.check_version.Goals as goal

pub returns-in_err-check : goal.returns-in_err-check
unfolding read_with
returns-in_err-check c =
    let e = checked_bad _ _ (sym c.check.ensures ∙ ap refusal_in c.in_err-check.was) in
    simp (sym c.source_fits.ensures ∙ c.if-not-source_fits.false, e.0) (passed _ _ _ c.from_residual.ensures.1 ∙ ap refused e.1)

pub returns-then-is_empty : goal.returns-then-is_empty
unfolding read_with
returns-then-is_empty c =
    let another : (length c.args.image.now ≡ 0) ⊎ (version c.args.image.now ≡ c.args.version → ⊥) =
    elim c.then-is_empty.branch [
      | then-is_empty-via-then-is_empty w ↦ inl (eqb-true (length c.args.image.now) 0 (sym c.is_empty.ensures ∙ w.if-is_empty.true))
      | then-is_empty-via-else-is_empty+then-image-version w ↦ inr w.if-image-version.true
    ]
    in
    simp (
      sym c.source_fits.ensures ∙ c.if-not-source_fits.false,
      checked_well _ (sym c.check.ensures ∙ ap refusal_in c.in_ok-check.was),
    ) (rw c.at-then-is_empty.ensures (sym (ap outcome (another_refused _ _ c.args.source.now _ another))))

pub returns : goal.returns
unfolding read_with
returns c =
    simp (
      sym c.source_fits.ensures ∙ c.if-not-source_fits.false,
      checked_well _ (sym c.check.ensures ∙ ap refusal_in c.in_ok-check.was),
    ) (c.read_image.ensures ∙ ap outcome (one_read _ _ _ _ c.if-image-version.false))
