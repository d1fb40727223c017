-- Refusals 1 and 2 by their tests; else the answer is the image's.
-- Assumes nothing.
use mathlib.Core.Path.{sym, ◌∙◌, ap}
use Rattle.refusals.specs.Answers.{refused}
use Rattle.refusals.specs.Reasons.{refusal_in}
use Rattle.image.specs.Read.{read_with}
use Rattle.refusals.proofs.Passed.{passed}
use Rattle.image.proofs.Texts.{checked_well, checked_bad}
use Rattle.image.proofs.check_by.Goals as goal

pub returns-in_err-check : goal.returns-in_err-check
unfolding read_with
returns-in_err-check c =
    let e = checked_bad _ _ (sym c.check.ensures ∙ ap refusal_in c.in_err-check.was) in
    simp (sym c.source_fits.ensures ∙ c.if-not-source_fits.false, e.0) (passed _ _ _ c.from_residual.ensures.1 ∙ ap refused e.1)

pub returns : goal.returns
unfolding read_with
returns c =
    simp (
      sym c.source_fits.ensures ∙ c.if-not-source_fits.false,
      checked_well _ (sym c.check.ensures ∙ ap refusal_in c.in_ok-check.was),
    ) c.read_image.ensures
