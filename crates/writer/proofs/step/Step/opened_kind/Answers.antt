-- The tests are those of the definition, in its order; a kind that is right is found.
use mathlib.Core.Path.{sym, ap, ◌∙◌}
use native.Mathlib.Omega.{arith}
use borrow.Author.Tests.{le-leb, lt-leb}
use Rattle.image.proofs.Known.{kind_if}
use Rattle.writer.specs.Steps.{taken}
use Rattle.writer.proofs.Seen.{opened_not, opened_kind, opened_span}
use Rattle.writer.proofs.step.Step.opened_kind.Goals.{then-not-fits-via-then-not-fits, then-not-fits-via-else-not-fits+then-num32}
use Rattle.writer.proofs.step.Step.opened_kind.Goals as goal

pub returns-then-not-stands : goal.returns-then-not-stands
returns-then-not-stands c =
    sym (ap (kind_if _) (ap taken (opened_not _ _ _ (sym c.stands.ensures ∙ c.if-not-stands.true))))

pub returns-then-not-fits : goal.returns-then-not-fits
returns-then-not-fits c =
    elim c.then-not-fits.branch [
      | then-not-fits-via-then-not-fits w ↦
          sym (ap (kind_if _) (sym (opened_kind _ _ _ (sym c.stands.ensures ∙ c.if-not-stands.false) (sym c.fits.ensures ∙ w.if-not-fits.true))))
      | then-not-fits-via-else-not-fits+then-num32 w ↦
          sym (ap (kind_if _) (sym (opened_span _ _ _ (sym c.stands.ensures ∙ c.if-not-stands.false) (sym c.fits.ensures ∙ w.if-not-fits.false))
          ∙ lt-leb _ _ (omega (arith, w.num32.ensures.same, w.num32-else-not-fits.ensures.same, w.if-num32.true))))
    ]

pub returns : goal.returns
returns c =
    c.of.ensures
    ∙ sym (ap (kind_if _) (sym (opened_span _ _ _ (sym c.stands.ensures ∙ c.if-not-stands.false) (sym c.fits.ensures ∙ c.if-not-fits.false))
    ∙ le-leb _ _ (omega (arith, c.num32.ensures.same, c.num32-else-not-fits.ensures.same, c.if-num32.false))))
