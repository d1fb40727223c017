-- The refusals in their order, then the image.
use mathlib.Core.Path.{sym, ap, ◌∙◌}
use borrow.Author.Tests.{lt-ltb, le-ltb}
use Rattle.refusals.specs.Reasons.{answer_of}
use Rattle.refusals.proofs.Passed.{passed}
use Rattle.writer.specs.declared.whole.Measured.{Measured}
use Rattle.writer.proofs.Imaged.{answers_wrong, answers_long, answers_whole}
use Rattle.writer.proofs.write_image.Goals as goal

pub returns-in_err-m : goal.returns-in_err-m
returns-in_err-m c =
    rw (passed _ _ _ c.from_residual.ensures.1)
    (answers_wrong _ _ _ (ap (answer_of (λ (m : Measured). m)) (sym c.in_err-m.was) ∙ c.measure.ensures))

pub returns-then-m : goal.returns-then-m
returns-then-m c =
    rw c.at.ensures (answers_long _ _ _ _ (ap (answer_of (λ (m : Measured). m)) (sym c.in_ok-m.was) ∙ c.measure.ensures)
    (rw (lt-ltb _ _ c.if-m.true)))

pub returns-then-out-m : goal.returns-then-out-m
returns-then-out-m c =
    rw c.at-then-out-m.ensures (answers_long _ _ _ _ (ap (answer_of (λ (m : Measured). m)) (sym c.in_ok-m.was) ∙ c.measure.ensures)
    (rw (le-ltb _ _ c.if-m.false) (lt-ltb _ _ c.if-out-m.true)))

pub put_image-requires : goal.put_image-requires
put_image-requires c =
    record {
      is = ap (answer_of (λ (m : Measured). m)) (sym c.in_ok-m.was) ∙ c.measure.ensures;
      small = c.if-m.false;
      fits = c.if-out-m.false;
    }

pub returns : goal.returns
returns c =
    answers_whole _ _ _ _ (ap (answer_of (λ (m : Measured). m)) (sym c.in_ok-m.was) ∙ c.measure.ensures) _
    (rw (le-ltb _ _ c.if-m.false) (le-ltb _ _ c.if-out-m.false)) c.put_image.ensures
