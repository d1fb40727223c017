-- A text is read to its end.
-- Assumes nothing.
use mathlib.Core.Path.{sym, ap, ◌∙◌}
use Prim.Native.Nat.{ℕ}
use Rattle.refusals.specs.Reasons.{answer_of}
use Rattle.refusals.proofs.Passed.{passed}
use Rattle.image.specs.Kinds.{TEXT}
use Rattle.image.specs.Read.{width_bytes, opens, step_of}
use Rattle.image.proofs.Reading.{record_bad, text_read, stop_wrong, stop_right}
use Rattle.image.proofs.reader.Reader.read_text.Goals as goal

pub returns-then-not-text_fits : goal.returns-then-not-text_fits
unfolding opens
returns-then-not-text_fits c =
    let r = c.args.self.now in
    rw c.at.ensures (sym (ap step_of (record_bad r.source.now r.image.now (width_bytes r.image.now) r.left TEXT r.at r.end 4 r.at
    (simp (sym c.text_fits.ensures ∙ c.if-not-text_fits.true)))))

pub returns-in_err-stop : goal.returns-in_err-stop
returns-in_err-stop c =
    passed _ _ _ c.from_residual.ensures.1
    ∙ sym (ap step_of (record_bad _ _ _ _ _ _ _ _ _ (stop_wrong _ _ _ _ _ _ _ _ (sym c.text_fits.ensures ∙ c.if-not-text_fits.false)
    (sym c.stop.ensures ∙ ap (answer_of (λ (n : ℕ). n)) c.in_err-stop.was))))

pub returns : goal.returns
returns c =
    let w = stop_right _ _ _ _ _ _ _ _ (sym c.text_fits.ensures ∙ c.if-not-text_fits.false)
    (sym c.stop.ensures ∙ ap (answer_of (λ (n : ℕ). n)) c.in_ok-stop.was) in
    rw w.1 (sym (text_read _ _ _ _ _ _ w.0))
