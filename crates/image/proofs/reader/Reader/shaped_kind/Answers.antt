-- Its kind is found, and it has a payload that is right.
-- Assumes nothing.
use mathlib.Core.Path.{sym, ◌∙◌}
use Rattle.image.proofs.Known.{paid_kind}
use Rattle.image.proofs.reader.Reader.shaped_kind.Goals as goal

pub returns : goal.returns
returns c =
    c.then_some.ensures
    ∙ paid_kind _ _ _ _ _ _ _ _ c.num32-n.ensures.same c.if-n-lt9.false c.if-self-n.false (sym c.fits.ensures ∙ c.if-not-fits.false)
    c.in_ok-kind.ensures c.payload_fits.ensures
