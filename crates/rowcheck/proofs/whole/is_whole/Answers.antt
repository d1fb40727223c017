use mathlib.Core.Path.{sym, ◌∙◌}
use Prim.Native.Nat.{◌+◌}
use native.Mathlib.Omega.{arith}
use Rattle.rowcheck.proofs.WholeTexts.{empty_whole, some_whole}
use Rattle.rowcheck.proofs.whole.is_whole.Goals as goal

pub returns-then-size-eq0 : goal.returns-then-size-eq0
returns-then-size-eq0 c =
    empty_whole c.args.rows.source.now c.args.rows.image.now c.args.rows.store.now c.args.row c.requires.fits _
    (sym c.place-size.ensures.0 ∙ c.if-size-eq0.true)
    (rw (← c.place.ensures.0, ← c.place-start.ensures.0) (rw (← c.origin_text-origin.ensures) c.is_cut.ensures))

pub returns-else-size-eq0 : goal.returns-else-size-eq0
returns-else-size-eq0 c =
    some_whole c.args.rows.source.now c.args.rows.image.now c.args.rows.store.now c.args.row c.requires.fits
    (c.place-start.result + c.place-size.result) _
    (λ e. c.if-size-eq0.false (c.place-size.ensures.0 ∙ e))
    (omega (arith, c.place-start.ensures.0, c.place-size.ensures.0))
    (rw (← c.place.ensures.0, ← c.place-start.ensures.0) (rw (← c.origin_text-origin.ensures) c.is_well_formed.ensures))
