use mathlib.Core.Path.{refl}
use Rattle.render_call.proofs.Opening.{opening_more, opening_end}
use Rattle.render_call.proofs.open.open_rows.Goals as goal

pub loop-place-preserved : goal.loop-place-preserved
loop-place-preserved c =
    opening_more _ _ _ _ _ _ c.loop-place.invariant c.loop-place-test.true c.requires.few c.resume.ensures

pub returns : goal.returns
returns c = (refl, opening_end _ _ _ _ _ c.loop-place.invariant c.loop-place-test.false)
