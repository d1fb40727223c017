use native.Mathlib.Omega.{arith}
use Rattle.render_call.proofs.Opening.{listing_start, listing_more}
use Rattle.render_call.proofs.open.list_rows.Goals as goal

pub loop-place-init : goal.loop-place-init
loop-place-init c = listing_start _ _ _

pub loop-place-preserved : goal.loop-place-preserved
loop-place-preserved c =
    listing_more _ _ _ _ _ _ c.loop-place.invariant c.loop-place-test.true (omega (arith, c.requires.deep)) (omega (arith, c.requires.deep))
    c.number_of.ensures
