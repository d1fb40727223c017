-- The loop takes off the places of each left size.
use native.Mathlib.Omega.{arith}
use Rattle.formula_images.proofs.Splits.{going_first, going_start, going_more, going_again, going_done}
use Rattle.formula_images.proofs.shapes.operands.Goals as goal

pub pairs-here-requires : goal.pairs-here-requires
pairs-here-requires c = (omega arith, (going_first _ c.requires.0 _ c.requires.1.1, c.requires.1.0))

pub loop-here-init : goal.loop-here-init
loop-here-init c = going_start _ _ _ c.requires.0 c.requires.1.0 c.requires.1.1 c.pairs-here.ensures

pub pairs-here-requires-in-loop-here : goal.pairs-here-requires-in-loop-here
pairs-here-requires-in-loop-here c =
    (omega arith, (going_more _ _ _ _ _ c.loop-here.invariant c.loop-here-test.true, c.loop-here.invariant.most))

pub loop-here-preserved : goal.loop-here-preserved
loop-here-preserved c = going_again _ _ _ _ _ c.loop-here.invariant c.loop-here-test.true _ c.pairs-here-in-loop-here.ensures

pub returns : goal.returns
returns c = going_done _ _ _ _ _ c.loop-here.invariant (omega (arith, c.loop-here-test.false)) _ c.count-rights.ensures _ (omega arith)
