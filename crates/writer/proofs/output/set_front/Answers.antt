use mathlib.Core.Path.{sym}
use native.Mathlib.Omega.{arith}
use lib.ListN.{length-take}
use lib.Seq.{get_or-take}
use Rattle.writer.proofs.Stores.{setting_none, setting_one, setting_all}
use Rattle.writer.proofs.output.set_front.Goals as goal

pub loop-k-init : goal.loop-k-init
loop-k-init c = setting_none _ _ _

pub loop-k-preserved : goal.loop-k-preserved
loop-k-preserved c =
    let n = length-take c.args.n c.args.bytes.now in
    setting_one _ _ _ _ _ _ c.loop-k.invariant (omega (arith, c.requires.0)) (sym (get_or-take c.args.n c.args.bytes.now c.loop-k.k 0 (omega arith)))

pub returns : goal.returns
returns c = let n = length-take c.args.n c.args.bytes.now in setting_all _ _ _ _ _ c.loop-k.invariant (omega (arith, c.requires.0))
