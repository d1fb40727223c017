use mathlib.Core.Path.{sym}
use native.Mathlib.Omega.{arith}
use lib.ListN.{length-take}
use lib.Seq.{get_or-take}
use Rattle.renderer.proofs.Written.{copied_start, copied_more, copied_part, over_past}
use Rattle.renderer.proofs.output.copy.Goals as goal

pub loop-k-init : goal.loop-k-init
loop-k-init c = copied_start _ _ _ _

pub loop-k-preserved : goal.loop-k-preserved
loop-k-preserved c =
    let n = length-take c.min-room.result c.args.text.now in
    copied_more _ _ _ _ _ _ _ c.loop-k.invariant (omega arith) (omega arith) (sym (get_or-take c.min-room.result c.args.text.now c.loop-k.k 0 (omega arith)))

pub returns-after-loop-k : goal.returns-after-loop-k
returns-after-loop-k c = copied_part _ _ _ _ _ _ c.if-at-out.true c.min-room.ensures c.loop-k.invariant (omega arith)

pub returns-else-at-out : goal.returns-else-at-out
returns-else-at-out c = sym (over_past _ _ _ _ c.if-at-out.false)
