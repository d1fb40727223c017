use Rattle.std.proofs.Common.{arith}
use Rattle.exports.proofs.Listed.{filling_more, filling_end}
use Rattle.exports.proofs.numbers.render_list.Goals as goal

pub loop-place-preserved : goal.loop-place-preserved
loop-place-preserved c = filling_more _ _ _ _ _ c.loop-place.invariant c.loop-place-test.true (omega arith) (omega arith) c.min.ensures
