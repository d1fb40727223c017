use Rattle.std.proofs.Common.{arith}
use Rattle.exports.proofs.Listed.{putting_more, putting_end}
use Rattle.exports.proofs.numbers.put_listed.Goals as goal

pub loop-place-preserved : goal.loop-place-preserved
loop-place-preserved c =
    putting_more _ _ _ _ _ _ c.loop-place.invariant c.loop-place-test.true c.requires.few (omega (arith, c.requires.few)) c.from.ensures

pub returns : goal.returns
returns c = putting_end _ _ _ _ _ c.loop-place.invariant c.loop-place-test.false c.requires.few (omega (arith, c.requires.few))
