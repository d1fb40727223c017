use Rattle.marks.proofs.Aside.{putting_more, putting_end}
use Rattle.marks.proofs.keep.put_aside.Goals as goal

pub loop-row-preserved : goal.loop-row-preserved
loop-row-preserved c =
    putting_more _ _ _ _ _ _ _ _ _ _ c.loop-row.invariant c.loop-row-test.true c.row_aside.ensures

pub returns : goal.returns
returns c = putting_end _ _ _ _ _ _ _ _ c.loop-row.invariant c.loop-row-test.false
