use Rattle.marks.proofs.Aside.{backing_start, backing_more}
use Rattle.marks.proofs.keep.put_back.Goals as goal

pub loop-row-init : goal.loop-row-init
loop-row-init c = backing_start _ _ _ _ c.requires.0

pub loop-row-preserved : goal.loop-row-preserved
loop-row-preserved c =
    backing_more _ _ _ _ _ _ _ _ _ c.loop-row.invariant c.loop-row-test.true c.row_back.ensures
