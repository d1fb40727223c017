use Rattle.row_widths.specs.Passes.{row_back}
use Rattle.row_widths.proofs.Passing.{backing_start, backing_more, back_size}
use Rattle.row_widths.proofs.turn.turn_back.Goals as goal

pub loop-row-init : goal.loop-row-init
loop-row-init c = backing_start row_back _ _ _ c.requires.0

pub loop-row-preserved : goal.loop-row-preserved
loop-row-preserved c = backing_more row_back back_size _ _ _ _ _ _ c.loop-row.invariant c.loop-row-test.true c.back_row.ensures
