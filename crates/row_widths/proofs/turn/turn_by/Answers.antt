use Rattle.row_widths.specs.Passes.{columns_in, row_turned}
use Rattle.row_widths.proofs.Passing.{passing_more, passing_end, turned_local}
use Rattle.row_widths.proofs.turn.turn_by.Goals as goal

pub loop-row-preserved : goal.loop-row-preserved
loop-row-preserved c =
    let f = columns_in c.args.edition c.args.source.now c.args.image.now in
    passing_more (row_turned f) (turned_local f) _ _ _ _ _ _ c.loop-row.invariant c.loop-row-test.true c.turn_row.ensures

pub returns : goal.returns
returns c = passing_end (row_turned (columns_in c.args.edition c.args.source.now c.args.image.now)) _ _ _ _ _ c.loop-row.invariant c.loop-row-test.false
