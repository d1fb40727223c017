-- The loop's invariant, `Passing`: the rows that are left give the whole pass.
use Rattle.row_widths.specs.Passes.{columns_in, any_width, row_summed}
use Rattle.row_widths.proofs.Passing.{Passing}
use Rattle.row_widths.proofs.lay.sum_by.Given as goal

abbrev pub invariant-loop-row : goal.invariant-loop-row
invariant-loop-row l = Passing (row_summed (any_width (columns_in l.edition l.source l.image))) l.initial.store l.from l.to l.store l.row
