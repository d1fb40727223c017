-- The loop's invariant, `Backing`: the rows from here on are turned back.
use Rattle.row_widths.specs.Passes.{row_back}
use Rattle.row_widths.proofs.Passing.{Backing}
use Rattle.row_widths.proofs.turn.turn_back.Given as goal

abbrev pub invariant-loop-row : goal.invariant-loop-row
invariant-loop-row l = Backing row_back l.initial.store l.from l.to l.store l.row
