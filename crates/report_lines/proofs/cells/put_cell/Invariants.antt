-- The blanks so far, none behind a text of ten columns or more.
-- Assumes nothing.
use Rattle.std.proofs.Common.{◌≡◌, ◌++◌, ◌-◌, ◌≤◌, length, replicate}
use Rattle.report_lines.specs.Table.{COLUMNS, BLANK}
use Rattle.report_lines.proofs.cells.put_cell.Given as goal

abbrev pub invariant-loop : goal.invariant-loop
invariant-loop l =
    (l.line.bytes ≡ l.fn.line.bytes ++ replicate (l.counter - length l.text) BLANK)
    × (l.counter - length l.text ≤ COLUMNS - length l.text)
