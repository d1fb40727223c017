-- The cells so far.
-- Assumes nothing.
use Rattle.std.proofs.Common.{◌≡◌, ◌++◌, ◌+◌, ◌*◌, ◌≤◌, length, map, take}
use Rattle.lines.specs.Lines.{decimal}
use Rattle.report_lines.specs.Table.{cells}
use Rattle.report_lines.proofs.cells.put_figures.Given as goal

abbrev pub invariant-loop-n : goal.invariant-loop-n
invariant-loop-n l =
    (l.line.bytes ≡ l.fn.line.bytes ++ cells (map decimal (take l.n-index l.n-items)))
    × (length l.line.bytes ≤ length l.fn.line.bytes + 21 * l.n-index)
