-- What is listed is what encloses the next row, as far as the rows are compared.
use lib.ListN.{get_or}
use Rattle.rows.specs.View.{view_of}
use Rattle.listed_rows.specs.Numbers.{open_row}
use Rattle.listed_rows.proofs.Seeing.{Seeing}
use Rattle.listed_rows.proofs.those.lists_those.Given as goal

abbrev pub invariant-loop-row : goal.invariant-loop-row
invariant-loop-row l = Seeing (view_of l.store) l.listed (open_row (get_or l.listed 0 0)).row l.next l.found l.row
