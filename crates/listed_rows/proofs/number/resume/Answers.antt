use mathlib.Core.Path.{sym}
use Rattle.rows.specs.View.{view_of}
use Rattle.listed_rows.proofs.Numbers.{resumed_is}
use Rattle.listed_rows.proofs.number.resume.Goals as goal

pub returns : goal.returns
returns c = resumed_is (view_of c.args.store.now) c.args.next c.args.number _ (rw (sym c.listed_row.ensures) c.is_first.ensures)
