use Rattle.widths.proofs.Editions.{usable}
use Rattle.widths.proofs.Edition.text_columns.Goals as goal

pub text_columns-requires : goal.text_columns-requires
text_columns-requires c = rw c.table.ensures (usable c.args.self)
