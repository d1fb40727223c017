-- What is found from the row on is what is found from the first row on.
use Rattle.renderer_rules.specs.Check.{whole_at}
use Rattle.rowcheck.proofs.Seeking.{Seeking}
use Rattle.rowcheck.proofs.whole.first_torn.Given as goal

abbrev pub invariant-loop-row : goal.invariant-loop-row
invariant-loop-row l = Seeking (whole_at l.rows.source.now l.rows.image.now l.rows.store.now) l.from l.to l.row
