use mathlib.Core.Path.{sym}
use Rattle.renderer_rules.specs.Check.{whole_at}
use Rattle.rowcheck.proofs.Seeking.{seek_more, seek_found, seek_end}
use Rattle.rowcheck.proofs.whole.first_torn.Goals as goal

pub returns-then-not-is_row_whole : goal.returns-then-not-is_row_whole
returns-then-not-is_row_whole c =
    seek_found (whole_at c.args.rows.source.now c.args.rows.image.now c.args.rows.store.now) _ _ _ c.loop-row.invariant c.loop-row-test.true
    (sym c.if-not-is_row_whole.ensures)

pub loop-row-preserved : goal.loop-row-preserved
loop-row-preserved c =
    seek_more (whole_at c.args.rows.source.now c.args.rows.image.now c.args.rows.store.now) _ _ _ c.loop-row.invariant c.loop-row-test.true
    (sym c.if-not-is_row_whole.ensures)

pub returns : goal.returns
returns c = seek_end (whole_at c.args.rows.source.now c.args.rows.image.now c.args.rows.store.now) _ _ _ c.loop-row.invariant c.loop-row-test.false
