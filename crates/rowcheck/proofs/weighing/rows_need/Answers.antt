use mathlib.Core.Path.{sym, ap, ◌∙◌}
use Rattle.rowcheck.specs.Needs.{wrong_in}
use Rattle.rowcheck.proofs.Pending.{stop_in, rows_right}
use Rattle.rowcheck.proofs.weighing.rows_need.Goals as goal

pub weigh_rows-requires-clause-rows : goal.weigh_rows-requires-clause-rows
weigh_rows-requires-clause-rows c =
    stop_in c.args.rows.source.now c.args.rows.image.now c.args.rows.store.now c.args.from c.args.stop c.requires.right

pub weigh_rows-requires-clause-right : goal.weigh_rows-requires-clause-right
weigh_rows-requires-clause-right c e =
    rows_right c.args.rows.source.now c.args.rows.image.now c.args.rows.store.now c.args.from c.args.stop c.requires.right

pub returns-in-Err : goal.returns-in-Err
returns-in-Err c =
    let right = rows_right c.args.rows.source.now c.args.rows.image.now c.args.rows.store.now c.args.from c.args.stop c.requires.right in
    let none = sym (ap wrong_in c.in-Err.is) ∙ c.weigh_rows.ensures.row ∙ right in
    absurd (cc)
