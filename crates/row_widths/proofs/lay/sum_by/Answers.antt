use mathlib.Core.Path.{sym, ◌∙◌}
use Rattle.row_widths.specs.Passes.{columns_in, any_width, row_summed}
use Rattle.row_widths.proofs.Passing.{passing_more, passing_end, summed_local}
use Rattle.row_widths.proofs.ByRule.{sums_by, sums_stay}
use Rattle.row_widths.proofs.lay.sum_by.Goals as goal

pub returns-in_default : goal.returns-in_default
returns-in_default c = sym (sums_stay c.args.rule c.args.source.now c.args.image.now _ _ _ (sym c.of.ensures ∙ c.in_default.is))

pub loop-row-preserved : goal.loop-row-preserved
loop-row-preserved c =
    let f = any_width (columns_in c.in-Some.edition c.args.source.now c.args.image.now) in
    passing_more (row_summed f) (summed_local f) _ _ _ _ _ _ c.loop-row.invariant c.loop-row-test.true c.sum_row.ensures

pub returns : goal.returns
returns c =
    let f = any_width (columns_in c.in-Some.edition c.args.source.now c.args.image.now) in
    passing_end (row_summed f) _ _ _ _ _ c.loop-row.invariant c.loop-row-test.false
    ∙ sums_by c.args.rule c.in-Some.edition (sym c.of.ensures ∙ c.in-Some.is) c.args.source.now c.args.image.now _ _ _
