use mathlib.Core.Path.{sym, ◌∙◌}
use native.Mathlib.Omega.{arith}
use Rattle.widths.specs.Widths.{table_width}
use Rattle.text.proofs.Characters.{at_inside}
use Rattle.widths.proofs.Narrow.{one_column, bytes_enough}
use Rattle.widths.proofs.Adding.{plain_added, add_next, add_end}
use Rattle.widths.proofs.sums.text_columns.Goals as goal

pub loop-c-init : goal.loop-c-init
loop-c-init c =
    plain_added (table_width c.args.table.now) c.args.text.now c.plain_end-at.result
    (λ k h. one_column c.args.table.now k c.requires.small (omega arith)) c.plain_end-at.ensures

pub overflow_add-sum : goal.overflow_add-sum
overflow_add-sum c =
    let found = sym c.char_at.ensures ∙ c.in-Some.is in
    let i = at_inside c.args.text.now c.loop-c.at c.in-Some.c found in
    let few = bytes_enough c.args.table.now c.args.text.now c.loop-c.at c.in-Some.c c.requires.small found in
    omega (arith, i.1, few, c.columns_in-sum.ensures, c.loop-c.invariant.room)

pub overflow_add-at : goal.overflow_add-at
overflow_add-at c =
    let i = at_inside c.args.text.now c.loop-c.at c.in-Some.c (sym c.char_at.ensures ∙ c.in-Some.is) in omega (arith, i.1)

pub loop-c-smaller : goal.loop-c-smaller
loop-c-smaller c =
    let i = at_inside c.args.text.now c.loop-c.at c.in-Some.c (sym c.char_at.ensures ∙ c.in-Some.is) in omega (arith, i.0, i.1)

pub loop-c-preserved : goal.loop-c-preserved
loop-c-preserved c =
    add_next c.args.table.now c.args.text.now c.loop-c.at c.loop-c.sum c.columns_in-sum.result c.in-Some.c c.requires.small
    (sym c.char_at.ensures ∙ c.in-Some.is) c.columns_in-sum.ensures c.loop-c.invariant

pub returns : goal.returns
returns c =
    add_end (table_width c.args.table.now) c.args.text.now c.loop-c.at c.loop-c.sum (sym c.char_at.ensures ∙ c.in_default.is) c.loop-c.invariant
