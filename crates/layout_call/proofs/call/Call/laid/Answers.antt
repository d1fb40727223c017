use mathlib.Core.Path.{refl}
use native.Mathlib.Omega.{arith}
use Rattle.layout_call.proofs.Ends.{ends_past, ends_laid, placed_in, sums_within}
use Rattle.layout_call.proofs.call.Call.laid.Goals as goal

pub returns-then-rows-row : goal.returns-then-rows-row
returns-then-rows-row c =
    let call = c.args.self.now in
    rw c.at.ensures (ends_past _ _ call.state call.args _ call.file.accepts c.requires _ _ c.lay_all-e.ensures c.if-rows-row.true)

pub sum_by-requires : goal.sum_by-requires
sum_by-requires c =
    let call = c.args.self.now in
    sums_within _ _ call.state call.args _ call.file.accepts c.requires _ _ c.lay_all-e.ensures c.if-rows-row.false

pub overflow_sub-result : goal.overflow_sub-result
overflow_sub-result c =
    let call = c.args.self.now in
    omega (arith, placed_in _ _ call.state call.args _ call.file.accepts c.requires _ _ c.lay_all-e.ensures)

pub returns : goal.returns
returns c =
    let call = c.args.self.now in
    ends_laid _ _ call.state call.args _ call.file.accepts c.requires _ _ c.lay_all-e.ensures c.if-rows-row.false _ c.sum_by.ensures _ _
    refl refl refl refl refl refl refl refl refl refl
