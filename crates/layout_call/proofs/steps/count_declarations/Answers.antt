use mathlib.Core.Logic.{inl}
use mathlib.Core.Path.{ap, ◌∙◌}
use native.Mathlib.Omega.{arith}
use lib.ListN.{length}
use Rattle.std.proofs.lemmas.Iterator.Consumers.{YieldsList-from_first, count_from_yields_List}
use Rattle.comments.specs.Records.{offsets}
use Rattle.layout_call.proofs.Standing.{first_in, tree_in, all_records_in, as_many_records, few_declarations}
use Rattle.layout_call.proofs.steps.count_declarations.Goals as goal

pub second-from-requires : goal.second-from-requires
second-from-requires c = first_in c.args.file.accepts

pub past-to-requires : goal.past-to-requires
past-to-requires c = tree_in c.args.file.accepts

pub records-requires : goal.records-requires
records-requires c = rw (c.second-from.ensures, c.past-to.ensures) (all_records_in c.args.file.accepts)

pub count-requires-clause-fits : goal.count-requires-clause-fits
count-requires-clause-fits c =
    let given = rw (c.second-from.ensures, c.past-to.ensures) at (ap length c.records.ensures) in
    inl (omega (arith, given, as_many_records c.args.file.accepts, few_declarations c.args.file.accepts))

pub returns : goal.returns
returns c =
    let given = rw (c.second-from.ensures, c.past-to.ensures) at c.records.ensures in
    count_from_yields_List _ c.count.result c.count.ensures.ran (YieldsList-from_first (λ x. x) offsets _ given)
    ∙ as_many_records c.args.file.accepts
