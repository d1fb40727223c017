use mathlib.Core.Path.{sym, ◌∙◌}
use Rattle.std.proofs.lemmas.Iterator.Adapters.{option_map_id}
use Rattle.std.proofs.lemmas.Iterator.Consumers.{YieldsList-from_first, nth_from_yields_List}
use Rattle.comments.specs.Records.{offsets}
use Rattle.layout_call.proofs.Standing.{first_in, tree_in, all_records_in, record_at}
use Rattle.layout_call.proofs.steps.declaration_at.Goals as goal

pub second-from-requires : goal.second-from-requires
second-from-requires c = first_in c.args.file.accepts

pub past-to-requires : goal.past-to-requires
past-to-requires c = tree_in c.args.file.accepts

pub records-requires : goal.records-requires
records-requires c = rw (c.second-from.ensures, c.past-to.ensures) (all_records_in c.args.file.accepts)

pub returns : goal.returns
returns c =
    let given = rw (c.second-from.ensures, c.past-to.ensures) at c.records.ensures in
    let yields = YieldsList-from_first (λ x. x) offsets _ given in
    let found = sym (option_map_id c.nth.result) ∙ nth_from_yields_List _ c.nth.new.self c.args.k c.nth.ensures.ran yields in
    (rw (found, c.past-to.ensures) at c.unwrap_or.ensures) ∙ record_at c.args.file.accepts c.args.k c.requires
