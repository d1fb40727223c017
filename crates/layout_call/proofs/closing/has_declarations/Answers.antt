use Rattle.layout_call.proofs.Standing.{first_in, tree_in, some_declared}
use Rattle.layout_call.proofs.closing.has_declarations.Goals as goal

pub past-requires : goal.past-requires
past-requires c = tree_in c.args.file.accepts

pub second-requires : goal.second-requires
second-requires c = first_in c.args.file.accepts

pub returns : goal.returns
returns c = some_declared c.args.file.accepts c.second.result c.past.result c.second.ensures c.past.ensures
