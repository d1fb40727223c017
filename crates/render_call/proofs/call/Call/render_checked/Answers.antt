-- The rows are counted first.
-- Assumes nothing.
use Rattle.render_call.proofs.Early.{right, needs_of}
use Rattle.render_call.proofs.call.Call.render_checked.Goals as goal

pub rows_need-needs-requires-clause-right : goal.rows_need-needs-requires-clause-right
rows_need-needs-requires-clause-right c = rw c.reads_from.ensures (right _ _ _ _ _ _ c.requires)

pub render_needing-requires-clause-needs : goal.render_needing-requires-clause-needs
render_needing-requires-clause-needs c =
    needs_of _ _ _ _ _ _ c.requires _ _ c.margin.ensures (rw c.reads_from.ensures at c.rows_need-needs.ensures)
