-- The dry run, and then 10 or the true run.
-- Assumes nothing.
use Rattle.render_call.proofs.Steps.{ends_ten}
use Rattle.render_call.proofs.call.Call.render_counted.Goals as goal

pub returns-then-out-size : goal.returns-then-out-size
returns-then-out-size c =
    ends_ten _ _ _ _ _ _ c.requires.0 _ _ _ _ _ c.bytes_needed-size.ensures c.if-out-size.true _ c.at.ensures
