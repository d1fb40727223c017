-- The rows so far are open.
use Rattle.rows.specs.View.{view_of}
use Rattle.render_call.proofs.Opening.{Opening}
use Rattle.render_call.proofs.open.open_rows.Given as goal

abbrev pub invariant-loop-place : goal.invariant-loop-place
invariant-loop-place l = Opening (view_of l.store) l.next l.listed l.frames.items l.place
