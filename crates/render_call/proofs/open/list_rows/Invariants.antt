-- The rows so far are listed.
use Rattle.render_call.proofs.Opening.{Listing}
use Rattle.render_call.proofs.open.list_rows.Given as goal

abbrev pub invariant-loop-place : goal.invariant-loop-place
invariant-loop-place l = Listing l.frames.items l.frames.depth l.initial.listed l.listed l.place
