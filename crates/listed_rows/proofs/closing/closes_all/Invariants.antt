-- The rows behind are closed.
use Rattle.rows.specs.View.{view_of}
use Rattle.listed_rows.proofs.Shut.{Shut}
use Rattle.listed_rows.proofs.closing.closes_all.Given as goal

abbrev pub invariant-loop-place : goal.invariant-loop-place
invariant-loop-place l = Shut (view_of l.store) l.listed l.initial.left l.left l.place
