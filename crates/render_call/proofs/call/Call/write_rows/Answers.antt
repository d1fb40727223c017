-- The laws of the true run, step by step.
-- Assumes nothing.
use native.Mathlib.Omega.{arith}
use Rattle.render_call.proofs.Steps.{marks_within, run_may, run_ends}
use Rattle.render_call.proofs.call.Call.write_rows.Goals as goal

pub clear_marks-requires : goal.clear_marks-requires
clear_marks-requires c = marks_within _ _ _ _ _ _ _ c.args.listed.now c.requires.0 _ c.requires.1

pub run-halt-requires : goal.run-halt-requires
run-halt-requires c = run_may _ _ _ _ _ _ _ c.args.listed.now c.requires.0

pub returns : goal.returns
returns c =
    run_ends _ _ _ _ _ _ _ _ c.requires.0 _ _ c.requires.1 _ c.clear_marks.ensures _ _ _ _ c.run-halt.ensures (omega arith) c.list_rows.ensures _
    c.max.ensures
