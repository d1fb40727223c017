-- The laws of the dry run, step by step.
-- Assumes nothing.
use native.Mathlib.Omega.{arith}
use Rattle.render_call.proofs.Steps.{rows_within, dry_runs, back_within, dry_ends}
use Rattle.render_call.proofs.call.Call.bytes_needed.Goals as goal

pub put_aside-requires : goal.put_aside-requires
put_aside-requires c = rows_within _ _ _ _ _ _ c.requires

pub run-halt-requires : goal.run-halt-requires
run-halt-requires c = dry_runs _ _ _ _ _ _ c.requires _ _ (rw c.reads_from-from.ensures at c.put_aside.ensures)

pub put_back-requires : goal.put_back-requires
put_back-requires c =
    let w = back_within _ _ _ _ _ _ c.requires _ _ (rw c.reads_from-from.ensures at c.put_aside.ensures) in
    rw (c.run-halt.ensures.store_left_of, c.reads_from-from.ensures) w

pub returns : goal.returns
returns c =
    dry_ends _ _ _ _ _ _ c.requires _ _ (rw c.reads_from-from.ensures at c.put_aside.ensures) _ (λ k. omega (arith, c.slice_known-2-1.given k)) _ _ _ _ _
    c.run-halt.ensures (rw c.reads_from-from.ensures at c.put_back.ensures)
