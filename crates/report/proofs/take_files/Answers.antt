use Rattle.std.proofs.Common.{rules}
use native.Mathlib.Omega.{arith}
use Rattle.whole_run.specs.FileLimits.{AreBytes}
use Rattle.report.specs.Report.{unwritten, most_files}
use Rattle.report.proofs.Turns.{taken_none, taken_turn}
use Rattle.report.proofs.take_files.Goals as goal

pub loop-progress-init : goal.loop-progress-init
loop-progress-init g c = taken_none c.default-progress.ensures

pub loop-progress-preserved : goal.loop-progress-preserved
loop-progress-preserved g c =
    let read = c.read_file-came.new in
    let bytes : AreBytes read.image = λ i. search rules in
    taken_turn read.lengths read.source read.image bytes c.loop-progress.progress _ _ c.loop-progress.invariant c.take_next-turn.ensures.progress

pub returns-then-is_err : goal.returns-then-is_err
returns-then-is_err g c =
    let read = c.read_file-came.new in
    let bytes : AreBytes read.image = λ i. search rules in
    let t = taken_turn read.lengths read.source read.image bytes c.loop-progress.progress _ _ c.loop-progress.invariant c.take_next-turn.ensures.progress in
    record { files = t.files; holds = t.holds; stops = unwritten (search rules) }

pub returns-after-loop-progress : goal.returns-after-loop-progress
returns-after-loop-progress g c =
    let t = c.loop-progress.invariant in
    record { files = t.files; holds = t.holds; stops = most_files (omega (arith, c.loop-progress-test.false)) }
