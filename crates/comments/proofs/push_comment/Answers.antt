-- Trimming at the end keeps the start, so that the length is no less than 0.
-- Assumes nothing.
use native.Mathlib.Omega.{arith}
use Rattle.text.proofs.Trims.{trim_before, trim_after}
use Rattle.comments.proofs.push_comment.Goals as goal

pub overflow_sub-trimmed : goal.overflow_sub-trimmed
overflow_sub-trimmed c =
    let w = c.args.comment in
    omega (arith, c.trim_end-trimmed.ensures, trim_after c.args.parsed.now.source.now w.start w.end c.requires.start_le_end)

pub push-requires : goal.push-requires
push-requires c =
    let w = c.args.comment in
    record {
      room = rw c.trim_end-trimmed.ensures c.requires.room;
      small = omega (arith, c.trim_end-trimmed.ensures, trim_before c.args.parsed.now.source.now w.start w.end);
    }
