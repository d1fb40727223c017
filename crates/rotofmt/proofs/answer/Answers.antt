-- The reply lies in the output.
use native.Mathlib.Omega.{arith}
use lib.ListN.{length-take}
use Rattle.file.proofs.Replied.{reply_within}
use Rattle.rotofmt.proofs.answer.Goals as goal

pub slice_bounds-out-end : goal.slice_bounds-out-end
slice_bounds-out-end g c = reply_within _ _ _ _ c.reply-n.ensures

pub slice_bounds-write_all-end : goal.slice_bounds-write_all-end
slice_bounds-write_all-end g c =
    let h = reply_within _ _ _ _ c.reply-n.ensures in
    simp length-take (omega arith)
