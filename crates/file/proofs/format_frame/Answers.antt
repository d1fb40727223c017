-- 13, and then the run of the frame's file.
use Rattle.file.proofs.Frames.{runs_parts}
use Rattle.file.proofs.format_frame.Goals as goal

pub returns : goal.returns
returns c =
    runs_parts _ _ c.if-frame-gt-MAX_FRAME.false c.if-frame-lt4.false _ c.num32-size.ensures.same c.if-frame-size.false _ _ c.format_file.ensures
