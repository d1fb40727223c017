-- 9 by the marks that the rows need.
-- Assumes nothing.
use Rattle.render_call.proofs.Early.{marks_short}
use Rattle.render_call.proofs.call.Call.render_needing.Goals as goal

pub returns-then-marks-needs : goal.returns-then-marks-needs
returns-then-marks-needs c = marks_short _ _ _ _ _ _ c.requires.checked _ c.requires.needs.marks _ _ c.if-marks-needs.true _ c.at.ensures
