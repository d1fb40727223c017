use Rattle.renderer.proofs.Writes.{before_new, before_blank}
use mathlib.Core.Path.{refl}
use Rattle.renderer.proofs.writing.Writing.start_comment.Goals as goal

pub returns-then-self-eq0 : goal.returns-then-self-eq0
returns-then-self-eq0 c = before_new _ _ _ _ _ _ c.if-self-eq0.true c.start_line.ensures

pub returns-else-self-eq0 : goal.returns-else-self-eq0
returns-else-self-eq0 c = before_blank _ _ _ _ _ _ c.if-self-eq0.false refl c.push.ensures
