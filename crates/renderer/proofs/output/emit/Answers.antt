use mathlib.Core.Path.{◌∙◌}
use Rattle.renderer.proofs.Written.{emitted}
use Rattle.renderer.proofs.output.emit.Goals as goal

pub returns : goal.returns
returns c = c.put.ensures ∙ emitted _ _ _
