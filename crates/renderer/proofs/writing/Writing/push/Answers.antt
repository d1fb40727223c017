use mathlib.Core.Path.{refl}
use Rattle.renderer.proofs.Writes.{push_writes}
use Rattle.renderer.proofs.writing.Writing.push.Goals as goal

pub returns : goal.returns
returns c = push_writes _ _ _ _ _ 1 refl c.emit.ensures
