-- Past the end `set` changes nothing.
use mathlib.Core.Path.{sym}
use lib.Seq.{set_out}
use Rattle.writer.proofs.output.set.Goals as goal

pub returns-else-pos-out : goal.returns-else-pos-out
returns-else-pos-out c = sym (set_out _ _ _ c.if-pos-out.false)
