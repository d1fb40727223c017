use mathlib.Core.Path.{sym, ◌∙◌}
use Rattle.text.proofs.Walks.{seek_start, seek_nothing}
use Rattle.text.proofs.space.find_something.Goals as goal

pub loop-c-init : goal.loop-c-init
loop-c-init c = seek_start _ _

pub returns : goal.returns
returns c = seek_nothing _ _ _ (sym c.char_at.ensures ∙ c.in_default.is) c.loop-c.invariant
