use mathlib.Core.Path.{◌∙◌}
use Rattle.layout.proofs.chains.precedence.Goals as goal

pub returns : goal.returns
returns c = c.precedence.ensures ∙ rw (c.of.ensures, c.payload.ensures, c.second.ensures)
