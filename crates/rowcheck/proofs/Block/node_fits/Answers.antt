use mathlib.Core.Path.{sym, ◌∙◌}
use Rattle.rowcheck.proofs.Shapes.{node_wrong}
use Rattle.rowcheck.proofs.Block.node_fits.Goals as goal

pub returns-then-not-has_no_text : goal.returns-then-not-has_no_text
returns-then-not-has_no_text c =
    node_wrong _ _ _ _ (sym c.has_no_text.ensures ∙ c.if-not-has_no_text.true) c.args.kind c.requires.node c.requires.kind
