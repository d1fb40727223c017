-- The tests are those of the definition, in its order.
use mathlib.Core.Path.{sym, ap, ap₂, ◌∙◌}
use lib.Dec.{ltb, leb}
use Rattle.writer.specs.Steps.{taken}
use Rattle.writer.proofs.Commented.{pair_not, pair_behind, pair_before}
use Rattle.writer.proofs.step.Step.pair_fits.Goals as goal

pub returns-then-not-stands : goal.returns-then-not-stands
returns-then-not-stands c = sym (ap taken (pair_not _ _ _ (sym c.stands.ensures ∙ c.if-not-stands.true)))

pub returns-then-least-start : goal.returns-then-least-start
returns-then-least-start c =
    ap₂ ltb c.num32-start.ensures.same c.num32.ensures.same
    ∙ pair_behind _ _ _ (sym c.stands.ensures ∙ c.if-not-stands.false) (rw c.num32-start.ensures.same at c.if-least-start.true)

pub returns-else-least-start : goal.returns-else-least-start
returns-else-least-start c =
    ap (leb c.args.least) c.num32-start.ensures.same
    ∙ pair_before _ _ _ (sym c.stands.ensures ∙ c.if-not-stands.false) (rw c.num32-start.ensures.same at c.if-least-start.false)
