-- The payload between its record's head and end.
use mathlib.Core.Path.{sym, ap, ◌∙◌}
use Prim.Native.Nat.{ℕ}
use Rattle.formula_images.specs.Images.{operator_of}
use Rattle.formula_images.specs.Parts.{steps_in}
use Rattle.formula_images.proofs.Steps.{appends_join, appends_as, operator_is}
use Rattle.formula_images.proofs.put.put_operator.Goals as goal

pub returns : goal.returns
returns c =
    appends_as (ap (λ (x : ℕ). steps_in (operator_of x)) (sym c.number.ensures) ∙ operator_is _)
    (appends_join c.put_open.ensures (appends_join c.put.ensures (appends_join c.put-2.ensures c.put_close.ensures)))
