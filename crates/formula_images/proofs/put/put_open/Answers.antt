-- The code, the kind, and two zeros.
use mathlib.Core.Path.{sym, ap}
use mathlib.Core.List.{◌∷◌, ◌++◌}
use Prim.Native.Nat.{ℕ}
use Rattle.image.specs.Write.{bytes4}
use Rattle.formula_images.proofs.Steps.{appends_join, appends_as}
use Rattle.formula_images.proofs.put.put_open.Goals as goal

pub returns : goal.returns
returns c =
    appends_as (ap (λ (k : ℕ). 2 ∷ k ∷ bytes4 0 ++ bytes4 0) (sym c.number.ensures))
    (appends_join c.put.ensures (appends_join c.put-2.ensures (appends_join c.put32.ensures c.put32-2.ensures)))
