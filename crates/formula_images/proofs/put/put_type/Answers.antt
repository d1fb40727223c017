-- The path, and no list of parameters.
use mathlib.Core.List.{[], ◌∷◌}
use native.Mathlib.Omega.{arith}
use Rattle.formula_images.proofs.Steps.{appends_join, appends_as, path_bytes, type_is}
use Rattle.formula_images.proofs.put.put_type.Goals as goal

pub put-requires : goal.put-requires
put-requires c = omega (arith, c.requires, c.put_open.ensures.place, c.put_path.ensures.place, path_bytes (0x75 ∷ 0x33 ∷ 0x32 ∷ []))

pub put_close-requires : goal.put_close-requires
put_close-requires c =
    omega (arith, c.requires, c.put_open.ensures.place, c.put_path.ensures.place, path_bytes (0x75 ∷ 0x33 ∷ 0x32 ∷ []), c.put.ensures.place)

pub returns : goal.returns
returns c = appends_as type_is (appends_join c.put_open.ensures (appends_join c.put_path.ensures (appends_join c.put.ensures c.put_close.ensures)))
