-- The steps up to the formula, the formula, and the ends of two records.
use native.Mathlib.Omega.{arith}
use Rattle.formula_images.proofs.Steps.{type_length, const_done}
use Rattle.formula_images.proofs.Laid.{bytes_at, front_place}
use Rattle.formula_images.proofs.put.put_tree.Goals as goal

pub put_type-requires : goal.put_type-requires
put_type-requires c =
    omega (arith, front_place c.requires.1 c.put_open.ensures c.put.ensures c.put_open-2.ensures c.put_text.ensures)

pub put_formula-requires : goal.put_formula-requires
put_formula-requires c = (
  c.requires.0,
  omega (
    arith,
    front_place c.requires.1 c.put_open.ensures c.put.ensures c.put_open-2.ensures c.put_text.ensures,
    c.put_type.ensures.place,
    type_length,
    c.requires.0.most,
  ),
)

pub put_close-requires : goal.put_close-requires
put_close-requires c =
    omega (
      arith,
      front_place c.requires.1 c.put_open.ensures c.put.ensures c.put_open-2.ensures c.put_text.ensures,
      c.put_type.ensures.place,
      type_length,
      c.put_formula.ensures.place,
      bytes_at c.args.at c.requires.0,
      c.requires.0.most,
    )

pub put_close-requires-2 : goal.put_close-requires-2
put_close-requires-2 c =
    omega (
      arith,
      front_place c.requires.1 c.put_open.ensures c.put.ensures c.put_open-2.ensures c.put_text.ensures,
      c.put_type.ensures.place,
      type_length,
      c.put_formula.ensures.place,
      bytes_at c.args.at c.requires.0,
      c.requires.0.most,
      c.put_close.ensures.place,
    )

pub returns : goal.returns
returns c =
    const_done _ c.put_open.ensures c.put.ensures c.put_open-2.ensures c.put_text.ensures c.put_type.ensures c.put_formula.ensures
    c.put_close.ensures c.put_close-2.ensures
