-- The operands stand between the record's head and its end.
use mathlib.Core.Path.{subst}
use mathlib.Core.List.{[], ◌∷◌}
use native.Mathlib.Omega.{arith}
use Rattle.image.specs.Kinds.{NEGATE, PARENTHESES}
use Rattle.formulas.specs.Formulas.{negation, parentheses}
use Rattle.formula_images.specs.Parts.{Comes}
use Rattle.formula_images.proofs.Steps.{path_bytes, negation_is, parentheses_is}
use Rattle.formula_images.proofs.Laid.{path_done, single_done, single_close, double_operator, double_right, double_close, double_done}
use Rattle.formula_images.proofs.put.+put_formula.Goals as goal

pub put_close-requires : goal.put_close-requires
put_close-requires t c =
    omega (arith, c.requires.1, c.requires.0.least, c.put_open.ensures.place, c.put_path.ensures.place, path_bytes (0x61 ∷ []))

pub put_operator-requires : goal.put_operator-requires
put_operator-requires t c =
    double_operator _ _ _ _ (subst (Comes c.args.at) c.in-Binary.is c.shape_at.ensures) c.requires.1 c.put_open-in-Binary.ensures c.put_formula.ensures

pub put_formula-requires-in-Binary : goal.put_formula-requires-in-Binary
put_formula-requires-in-Binary t c =
    let d = subst (Comes c.args.at) c.in-Binary.is c.shape_at.ensures in (
      omega (arith, c.decreases, d.both.sizes, d.both.first.least),
      (d.both.second, double_right _ _ _ _ d c.requires.1 c.put_open-in-Binary.ensures c.put_formula.ensures c.put_operator.ensures),
    )

pub put_close-requires-in-Binary : goal.put_close-requires-in-Binary
put_close-requires-in-Binary t c =
    double_close _ _ _ _ (subst (Comes c.args.at) c.in-Binary.is c.shape_at.ensures) c.requires.1 c.put_open-in-Binary.ensures
    c.put_formula.ensures c.put_operator.ensures c.put_formula-in-Binary.ensures

pub put_close-requires-in-Negation : goal.put_close-requires-in-Negation
put_close-requires-in-Negation t c =
    single_close _ _ negation NEGATE (subst (Comes c.args.at) c.in-Negation.is c.shape_at.ensures) c.requires.1 c.put_open-in-Negation.ensures
    c.put_formula-in-Negation.ensures

pub put_close-requires-in-Parentheses : goal.put_close-requires-in-Parentheses
put_close-requires-in-Parentheses t c =
    single_close _ _ parentheses PARENTHESES (subst (Comes c.args.at) c.in-Parentheses.is c.shape_at.ensures) c.requires.1
    c.put_open-in-Parentheses.ensures c.put_formula-in-Parentheses.ensures

pub returns-in-Path : goal.returns-in-Path
returns-in-Path t c =
    path_done _ (subst (Comes c.args.at) c.in-Path.is c.shape_at.ensures) c.put_open.ensures c.put_path.ensures c.put_close.ensures

pub returns-in-Binary : goal.returns-in-Binary
returns-in-Binary t c =
    double_done _ _ _ _ (subst (Comes c.args.at) c.in-Binary.is c.shape_at.ensures) c.put_open-in-Binary.ensures c.put_formula.ensures
    c.put_operator.ensures c.put_formula-in-Binary.ensures c.put_close-in-Binary.ensures

pub returns-in-Negation : goal.returns-in-Negation
returns-in-Negation t c =
    single_done _ _ negation NEGATE (subst (Comes c.args.at) c.in-Negation.is c.shape_at.ensures) negation_is c.put_open-in-Negation.ensures
    c.put_formula-in-Negation.ensures c.put_close-in-Negation.ensures

pub returns-in-Parentheses : goal.returns-in-Parentheses
returns-in-Parentheses t c =
    single_done _ _ parentheses PARENTHESES (subst (Comes c.args.at) c.in-Parentheses.is c.shape_at.ensures) parentheses_is
    c.put_open-in-Parentheses.ensures c.put_formula-in-Parentheses.ensures c.put_close-in-Parentheses.ensures
