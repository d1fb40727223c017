use mathlib.Core.Path.{sym, ap, ◌∙◌}
use Rattle.rowcheck.proofs.Tries.{inside_right, shape_right, outside, misshapen, kindless, all_right, tried_none, tried_some}
use Rattle.rowcheck.proofs.weighing.weigh_row.Goals as goal

pub is_inside-requires : goal.is_inside-requires
is_inside-requires c e = inside_right _ _ _ _ _ _ _ c.place-after.ensures.0 (c.requires.right e)

pub returns-then-not-is_inside : goal.returns-then-not-is_inside
returns-then-not-is_inside c =
    tried_none _ _ _ _ _ (outside _ _ _ _ _ _ _ c.place-after.ensures.0 (sym c.is_inside.ensures ∙ c.if-not-is_inside.true))

pub returns-in_default : goal.returns-in_default
returns-in_default c = tried_none _ _ _ _ _ (kindless _ _ _ _ _ _ _ c.place-after.ensures.0 (sym c.row_kind.ensures ∙ c.in_default.is))

pub leaf_passes-requires-clause-right : goal.leaf_passes-requires-clause-right
leaf_passes-requires-clause-right c e = shape_right _ _ _ _ _ _ _ c.place-after.ensures.0 (c.requires.right e)

pub returns-then-not-leaf_passes : goal.returns-then-not-leaf_passes
returns-then-not-leaf_passes c =
    tried_none _ _ _ _ _ (misshapen _ _ _ _ _ _ _ c.place-after.ensures.0 (sym c.leaf_passes.ensures ∙ c.if-not-leaf_passes.true))

pub returns-then-is_leaf : goal.returns-then-is_leaf
returns-then-is_leaf c =
    let inside = sym c.is_inside.ensures ∙ c.if-not-is_inside.false in
    tried_some _ _ _ _ _ _
    (all_right _ _ _ _ _ _ _ c.place-after.ensures.0 inside (sym c.leaf_passes.ensures ∙ c.if-not-leaf_passes.false))
    c.with_leaf.ensures

pub node_passes-requires-clause-right : goal.node_passes-requires-clause-right
node_passes-requires-clause-right c e = shape_right _ _ _ _ _ _ _ c.place-after.ensures.0 (c.requires.right e)

pub returns-then-not-node_passes : goal.returns-then-not-node_passes
returns-then-not-node_passes c =
    tried_none _ _ _ _ _ (misshapen _ _ _ _ _ _ _ c.place-after.ensures.0 (sym c.node_passes.ensures ∙ c.if-not-node_passes.true))

pub returns : goal.returns
returns c =
    let inside = sym c.is_inside.ensures ∙ c.if-not-is_inside.false in
    tried_some _ _ _ _ _ _
    (all_right _ _ _ _ _ _ _ c.place-after.ensures.0 inside (sym c.node_passes.ensures ∙ c.if-not-node_passes.false))
    (c.with_node.ensures _)
