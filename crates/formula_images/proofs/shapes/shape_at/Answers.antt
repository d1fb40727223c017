-- Plus, times, negation, parentheses: each takes a part of the places.
use native.Mathlib.Omega.{arith}
use Rattle.formula_images.proofs.Splits.{path_comes, plus_comes, times_comes, negation_comes, parentheses_comes}
use Rattle.formula_images.proofs.shapes.shape_at.Goals as goal

pub returns-then-at-eq1 : goal.returns-then-at-eq1
returns-then-at-eq1 c = (c.if-at-eq1.true, path_comes _ c.requires c.if-at-eq1.true)

pub returns-then-at-each : goal.returns-then-at-each
returns-then-at-each c =
    plus_comes _ _ c.requires (omega (arith, c.requires.least, c.if-at-eq1.false)) c.binaries-each.ensures c.if-at-each.true _ _ c.operands.ensures

pub returns-then-rest-each : goal.returns-then-rest-each
returns-then-rest-each c =
    times_comes _ _ c.requires (omega (arith, c.requires.least, c.if-at-eq1.false)) c.binaries-each.ensures (omega (arith, c.if-at-each.false))
    c.if-rest-each.true _ _ c.operands-then-rest-each.ensures

pub returns-then-single-inner : goal.returns-then-single-inner
returns-then-single-inner c =
    negation_comes _ _ c.requires (omega (arith, c.requires.least, c.if-at-eq1.false)) c.binaries-each.ensures (omega (arith, c.if-at-each.false))
    (omega (arith, c.if-rest-each.false)) _ c.count-inner.ensures c.if-single-inner.true

pub returns : goal.returns
returns c =
    parentheses_comes _ _ c.requires (omega (arith, c.requires.least, c.if-at-eq1.false)) c.binaries-each.ensures (omega (arith, c.if-at-each.false))
    (omega (arith, c.if-rest-each.false)) _ c.count-inner.ensures (omega (arith, c.if-single-inner.false))
