use borrow.Author.Tests.{eqb-true, eqb-false}
use mathlib.Core.Path.{refl, sym, ◌∙◌}
use native.Mathlib.Omega.{arith}
use Rattle.renderer.proofs.Sums.{passed, second_later, second_part, ended}
use Rattle.renderer.proofs.measure.until_wrapped.Goals as goal

pub loop-row-smaller-then-has_kind : goal.loop-row-smaller-then-has_kind
loop-row-smaller-then-has_kind c =
    let x =
    second_later _ _ _ _ _ _ c.requires c.loop-row.invariant c.loop-row-test.true
    c.place-row.result (eqb-true _ 10 (sym c.if-has_kind.ensures)) c.place-row.ensures.0
    in
    omega (arith, x.0, x.1)

pub loop-row-preserved-then-has_kind : goal.loop-row-preserved-then-has_kind
loop-row-preserved-then-has_kind c =
    second_part _ _ _ _ _ _ c.requires c.loop-row.invariant c.loop-row-test.true c.place.result
    c.place-row.result (eqb-true _ 10 (sym c.if-has_kind.ensures)) c.place.ensures.0
    c.place-row.ensures.0 (sym c.is_wrapped.ensures ∙ c.if-is_wrapped.false)

pub loop-row-preserved : goal.loop-row-preserved
loop-row-preserved c =
    rw c.add-sum.ensures
    (passed _ _ _ _ _ _ c.requires c.loop-row.invariant c.loop-row-test.true _ c.own_width.result.0
    refl (eqb-false _ 10 (sym c.if-has_kind.ensures)) c.own_width.ensures.0 c.own_width.ensures.1)

pub returns : goal.returns
returns c = (
  ended _ _ _ _ _ _ _ c.requires c.loop-row.invariant c.loop-row-test.false (omega (arith, c.if-room-sum-2.false)),
  omega (arith, c.if-room-sum-2.false),
)
