use mathlib.Core.Logic.{inl, inr}
use mathlib.Core.Path.{refl, sym}
use borrow.Author.Tests.{eqb-true, eqb-false}
use Rattle.rows.proofs.MustWrap.{must_done, must_found, must_in, must_over, must_less}
use Rattle.rows.proofs.wrap.must_wrap.Goals as goal
use Rattle.rows.proofs.wrap.must_wrap.Goals.{then-has_kind-via-then-has_kind, then-has_kind-via-else-has_kind+then-has_kind-2}

pub returns-then-has_kind : goal.returns-then-has_kind
returns-then-has_kind c =
    must_found _ _ _ _ c.loop-row.invariant _ c.loop-row-test.true refl
    (elim c.then-has_kind.branch [
      | then-has_kind-via-then-has_kind w ↦ inl (eqb-true _ 3 (sym w.if-has_kind.ensures))
      | then-has_kind-via-else-has_kind+then-has_kind-2 w ↦ inr (eqb-true _ 4 (sym w.if-has_kind-2.ensures))
    ])

pub loop-row-preserved-then-has_kind-3 : goal.loop-row-preserved-then-has_kind-3
loop-row-preserved-then-has_kind-3 c =
    must_in _ _ _ _ c.loop-row.invariant _ c.loop-row-test.true refl (eqb-true _ 1 (sym c.if-has_kind-3.ensures))

pub loop-row-smaller : goal.loop-row-smaller
loop-row-smaller c = must_less _ _ _ _ c.loop-row.invariant _ c.loop-row-test.true refl _ c.place-row.ensures.0

pub loop-row-preserved : goal.loop-row-preserved
loop-row-preserved c =
    must_over _ _ _ _ c.loop-row.invariant _ c.loop-row-test.true refl _ c.place-row.ensures.0
    (eqb-false _ 1 (sym c.if-has_kind-3.ensures))
    (eqb-false _ 3 (sym c.if-has_kind.ensures))
    (eqb-false _ 4 (sym c.if-has_kind-2.ensures))

pub returns : goal.returns
returns c = must_done _ _ _ _ c.loop-row.invariant c.loop-row-test.false
