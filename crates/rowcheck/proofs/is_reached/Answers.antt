use Rattle.rowcheck.proofs.Laws.{reach_end, reach_back, reach_over, reach_on}
use mathlib.Core.Logic.{inl, inr}
use Rattle.rowcheck.proofs.is_reached.Goals as goal

pub returns-then-next-row : goal.returns-then-next-row
returns-then-next-row c =
    elim c.then-next-row.either [
      | inl low ↦ reach_back _ _ _ _ _ c.loop-row.invariant _ c.loop-row-test.true c.place-next.ensures.0 low
      | inr past ↦ reach_over _ _ _ _ _ c.loop-row.invariant _ c.loop-row-test.true c.place-next.ensures.0 past.0 past.1
    ]

pub loop-row-preserved : goal.loop-row-preserved
loop-row-preserved c =
    reach_on _ _ _ _ _ c.loop-row.invariant _ c.loop-row-test.true c.place-next.ensures.0 c.if-next-row.false c.if-b-next.false

pub returns : goal.returns
returns c = reach_end _ _ _ _ _ c.loop-row.invariant c.loop-row-test.false
