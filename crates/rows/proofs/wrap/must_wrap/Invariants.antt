use Prim.Native.Nat.{◌-◌}
use Rattle.rows.proofs.MustWrap.{MustAt}
use Rattle.rows.proofs.wrap.must_wrap.Given as goal

abbrev pub invariant-loop-row : goal.invariant-loop-row
invariant-loop-row l = MustAt l.store l.from l.to l.row

abbrev pub decreases-loop-row : goal.decreases-loop-row
decreases-loop-row l = l.to - l.row
