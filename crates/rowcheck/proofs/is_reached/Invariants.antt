use Prim.Native.Nat.{◌-◌}
use Rattle.rowcheck.proofs.Laws.{Reaching}
use Rattle.rowcheck.proofs.is_reached.Given as goal

abbrev pub invariant-loop-row : goal.invariant-loop-row
invariant-loop-row l = Reaching l.store l.a l.b l.steps l.row

abbrev pub decreases-loop-row : goal.decreases-loop-row
decreases-loop-row l = l.b - l.row
