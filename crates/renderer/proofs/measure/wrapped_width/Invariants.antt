-- The loop keeps `Open`; a part is entered or left, and then summed up to the next `IfWrap` that has wrapped, its end, or past the room.
-- Assumes nothing.
use mathlib.Core.List.{reverse}
use Prim.Native.Nat.{◌-◌, ◌≤◌, ◌<◌}
use Rattle.renderer.specs.Measure.{IsWrapped}
use Rattle.renderer.proofs.Sums.{Open}
use Rattle.renderer.proofs.measure.wrapped_width.Given as goal

abbrev pub invariant-loop-row : goal.invariant-loop-row
invariant-loop-row l =
    Open l.store l.marks l.from l.to (reverse l.ends.items) l.row l.end l.sum.0 × (l.row < l.end → IsWrapped l.store l.marks l.row) × (l.sum.0 ≤ l.room.0)

abbrev pub decreases-loop-row : goal.decreases-loop-row
decreases-loop-row l = l.to - l.row
