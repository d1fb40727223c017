-- The loop keeps that the whole list is read as the comments that are left are.
-- Assumes nothing.
use mathlib.Core.Path.{◌≡◌}
use Prim.Native.Nat.{◌+◌, ◌-◌, ◌*◌}
use Rattle.image.specs.Read.{comments_from}
use Rattle.image.proofs.comments.comments_from.Given as goal

abbrev pub invariant-loop-i : goal.invariant-loop-i
invariant-loop-i l =
    comments_from l.ordered l.source l.image l.count 0 7 ≡ comments_from l.ordered l.source l.image (l.count - l.i) l.least (7 + 8 * l.i)
