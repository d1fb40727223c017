-- The invariant: whatever finishes the loop from here finishes it from its start. The measure: the comments that are left.
-- Assumes nothing.
use mathlib.Core.Path.{◌≡◌}
use Prim.Native.Nat.{◌-◌}
use Rattle.comments.proofs.Pops.{Going}
use Rattle.comments.specs.Parsed.{given_by}
use Rattle.image.specs.Bytes.{be16}
use Rattle.comments.proofs.pop_comments.Given as goal

abbrev pub invariant-loop-comment : goal.invariant-loop-comment
invariant-loop-comment l =
    let start = l.initial.state in
    (l.state.store.ghost_name ≡ start.store.ghost_name)
    × Going (given_by l.parsed) l.position l.leading start.store.now start.cursor l.keep l.state.store.now l.state.cursor

abbrev pub decreases-loop-comment : goal.decreases-loop-comment
decreases-loop-comment l = be16 l.parsed.image.now 5 - l.state.cursor.placed
