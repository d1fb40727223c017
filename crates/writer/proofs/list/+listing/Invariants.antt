-- A child begins behind its parent, so that the bytes behind it are fewer; the two functions take turns at one place.
-- Assumes nothing.
use mathlib.Core.Path.{◌≡◌}
use Prim.Native.Nat.{◌+◌, ◌-◌, ◌*◌}
use lib.ListN.{length}
use Rattle.writer.proofs.Listed.{Rows}
use Rattle.writer.proofs.list.+listing.Given as goal

abbrev pub decreases-list_tree : goal.decreases-list_tree
decreases-list_tree l = 2 * (length l.image.now - l.at)

abbrev pub decreases-list_trees : goal.decreases-list_trees
decreases-list_trees l = 2 * (length l.image.now - l.first) + 1

abbrev pub invariant-list_trees-loop-at : goal.invariant-list_trees-loop-at
invariant-list_trees-loop-at l = record {
  rows : Rows l.image l.first l.stop l.fn.out.pos l.fn.out.bytes.now l.at l.out.pos l.out.bytes.now;
  same : l.out.bytes.ghost_name ≡ l.fn.out.bytes.ghost_name;
}

abbrev pub decreases-list_trees-loop-at : goal.decreases-list_trees-loop-at
decreases-list_trees-loop-at l = l.stop - l.at
