-- A child begins behind its parent, so that the bytes behind it are fewer; the two functions take turns at one place.
-- Assumes nothing.
use mathlib.Core.Path.{◌≡◌}
use Prim.Native.Nat.{◌+◌, ◌-◌, ◌*◌}
use lib.ListN.{length}
use Rattle.moves.proofs.Rows.{Rows}
use Rattle.moves.proofs.records.+moving.Given as goal

abbrev pub decreases-put_tree : goal.decreases-put_tree
decreases-put_tree l = 2 * (length l.image.now - l.at)

abbrev pub decreases-put_trees : goal.decreases-put_trees
decreases-put_trees l = 2 * (length l.image.now - l.first) + 1

abbrev pub invariant-put_trees-loop-at : goal.invariant-put_trees-loop-at
invariant-put_trees-loop-at l = record {
  rows : Rows l.way l.shebang l.image l.first l.stop l.fn.out.pos l.fn.out.bytes.now l.leads l.at l.out.pos l.out.bytes.now;
  same : l.out.bytes.ghost_name ≡ l.fn.out.bytes.ghost_name;
}

abbrev pub decreases-put_trees-loop-at : goal.decreases-put_trees-loop-at
decreases-put_trees-loop-at l = l.stop - l.at
