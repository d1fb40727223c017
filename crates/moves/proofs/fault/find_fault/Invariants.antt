-- What is ahead has the first fault of the tree.
use Prim.Native.Nat.{◌-◌}
use lib.ListN.{length}
use Rattle.moves.proofs.Seeks.{Seeking}
use Rattle.moves.proofs.fault.find_fault.Given as goal

abbrev pub invariant-loop-at : goal.invariant-loop-at
invariant-loop-at l = Seeking l.way l.image l.tree l.shebang l.at

abbrev pub decreases-loop-at : goal.decreases-loop-at
decreases-loop-at l = length l.image - l.at
