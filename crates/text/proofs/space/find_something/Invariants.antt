-- The loop's invariant, `Seeking`: the answer is what a search from `here` on gives. A character passed is one step of `seek`.
use Prim.Native.Nat.{◌-◌}
use lib.ListN.{length}
use Rattle.text.proofs.Walks.{Seeking}
use Rattle.text.proofs.space.find_something.Given as goal

abbrev pub invariant-loop-c : goal.invariant-loop-c
invariant-loop-c l = Seeking l.s l.at l.here

abbrev pub decreases-loop-c : goal.decreases-loop-c
decreases-loop-c l = length l.s - l.here
