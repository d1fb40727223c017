-- The loop's invariant, `Left`: the text is what is left of the range, and the answer is what trimming from its end on gives. A white space
-- before the end is one step of `trim`.
use lib.ListN.{length}
use Rattle.text.proofs.Walks.{Left}
use Rattle.text.proofs.space.trim_end.Given as goal

abbrev pub invariant-loop-last : goal.invariant-loop-last
invariant-loop-last l = Left l.s l.from l.to l.text

abbrev pub decreases-loop-last : goal.decreases-loop-last
decreases-loop-last l = length l.text
