use Prim.Native.Nat.{◌-◌, ◌≤◌}
use lib.ListN.{length}
use Rattle.stored_answers.proofs.report.replay.Given as goal

abbrev pub invariant-loop-reader : goal.invariant-loop-reader
invariant-loop-reader g l =
    goal.F-IsAlwaysCallable g l.case
    × (l.cases ≤ l.reader.place)
    × (l.cases ≤ length l.answers)
    × (l.differ ≤ l.cases)
    × (l.cases ≤ 0 → l.reader.place ≤ 0)

abbrev pub decreases-loop-reader : goal.decreases-loop-reader
decreases-loop-reader g l = length l.answers - l.reader.place
