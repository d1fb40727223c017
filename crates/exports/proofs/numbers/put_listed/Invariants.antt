-- The rows so far are put.
use Rattle.exports.proofs.Listed.{Putting}
use Rattle.exports.proofs.numbers.put_listed.Given as goal

abbrev pub invariant-loop-place : goal.invariant-loop-place
invariant-loop-place l = Putting l.initial.out l.out l.listed l.count l.place
