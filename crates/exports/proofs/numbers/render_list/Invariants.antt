-- The rows so far are listed.
use Rattle.exports.proofs.Listed.{Filling}
use Rattle.exports.proofs.numbers.render_list.Given as goal

abbrev pub invariant-loop-place : goal.invariant-loop-place
invariant-loop-place l = Filling l.from l.listed l.count l.place
