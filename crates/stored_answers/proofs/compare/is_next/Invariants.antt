use mathlib.Core.Path.{◌≡◌}
use Rattle.stored_answers.proofs.Listing.{Agreeing}
use Rattle.stored_answers.proofs.compare.is_next.Given as goal

abbrev pub invariant-loop-x : goal.invariant-loop-x
invariant-loop-x g l =
    (l.rest.answers ≡ l.answers.answers)
    × Agreeing g.T.PartialEq.eq (g.T.Stored.stored l.answers.answers.now) g.T.Stored.width l.b l.answers.place l.x-index l.rest.place
