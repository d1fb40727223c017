use mathlib.Core.Path.{◌≡◌}
use lib.ListN.{length}
use Rattle.stored_answers.proofs.Listing.{Filling}
use Rattle.stored_answers.proofs.compare.fill.Given as goal

abbrev pub invariant-loop-i : goal.invariant-loop-i
invariant-loop-i g l =
    (l.answers.answers ≡ l.initial.answers.answers)
    × Filling (g.T.Stored.stored l.initial.answers.answers.now) g.T.Stored.width (length l.initial.b) l.initial.answers.place l.b l.i l.answers.place
