use mathlib.Core.Path.{ap, ◌∙◌}
use Rattle.stored_answers.specs.declared.numbers.Reader.{Reader}
use Rattle.stored_answers.proofs.Listing.{filling_more}
use Rattle.stored_answers.proofs.compare.fill.Goals as goal

pub loop-i-preserved : goal.loop-i-preserved
loop-i-preserved g c = (
  ap (λ (r : Reader). r.answers) c.read.ensures.goes ∙ c.loop-i.invariant.0,
  filling_more _ _ _ _ _ _ _ _ _ c.loop-i.invariant.1 c.loop-i-test.true (rw c.loop-i.invariant.0 at c.read.ensures.value)
      (ap (λ (r : Reader). r.place) c.read.ensures.goes),
)
