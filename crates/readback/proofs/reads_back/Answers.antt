-- The reader refuses first; then the walk.
use mathlib.Core.Path.{sym, ap, ◌∙◌}
use native.Mathlib.Omega.{arith}
use Rattle.refusals.specs.Reasons.{answer_of}
use Rattle.image.specs.declared.Document.{Document}
use Rattle.readback.proofs.Answered.{tree_at, answer_differs, answer_same}
use Rattle.readback.proofs.reads_back.Goals as goal

pub first_broken-first-requires : goal.first_broken-first-requires
first_broken-first-requires c =
    let checked = ap (answer_of (λ (d : Document). d)) (sym c.in_ok-doc.was) ∙ c.check.ensures in
    tree_at c.args.source.now c.args.image.now _ checked

pub returns-then-first-image : goal.returns-then-first-image
returns-then-first-image c =
    let checked = ap (answer_of (λ (d : Document). d)) (sym c.in_ok-doc.was) ∙ c.check.ensures in
    answer_differs c.args.source.now c.args.image.now _ checked _ c.first_broken-first.ensures c.if-first-image.true

pub returns : goal.returns
returns c =
    let checked = ap (answer_of (λ (d : Document). d)) (sym c.in_ok-doc.was) ∙ c.check.ensures in
    answer_same c.args.source.now c.args.image.now _ checked _ c.first_broken-first.ensures (omega (arith, c.if-first-image.false))
