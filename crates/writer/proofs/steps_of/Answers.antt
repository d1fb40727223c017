-- The reader refuses first; then the steps are counted, over an output of one byte, and put.
use mathlib.Core.Path.{sym, ap, ◌∙◌}
use Rattle.refusals.specs.Reasons.{answer_of}
use Rattle.refusals.proofs.Passed.{passed}
use Rattle.image.specs.declared.Document.{Document}
use Rattle.writer.proofs.Listed.{image_there, lists_refused, lists_long, lists_whole}
use Rattle.writer.proofs.steps_of.Goals as goal

pub returns-in_err-doc : goal.returns-in_err-doc
returns-in_err-doc c =
    let checked = ap (answer_of (λ (d : Document). d)) (sym c.in_err-doc.was) ∙ c.check_version.ensures in
    rw (passed _ _ _ c.from_residual.ensures.1)
    (lists_refused c.args.source.now c.args.image.now c.args.out.now _ checked)

pub list_image-bytes-requires : goal.list_image-bytes-requires
list_image-bytes-requires c =
    let checked = ap (answer_of (λ (d : Document). d)) (sym c.in_ok-doc.was) ∙ c.check_version.ensures in
    image_there c.args.source.now c.args.image.now _ checked

pub returns-then-out-bytes : goal.returns-then-out-bytes
returns-then-out-bytes c =
    let checked = ap (answer_of (λ (d : Document). d)) (sym c.in_ok-doc.was) ∙ c.check_version.ensures in
    rw c.at.ensures (lists_long c.args.source.now c.args.image.now c.args.out.now _ checked _ _ _ c.list_image-bytes.ensures
    c.if-out-bytes.true)

pub list_image-requires : goal.list_image-requires
list_image-requires c =
    let checked = ap (answer_of (λ (d : Document). d)) (sym c.in_ok-doc.was) ∙ c.check_version.ensures in
    image_there c.args.source.now c.args.image.now _ checked

pub returns : goal.returns
returns c =
    let checked = ap (answer_of (λ (d : Document). d)) (sym c.in_ok-doc.was) ∙ c.check_version.ensures in
    lists_whole c.args.source.now c.args.image.now c.args.out.now _ checked _ _ _ c.list_image-bytes.ensures _ _ c.if-out-bytes.false
    c.list_image.ensures
