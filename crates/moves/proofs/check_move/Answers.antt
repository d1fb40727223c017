-- The reader refuses first, then the first fault.
use mathlib.Core.Path.{sym, ap, ◌∙◌}
use Rattle.refusals.specs.Reasons.{answer_of}
use Rattle.image.specs.declared.Document.{Document}
use Rattle.moves.proofs.Entries.{tree_at, check_found, check_whole}
use Rattle.moves.proofs.check_move.Goals as goal

pub find_fault-requires : goal.find_fault-requires
find_fault-requires c =
    let checked = ap (answer_of (λ (d : Document). d)) (sym c.in_ok-doc.was) ∙ (rw c.version_from.ensures at c.check_version.ensures) in
    tree_at c.args.way c.args.source.now c.args.image.now _ checked

pub returns-in-Some : goal.returns-in-Some
returns-in-Some c =
    let checked = ap (answer_of (λ (d : Document). d)) (sym c.in_ok-doc.was) ∙ (rw c.version_from.ensures at c.check_version.ensures) in
    rw c.at.ensures
    (check_found c.args.way c.args.source.now c.args.image.now _ checked _ (rw c.in-Some.is at c.find_fault.ensures))

pub returns-in-None : goal.returns-in-None
returns-in-None c =
    let checked = ap (answer_of (λ (d : Document). d)) (sym c.in_ok-doc.was) ∙ (rw c.version_from.ensures at c.check_version.ensures) in
    check_whole c.args.way c.args.source.now c.args.image.now _ checked (rw c.in-None.is at c.find_fault.ensures)
