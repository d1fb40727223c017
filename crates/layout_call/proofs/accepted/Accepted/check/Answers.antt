use mathlib.Core.Path.{sym, ap, ◌∙◌}
use Rattle.image.specs.declared.Document.{Document}
use Rattle.refusals.specs.Reasons.{answer_of}
use Rattle.image.proofs.Earlier.{accepts_by}
use Rattle.comments.proofs.Accepted.{accepted_listed}
use Rattle.layout_call.proofs.accepted.Accepted.check.Goals as goal

pub invariant_of-parsed : goal.invariant_of-parsed
invariant_of-parsed c =
    record {
      listed =
          accepted_listed c.args.source.now c.args.image.now c.in_ok-doc.doc
          (accepts_by c.args.archive _ _ _ (sym c.check_by.ensures ∙ ap (answer_of (λ (d : Document). d)) c.in_ok-doc.was));
    }

pub invariant_of-result : goal.invariant_of-result
invariant_of-result c =
    record { accepts = accepts_by c.args.archive _ _ _ (sym c.check_by.ensures ∙ ap (answer_of (λ (d : Document). d)) c.in_ok-doc.was) }
