-- 20, then 1 to 7, and then the accepted file.
use Rattle.std.proofs.Common.{◌≡◌, false, sym, ap, ◌∙◌}
use Rattle.std.proofs.lemmas.Result.{err_from_is_err_and, IfOk-at_ok}
use Rattle.refusals.specs.Reasons.{answer_of, refusal_in}
use Rattle.widths.specs.Rules.{SUPPLIED}
use Rattle.layout_call.specs.Steps.{RuleFits, Reads}
use Rattle.layout_call.specs.declared.accepted.Accepted.{Accepted}
use Rattle.figures.proofs.Counting.{check_refused}
use Rattle.figures.proofs.count_file.Goals as goal

pub returns-in_err-check : goal.returns-in_err-check
returns-in_err-check c =
    let p = err_from_is_err_and c.from_residual-in_err-check.result c.from_residual-in_err-check.ensures.1 in
    let ruled : RuleFits c.args.source.now c.args.image.now SUPPLIED = sym c.rule_chosen.ensures ∙ ap refusal_in c.in_ok-rule_chosen.was in
    rw (p.1, p.2) (check_refused _ _ ruled c.args.t _ (sym c.check.ensures.answer ∙ ap (answer_of (λ (a : Accepted). a.doc)) c.in_err-check.was))

pub count_accepted-requires-clause-read : goal.count_accepted-requires-clause-read
count_accepted-requires-clause-read c =
    IfOk-at_ok (λ (a : Accepted). Reads a.parsed.source.now a.parsed.image.now false) c.in_ok-check.was c.check.ensures.read

pub returns : goal.returns
returns c =
    let same =
    IfOk-at_ok (λ (a : Accepted). (a.parsed.source.now ≡ c.args.source.now) × (a.parsed.image.now ≡ c.args.image.now))
    c.in_ok-check.was c.check.ensures.same
    in
    rw (same.0, same.1) at c.count_accepted.ensures
