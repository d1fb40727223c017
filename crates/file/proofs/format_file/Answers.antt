-- 20, then 1 to 7, and then the run of the accepted file.
use Rattle.std.proofs.Common.{◌≡◌, false, sym, ap, ◌∙◌}
use Rattle.std.specs.Prelude.{None}
use Rattle.std.proofs.lemmas.Result.{err_from_is_err_and, IfOk-at_ok}
use Rattle.refusals.specs.Reasons.{answer_of, refusal_in}
use Rattle.cut_rule.specs.Parts.{rule_line}
use Rattle.whole_run.specs.Parts.{other_rule}
use Rattle.layout_call.specs.Steps.{Reads}
use Rattle.layout_call.specs.declared.accepted.Accepted.{Accepted}
use Rattle.file.specs.Whole.{to_choice}
use Rattle.file.proofs.Steps.{stops_first, check_refused}
use Rattle.file.proofs.format_file.Goals as goal

pub returns-in_err-file : goal.returns-in_err-file
returns-in_err-file c =
    let p = err_from_is_err_and c.from_residual-in_err-file.result c.from_residual-in_err-file.ensures.1 in
    let rule = c.args.choice.rule in
    let ruled : rule_line (other_rule c.args.image.now rule) rule ≡ None = sym c.rule_chosen.ensures ∙ ap refusal_in c.in_ok-rule_chosen.was in
    let unread = sym c.check.ensures.answer ∙ ap (answer_of (λ (a : Accepted). a.doc)) c.in_err-file.was in
    rw (p.1, p.2) (stops_first _ _ _ _ _ (check_refused _ _ (to_choice c.args.choice) ruled _ unread))

pub format_accepted-requires-clause-read : goal.format_accepted-requires-clause-read
format_accepted-requires-clause-read c =
    IfOk-at_ok (λ (a : Accepted). Reads a.parsed.source.now a.parsed.image.now false) c.in_ok-file.was c.check.ensures.read

pub returns : goal.returns
returns c =
    let same = IfOk-at_ok (λ (a : Accepted). (a.parsed.source.now ≡ c.args.source.now) × (a.parsed.image.now ≡ c.args.image.now))
    c.in_ok-file.was c.check.ensures.same in
    rw (same.0, same.1) at c.format_accepted.ensures
