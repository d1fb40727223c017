-- Where no edition is asked what is supplied, else the sum by the edition.
use Rattle.std.proofs.Common.{◌≡◌, sym, ap, ◌∙◌}
use Rattle.std.specs.Prelude.{false, None, Some}
use Rattle.refusals.specs.Answers.{answer_by}
use Rattle.refusals.specs.Reasons.{refusal_in}
use Rattle.cut_rule.specs.Parts.{rule_line}
use Rattle.widths.specs.Rules.{edition_of, columns_by}
use Rattle.widths.proofs.ByRule.{by_edition, by_none}
use Rattle.choices.proofs.text_columns.Goals as goal

pub returns-in_default : goal.returns-in_default
returns-in_default c =
    let rule = c.args.rule in
    let ruled : rule_line false rule ≡ None = sym c.rule_chosen.ensures ∙ ap refusal_in c.in_ok-rule_chosen.was in
    let none : edition_of rule ≡ None = sym c.of.ensures ∙ c.in_default.is in
    let told = by_none rule c.args.supplied c.args.text.now none in
    sym (λ i. answer_by (ruled i) (told i))

pub returns : goal.returns
returns c =
    let rule = c.args.rule in
    let ruled : rule_line false rule ≡ None = sym c.rule_chosen.ensures ∙ ap refusal_in c.in_ok-rule_chosen.was in
    let some : edition_of rule ≡ Some c.in-Some.edition = sym c.of.ensures ∙ c.in-Some.is in
    let told = by_edition rule c.args.supplied c.args.text.now c.in-Some.edition some ∙ sym c.text_columns.ensures.0 in
    sym (λ i. answer_by (ruled i) (told i))
