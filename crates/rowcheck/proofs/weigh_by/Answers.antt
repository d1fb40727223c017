use mathlib.Core.Path.{sym, ap, ◌∙◌}
use Rattle.renderer_rules.specs.Check.{or_later, wrong_place_by}
use Rattle.renderer_rules.proofs.ByRule.{supplied_same}
use Rattle.rowcheck.specs.Needs.{wrong_in}
use Rattle.rowcheck.proofs.Seeking.{there_by, right_by, passes_by}
use Rattle.rowcheck.proofs.weigh_by.Goals as goal

pub returns-then-rule-eq-SUPPLIED : goal.returns-then-rule-eq-SUPPLIED
returns-then-rule-eq-SUPPLIED c =
    let a = c.args in
    let w = c.weigh_to-weighed.ensures in
    let same =
    ap (λ r. wrong_place_by r a.rows.source.now a.rows.image.now a.rows.store.now a.from a.stop) c.if-rule-eq-SUPPLIED.true
    ∙ supplied_same a.rows.source.now a.rows.image.now a.rows.store.now a.from a.stop
    in
    record { row = w.row ∙ sym same; needs = w.needs }

pub first_torn-requires-clause-inside : goal.first_torn-requires-clause-inside
first_torn-requires-clause-inside c =
    there_by c.args.rows.source.now c.args.rows.image.now c.args.rows.store.now c.args.from c.args.stop _ _ c.weigh_to-weighed.ensures.row
    c.weighed_to.ensures

pub first_torn-requires-clause-fitting : goal.first_torn-requires-clause-fitting
first_torn-requires-clause-fitting c =
    right_by c.args.rows.source.now c.args.rows.image.now c.args.rows.store.now c.args.from c.args.stop _ _ c.weigh_to-weighed.ensures.row
    c.weighed_to.ensures

pub returns-in-Some : goal.returns-in-Some
returns-in-Some c =
    let by =
    passes_by c.args.rule c.args.rows.source.now c.args.rows.image.now c.args.rows.store.now c.args.from c.args.stop c.if-rule-eq-SUPPLIED.false
    _ _ _ c.weigh_to-weighed.ensures.row c.weighed_to.ensures c.first_torn.ensures
    in
    record { row = sym (ap (λ o. or_later o (wrong_in c.weigh_to-weighed.result)) c.in-Some.is) ∙ by; needs = λ n e. absurd (cc) }

pub returns-in-None : goal.returns-in-None
returns-in-None c =
    let w = c.weigh_to-weighed.ensures in
    let by =
    passes_by c.args.rule c.args.rows.source.now c.args.rows.image.now c.args.rows.store.now c.args.from c.args.stop c.if-rule-eq-SUPPLIED.false
    _ _ _ w.row c.weighed_to.ensures c.first_torn.ensures
    in
    record { row = sym (ap (λ o. or_later o (wrong_in c.weigh_to-weighed.result)) c.in-None.is) ∙ by; needs = w.needs }
