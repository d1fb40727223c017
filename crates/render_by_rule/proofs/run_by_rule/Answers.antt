use mathlib.Core.Path.{sym, ◌∙◌}
use Rattle.row_widths.proofs.ByRule.{turns_by}
use Rattle.render_by_rule.proofs.Running.{resumes, halts, halts_supplied, restored}
use Rattle.render_by_rule.proofs.run_by_rule.Goals as goal

pub returns-in_default-clause-halted : goal.returns-in_default-clause-halted
returns-in_default-clause-halted c =
    halts_supplied c.args.quota.rule c.args.source.now c.args.image.now c.args.store.now c.args.quota.stop c.args.quota.allotment c.args.renderer.now
    c.render.new.self c.render.result (sym c.of.ensures ∙ c.in_default.is) c.render.ensures

pub render-entered-requires : goal.render-entered-requires
render-entered-requires c =
    resumes c.args.quota.rule c.args.source.now c.args.image.now c.args.store.now c.args.quota.from c.args.quota.stop c.args.renderer.now
    c.requires.resuming c.requires.lies c.turn_by.new.store
    (c.turn_by.ensures ∙ turns_by c.args.quota.rule c.in-Some.edition (sym c.of.ensures ∙ c.in-Some.is) c.args.source.now c.args.image.now _ _ _)

pub returns-clause-halted : goal.returns-clause-halted
returns-clause-halted c =
    halts c.args.quota.rule c.args.source.now c.args.image.now c.args.store.now c.args.quota.from c.args.quota.stop c.args.renderer.now
    c.requires.resuming c.requires.lies c.turn_by.new.store
    (c.turn_by.ensures ∙ turns_by c.args.quota.rule c.in-Some.edition (sym c.of.ensures ∙ c.in-Some.is) c.args.source.now c.args.image.now _ _ _)
    c.args.quota.allotment c.render-entered.new.self c.render-entered.result c.render-entered.ensures

pub returns-clause-same : goal.returns-clause-same
returns-clause-same c =
    restored c.args.quota.rule c.args.source.now c.args.image.now c.args.store.now c.args.quota.from c.args.quota.stop c.args.renderer.now
    c.requires.resuming c.requires.lies c.turn_by.new.store
    (c.turn_by.ensures ∙ turns_by c.args.quota.rule c.in-Some.edition (sym c.of.ensures ∙ c.in-Some.is) c.args.source.now c.args.image.now _ _ _)
    c.requires.unturned _ c.turn_back.ensures
