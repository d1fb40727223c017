use Rattle.render_call.specs.Calls.{to_state}
use Rattle.render_call.proofs.Resumes.{resuming, lies}
use Rattle.render_call.proofs.Held.{went_on}
use Rattle.render_call.proofs.call.Call.go_on.Goals as goal

pub run_by_rule-requires-clause-resuming : goal.run_by_rule-requires-clause-resuming
run_by_rule-requires-clause-resuming c =
    let m = c.requires.made in
    resuming _ _ (to_state c.args.self.now.state c.args.listed.now) c.args.self.now.args c.args.store.now c.requires.runnable _ m.depth m.items m.next m.pen
    m.nothing

pub run_by_rule-requires-clause-lies : goal.run_by_rule-requires-clause-lies
run_by_rule-requires-clause-lies c =
    let m = c.requires.made in
    rw c.reads_from.ensures
    (lies _ _ (to_state c.args.self.now.state c.args.listed.now) c.args.self.now.args c.args.store.now c.requires.runnable _ m.depth m.items m.next m.pen
    m.nothing)

pub returns : goal.returns
returns c =
    went_on c.args.self.now.source.now c.args.self.now.image.now (to_state c.args.self.now.state c.args.listed.now) c.args.self.now.args c.args.store.now _ _ _
    c.requires.made _ c.run_by_rule.ensures.same c.run_by_rule.ensures.halted
