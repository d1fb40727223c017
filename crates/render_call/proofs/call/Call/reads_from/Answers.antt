use mathlib.Core.Path.{sym, ap}
use native.Mathlib.Omega.{arith}
use Rattle.renderer_rules.specs.Listed.{reads_from}
use Rattle.render_call.proofs.Opening.{listed_none, first_read}
use Rattle.render_call.proofs.call.Call.reads_from.Goals as goal

pub returns-then-self-eq0 : goal.returns-then-self-eq0
returns-then-self-eq0 c =
    sym (ap (λ l. reads_from l c.args.self.now.state.row) (listed_none c.args.listed.now c.args.self.now.state.listed_rows c.if-self-eq0.true))

pub returns : goal.returns
returns c =
    first_read c.args.listed.now c.args.self.now.state.listed_rows c.args.self.now.state.row _ _ (omega (arith, c.if-self-eq0.false)) (omega arith)
    c.listed_row.ensures c.min.ensures
