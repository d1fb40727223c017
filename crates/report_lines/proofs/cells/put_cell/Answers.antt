use Rattle.std.proofs.Common.{◌-◌, ap, ◌∙◌, ◌++◌, List, ℕ, length, arith}
use Rattle.report_lines.proofs.Parts.{whole_cell}
use Rattle.report_lines.proofs.cells.put_cell.Goals as goal

pub returns-clause-bytes : goal.returns-clause-bytes
returns-clause-bytes c =
    c.push_str.ensures.bytes
    ∙ ap (λ (l : List ℕ). l ++ c.args.text.now) c.loop.invariant.0
    ∙ whole_cell c.args.line.now.bytes c.args.text.now (c.loop.counter - length c.args.text.now) (omega arith)
