use Rattle.std.proofs.Common.{ap, arith, length, ℕ}
use Rattle.report_lines.proofs.Parts.{none_yet, one_more}
use Rattle.report_lines.proofs.cells.put_figures.Goals as goal

pub loop-n-init : goal.loop-n-init
loop-n-init c = (none_yet _, omega arith)

pub loop-n-preserved : goal.loop-n-preserved
loop-n-preserved c = (
  one_more c.args.line.now.bytes c.in_order-n-items.result c.loop-n.n-index
      (omega (arith, ap (length {A = ℕ}) c.in_order-n-items.ensures, c.loop-n-test.true)) c.loop-n.invariant.0
      c.push_str.ensures.bytes c.put_number.ensures.bytes,
  omega arith,
)
