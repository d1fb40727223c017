use native.Mathlib.Omega.{arith}
use Rattle.layout_call.proofs.Standing.{few_comments, source_short}
use Rattle.layout_call.proofs.call.Call.cursor.Goals as goal

pub overflow_cast-result-3 : goal.overflow_cast-result-3
overflow_cast-result-3 c = omega (arith, c.args.self.now.goes.position, source_short c.args.self.now.file.accepts)

pub overflow_cast-result-4 : goal.overflow_cast-result-4
overflow_cast-result-4 c = omega (arith, c.args.self.now.goes.placed, few_comments c.args.self.now.file.accepts)
