use native.Mathlib.Omega.{arith}
use mathlib.Core.Path.{refl}
use borrow.Author.Tests.{le-ltb}
use Rattle.layout_call.specs.ByCall.{rows_behind}
use Rattle.layout_call.proofs.Standing.{few_rows, stands}
use Rattle.layout_call.proofs.call.Call.rows_missing.Goals as goal

pub overflow_mul-most : goal.overflow_mul-most
overflow_mul-most c = omega (arith, (stands c.args.self.now.file.accepts).small)

pub returns-then-most-rows : goal.returns-then-most-rows
returns-then-most-rows c =
    let call = c.args.self.now in
    rw (le-ltb c.args.rows (rows_behind call) (omega (arith, few_rows call.file.accepts call.goes, c.if-most-rows.true))) refl
