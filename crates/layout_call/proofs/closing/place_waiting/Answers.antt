use native.Mathlib.Omega.{arith}
use Rattle.layout_call.proofs.Standing.{source_short}
use Rattle.layout_call.proofs.closing.place_waiting.Goals as goal

pub overflow_cast-file : goal.overflow_cast-file
overflow_cast-file c = omega (arith, source_short c.args.file.accepts)

pub pop_whitespace-requires : goal.pop_whitespace-requires
pop_whitespace-requires c = rw c.has_declarations.ensures c.requires

pub returns : goal.returns
returns c =
    let e = rw c.has_declarations.ensures at c.pop_whitespace.ensures in
    record { laid = e.laid.laid; same = e.same }
