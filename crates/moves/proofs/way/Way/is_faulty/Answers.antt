-- The stored width against the one due.
use mathlib.Core.Path.{ap₂}
use mathlib.Core.Bool.{not}
use Prim.Native.Nat.{ℕ}
use lib.Dec.{eqb}
use Rattle.moves.proofs.Payloads.{part_drop, part_width}
use Rattle.moves.proofs.way.Way.is_faulty.Goals as goal

pub returns-in-Forward : goal.returns-in-Forward
returns-in-Forward c =
    let w = rw c.in-Forward.is at c.requires.0 in
    rw (c.in-Forward.is, part_width c.args.image.now c.args.from c.args.to w, part_drop c.args.image.now c.args.from c.args.to w)
    (ap₂ (λ (x y : ℕ). not (eqb x y)) c.num16.ensures.same c.due_width.ensures.0)
