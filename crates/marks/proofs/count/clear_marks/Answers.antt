use native.Mathlib.Omega.{arith}
use Rattle.marks.proofs.Aside.{cleared_part, cleared_none}
use Rattle.marks.proofs.count.clear_marks.Goals as goal

pub returns-then-from-to : goal.returns-then-from-to
returns-then-from-to c =
    cleared_part _ _ _ _ c.if-from-to.true c.requires (c.fill.ensures.after (λ y h. h))

pub returns-else-from-to : goal.returns-else-from-to
returns-else-from-to c = cleared_none _ _ _ (omega arith)
