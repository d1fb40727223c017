use mathlib.Core.Path.{refl}
use native.Mathlib.Omega.{arith}
use Rattle.acts.proofs.Laws.{laid_skip}
use Rattle.layout_call.proofs.Standing.{stands, has_shebang, shebang_laid}
use Rattle.layout_call.proofs.steps.begin.Goals as goal

pub returns-then-begun : goal.returns-then-begun
returns-then-begun c = rw c.if-begun.true (record { laid = laid_skip; same = refl })

pub overflow_add-file : goal.overflow_add-file
overflow_add-file c =
    omega (arith, (stands c.args.file.accepts).small, (stands c.args.file.accepts).tree.end)

pub shebang-requires : goal.shebang-requires
shebang-requires c = has_shebang c.args.file.accepts (rw c.if-begun.false at c.requires)

pub returns : goal.returns
returns c = rw c.if-begun.false (shebang_laid c.args.file.accepts c.shebang.ensures (rw c.if-begun.false at c.requires))
