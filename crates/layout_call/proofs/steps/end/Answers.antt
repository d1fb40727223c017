use mathlib.Core.Path.{refl}
use Rattle.acts.proofs.Laws.{laid_skip}
use Rattle.layout_call.proofs.steps.end.Goals as goal

pub returns-else-args : goal.returns-else-args
returns-else-args c = rw c.if-args.false (record { laid = laid_skip; same = refl })
