use mathlib.Core.Path.{sym, ◌∙◌}
use native.Mathlib.Omega.{arith}
use Rattle.text.proofs.Characters.{bytes_of, bytes_none}
use Rattle.text.proofs.Runs.{next_stride, stride_fits, stride_none, stop, none_past, checked_bad, checked_good}
use Rattle.text.proofs.utf8.check.Goals as goal

pub returns-in_default : goal.returns-in_default
returns-in_default c =
    let none = stride_none _ _ (bytes_none _ (sym c.stride.ensures ∙ c.in_default.is)) in
    rw c.at.ensures (checked_bad _ _ (stop _ _ none c.loop-at.invariant.1) c.loop-at-test.true)

pub loop-at-preserved : goal.loop-at-preserved
loop-at-preserved c =
    let bytes = bytes_of _ _ (sym c.stride.ensures ∙ c.in-Some.is) in (
      omega (arith, stride_fits c.args.s.now c.loop-at.at c.loop-at.invariant.0),
      next_stride _ _ _ c.loop-at-test.true bytes.0 (omega arith) c.loop-at.invariant.1,
    )

pub returns : goal.returns
returns c = checked_good _ (stop _ _ (none_past _ _ c.loop-at-test.false) c.loop-at.invariant.1 ∙ omega arith)
