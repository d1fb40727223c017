-- Behind an absent child, or at the first child.
use mathlib.Core.Path.{◌≡◌, sym, ap, ◌∙◌}
use native.Mathlib.Omega.{arith}
use Rattle.readback.specs.Operands.{broken, first_of}
use Rattle.readback.proofs.Least.{with_first}
use Rattle.readback.proofs.Ahead.{walk_first, walk_last, place, walk_gap, whole, operands, walk_on, goes_on}
use Rattle.readback.proofs.walk.first_broken.Goals as goal
use Rattle.readback.proofs.walk.first_broken.Goals.{in-Some, in_default}

pub loop-at-init : goal.loop-at-init
loop-at-init c = walk_first c.args.image.now c.args.tree

pub num32-n-requires : goal.num32-n-requires
num32-n-requires c =
    let p = place _ _ _ _ c.loop-at.invariant c.requires c.loop-at-test.true in
    omega (arith, p.0, p.1)

pub loop-at-preserved-then-n-eq0 : goal.loop-at-preserved-then-n-eq0
loop-at-preserved-then-n-eq0 c =
    walk_gap _ _ _ _ c.loop-at.invariant c.requires c.loop-at-test.true (sym c.num32-n.ensures.same ∙ c.if-n-eq0.true)

pub broken_operand-requires : goal.broken_operand-requires
broken_operand-requires c = operands _ _ _ _ c.loop-at.invariant c.requires c.loop-at-test.true _ c.num32-n.ensures.same c.if-n-eq0.false

pub payload_end-at-requires : goal.payload_end-at-requires
payload_end-at-requires c = whole _ _ _ _ c.loop-at.invariant c.requires c.loop-at-test.true _ c.num32-n.ensures.same c.if-n-eq0.false

best_is : (c : goal.After-payload_end-at) → c.match-broken_operand.best ≡ with_first c.loop-at.best (first_of (broken c.args.image.now c.loop-at.at))
best_is c = elim c.match-broken_operand.branch [
  | in-Some w ↦ w.best-is ∙ w.min-best.ensures ∙ ap (with_first c.loop-at.best) (sym w.in-Some.is ∙ c.broken_operand.ensures)
  | in_default w ↦ w.best-is ∙ ap (with_first c.loop-at.best) (sym w.in_default.is ∙ c.broken_operand.ensures)
]

pub loop-at-smaller : goal.loop-at-smaller
loop-at-smaller c =
    goes_on _ _ _ _ c.loop-at.invariant c.requires c.loop-at-test.true _ c.num32-n.ensures.same c.if-n-eq0.false _ _ (best_is c)
    c.payload_end-at.ensures

pub loop-at-preserved : goal.loop-at-preserved
loop-at-preserved c =
    walk_on _ _ _ _ c.loop-at.invariant c.requires c.loop-at-test.true _ c.num32-n.ensures.same c.if-n-eq0.false _ _ (best_is c)
    c.payload_end-at.ensures

pub returns : goal.returns
returns c = walk_last _ _ _ _ c.loop-at.invariant (omega (arith, c.loop-at-test.false))
