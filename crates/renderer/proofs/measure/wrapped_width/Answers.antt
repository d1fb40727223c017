use native.Mathlib.Omega.{arith}
use Prim.Native.Nat.{ℕ, ◌<◌}
use mathlib.Core.Path.{◌≡◌, subst, ap}
use mathlib.Core.List.{reverse, ◌++◌}
use Rattle.std.specs.Prelude.{Option}
use Rattle.std.specs.Option.{option_to_list}
use Rattle.rows.proofs.LastFirst.{one_on, some_on}
use Rattle.renderer.proofs.Sums.{Open, opened, low, all, part_nested, further, part_over, no_room, first_part, inner, leaves_at}
use Rattle.renderer.proofs.measure.wrapped_width.Goals.{Joined-row-end, then-row-end, else-row-end}
use Rattle.renderer.proofs.measure.wrapped_width.Goals as goal

-- where a part is opened or left, the sum goes on further down
moved : (c : Joined-row-end) → (c.loop-row.row < c.if-row-end.row)
    × Open c.args.store.now c.args.marks.now c.args.from c.args.to (reverse c.if-row-end.ends.items) c.if-row-end.row c.if-row-end.end c.loop-row.sum.0
moved c =
    elim c.if-row-end.branch [
      | then-row-end w ↦ rw (w.ends-is, one_on c.loop-row.ends.items _ w.push.ensures.items, w.row-is, w.end-is) (
        omega arith,
        first_part _ _ _ _ _ _ _ _ c.loop-row.invariant.0 w.place-end.result w.if-row-end.true
            (c.loop-row.invariant.1 w.if-row-end.true) w.place-end.ensures.0,
      )
      | else-row-end w ↦ rw (w.ends-is, w.row-is, w.end-is)
          (leaves_at _ _ _ _ _ _ _ _ w.place-row.result _ _ c.loop-row.invariant.0 w.if-row-end.false
          (one_on w.pop.new.self.items _
          (subst (λ (o : Option ℕ). c.loop-row.ends.items ≡ w.pop.new.self.items ++ option_to_list o) w.unwrap-end.ensures w.pop.ensures.items))
          w.place-row.ensures.0)
    ]

pub loop-row-init : goal.loop-row-init
loop-row-init c = (opened _ _ _ _ _ c.requires.0 (ap reverse c.new-ends.ensures), λ h. c.requires.1, omega arith)

pub until_wrapped-requires : goal.until_wrapped-requires
until_wrapped-requires c = part_nested _ _ _ _ _ _ _ _ (moved (goal.at.until_wrapped-requires c).Joined-row-end).1 c.requires.0

pub loop-row-smaller-in-Wrapped : goal.loop-row-smaller-in-Wrapped
loop-row-smaller-in-Wrapped c =
    let at = rw c.in-Wrapped.is at c.until_wrapped.ensures in
    omega (arith, (moved (goal.at.loop-row-smaller-in-Wrapped c).Joined-row-end).0, at.0.cap, c.loop-row-test.true)

pub loop-row-preserved-in-Wrapped : goal.loop-row-preserved-in-Wrapped
loop-row-preserved-in-Wrapped c =
    let at = rw c.in-Wrapped.is at c.until_wrapped.ensures in
    rw c.add-sum.ensures (
      further _ _ _ _ _ _ _ _ (moved (goal.at.loop-row-preserved-in-Wrapped c).Joined-row-end).1 _ _ at.0,
      λ h. at.1,
      omega (arith, at.3, c.loop-row.invariant.2),
    )

pub returns-in-Past : goal.returns-in-Past
returns-in-Past c =
    no_room _ _ _ _ _ _ _ _ (moved (goal.at.returns-in-Past c).Joined-row-end).1 _ _ c.loop-row.invariant.2
    (rw c.in-Past.is at c.until_wrapped.ensures) (omega arith)

pub loop-row-smaller : goal.loop-row-smaller
loop-row-smaller c =
    let w = rw c.in-Width.is at c.until_wrapped.ensures in
    omega (arith, (moved (goal.at.loop-row-smaller c).Joined-row-end).0, w.0.cap, c.loop-row-test.true)

pub loop-row-preserved : goal.loop-row-preserved
loop-row-preserved c =
    let w = rw c.in-Width.is at c.until_wrapped.ensures in
    rw c.add-sum-in-Width.ensures (
      part_over _ _ _ _ _ _ _ _ (moved (goal.at.loop-row-preserved c).Joined-row-end).1 _ _ c.loop-row.invariant.2 w.0 w.1,
      λ h. absurd (omega (arith, h)),
      omega (arith, w.1, c.loop-row.invariant.2),
    )

pub returns : goal.returns
returns c = (all _ _ _ _ _ _ _ _ c.loop-row.invariant.0 _ c.loop-row.invariant.2 c.loop-row-test.false, c.loop-row.invariant.2)

pub unwrap-end-requires : goal.unwrap-end-requires
unwrap-end-requires c =
    c.pop.ensures.variant.1 (some_on c.loop-row.ends.items (inner _ _ _ _ _ _ _ _ c.loop-row.invariant.0 c.if-row-end.false c.loop-row-test.true))

pub overflow_cast-end : goal.overflow_cast-end
overflow_cast-end c = omega (arith, low _ _ _ _ _ _ _ _ c.loop-row.invariant.0, c.requires.0.few)
