use native.Mathlib.Omega.{arith}
use mathlib.Core.Path.{◌≡◌, refl, sym, ap, ◌∙◌}
use mathlib.Core.List.{List, [], reverse}
use Prim.Native.Nat.{◌+◌}
use lib.ListN.{length}
use Rattle.rows.proofs.LastFirst.{last_first_length, one_on, none_on}
use Rattle.rowcheck.specs.Needs.{is_right}
use Rattle.rowcheck.specs.declared.weighing.Part.{Part}
use Rattle.rowcheck.proofs.Pending.{check_start, check_wrong, check_right, check_out, check_in, check_past, check_room, check_all, check_at}
use Rattle.rowcheck.proofs.Pending.{check_passes, check_fits, end_within}
use Rattle.rowcheck.proofs.Ahead.{ends_of, ends_size, weighing_start, weighing_in, weighing_past, weighing_out, weighing_end, margin_few, weighed_ok}
use Rattle.rowcheck.proofs.weighing.weigh_rows.Goals.{then-row-after, else-row-after}
use Rattle.rowcheck.proofs.weighing.weigh_rows.Goals as goal

-- as many parts are around as the array has
depth_is : (ps : List Part) → length (ends_of (reverse ps)) ≡ length ps
depth_is ps = ends_size (reverse ps) ∙ last_first_length ps

none_around : (ps : List Part) → ps ≡ [] → ends_of ps ≡ []
none_around ps e = ap ends_of e

pub loop-row-init : goal.loop-row-init
loop-row-init c =
    let none = ap reverse c.new-outer.ensures in (
      check_start _ _ _ _ _ (none_around _ none),
      weighing_start _ _ _ _ _ _ (record { end = c.args.stop; margin = c.args.margin }) none refl refl c.of_none-needs.ensures.0 c.of_none-needs.ensures.1,
    )

pub weigh_row-requires-clause-inside : goal.weigh_row-requires-clause-inside
weigh_row-requires-clause-inside c =
    let l = end_within _ _ _ _ _ _ _ c.loop-row.invariant.0 in
    (c.if-row-part.true, (omega (arith, c.requires.rows.0), omega (arith, c.requires.rows.1)))

pub weigh_row-requires-clause-right : goal.weigh_row-requires-clause-right
weigh_row-requires-clause-right c e =
    check_passes _ _ _ _ _ _ _ c.loop-row.invariant.0 _ (c.len.ensures.value ∙ sym (depth_is c.loop-row.outer.items)) (c.requires.right e)
    c.if-row-part.true

pub returns-in_default : goal.returns-in_default
returns-in_default c =
    let depth = c.len.ensures.value ∙ sym (depth_is c.loop-row.outer.items) in
    let wrong = sym c.weigh_row.ensures.right ∙ ap is_right c.in_default.is in
    record {
      row = sym (check_wrong _ _ _ _ _ _ _ c.loop-row.invariant.0 _ depth c.if-row-part.true wrong);
      needs = λ n e. absurd (cc);
    }

pub weigh_row-requires-clause-margin : goal.weigh_row-requires-clause-margin
weigh_row-requires-clause-margin c =
    let l = margin_few _ _ _ _ _ _ _ _ c.loop-row.invariant.1 in
    let d = c.loop-row.invariant.0.deep in
    let a = depth_is c.loop-row.outer.items in
    let b = ends_size (reverse c.loop-row.outer.items) in
    omega (arith, c.requires.margin)

pub weigh_row-requires-clause-room : goal.weigh_row-requires-clause-room
weigh_row-requires-clause-room c =
    let l = end_within _ _ _ _ _ _ _ c.loop-row.invariant.0 in
    let h = c.if-row-part.true in
    let f = c.loop-row.invariant.1.few in
    let m = c.requires.margin in
    omega (arith, c.requires.rows.1)

pub place-after-requires : goal.place-after-requires
place-after-requires c =
    let l = end_within _ _ _ _ _ _ _ c.loop-row.invariant.0 in
    omega (arith, c.requires.rows.0)

pub push-requires : goal.push-requires
push-requires c =
    let depth = depth_is c.loop-row.outer.items in
    let fits = sym c.weigh_row.ensures.right ∙ ap is_right c.in-Some.is in
    (omega arith, omega (arith, depth, check_room _ _ _ _ _ _ _ c.loop-row.invariant.0 _ (c.len.ensures.value ∙ sym depth) fits))

pub steps_of-requires : goal.steps_of-requires
steps_of-requires c =
    let l = end_within _ _ _ _ _ _ _ c.loop-row.invariant.0 in
    let h = c.if-row-part.true in
    omega (arith, c.requires.rows.0)

pub overflow_add-part : goal.overflow_add-part
overflow_add-part c =
    let l = margin_few _ _ _ _ _ _ _ _ c.loop-row.invariant.1 in
    let d = c.loop-row.invariant.0.deep in
    let b = ends_size (reverse c.loop-row.outer.items) in
    omega (arith, c.requires.margin, c.steps_of.ensures.1)

pub loop-row-smaller-then-row-part : goal.loop-row-smaller-then-row-part
loop-row-smaller-then-row-part c =
    let l = end_within _ _ _ _ _ _ _ c.loop-row.invariant.0 in
    elim c.if-row-after.branch [
      | then-row-after w ↦ omega (
        arith,
        ap (λ ps. length (ends_of (reverse ps.items))) w.outer-is,
        ap (λ ps. length (ends_of ps)) (one_on c.loop-row.outer.items _ w.push.ensures.items),
      )
      | else-row-after w ↦ omega (arith, ap (λ ps. length (ends_of (reverse ps.items))) w.outer-is)
    ]

pub loop-row-preserved-then-row-part : goal.loop-row-preserved-then-row-part
loop-row-preserved-then-row-part c =
    let fits = sym c.weigh_row.ensures.right ∙ ap is_right c.in-Some.is in
    let depth = c.len.ensures.value ∙ sym (depth_is c.loop-row.outer.items) in
    let kept = c.loop-row.invariant.0 in
    let l = end_within _ _ _ _ _ _ _ kept in
    let row = check_fits _ _ _ _ _ _ _ kept _ depth fits in
    elim c.if-row-after.branch [
      | then-row-after w ↦
          let outer = ap (λ ps. reverse ps.items) w.outer-is ∙ one_on c.loop-row.outer.items _ w.push.ensures.items in (
            rw w.part-is
                (check_in _ _ _ _ _ _ _ kept _ depth c.place-after.result c.if-row-part.true c.place-after.ensures.0 fits _ (ap ends_of outer)),
            rw w.part-is
                (weighing_in _ _ _ _ _ _ _ _ c.loop-row.invariant.1 _ (c.weigh_row.ensures.needs _ c.in-Some.is) (omega (arith, c.if-row-part.true)) _ _ row
                (record { end = c.place-after.result; margin = c.loop-row.part.margin + w.steps_of.result }) _ outer
                c.place-after.ensures.0 (ap (λ n. c.loop-row.part.margin + n) w.steps_of.ensures.0) (omega (arith, w.steps_of.ensures))),
          )
      | else-row-after w ↦ (
        rw (w.outer-is, w.part-is)
            (check_past _ _ _ _ _ _ _ kept _ depth c.place-after.result c.if-row-part.true c.place-after.ensures.0 fits w.if-row-after.false),
        rw (w.outer-is, w.part-is)
            (weighing_past _ _ _ _ _ _ _ _ c.loop-row.invariant.1 _ (c.weigh_row.ensures.needs _ c.in-Some.is) (omega (arith, c.if-row-part.true)) _ _ row
            c.place-after.result c.place-after.ensures.0 w.if-row-after.false),
      )
    ]

pub loop-row-preserved : goal.loop-row-preserved
loop-row-preserved c =
    let outer = one_on c.pop.new.self.items _ c.in-Some-pop.ensures.items in
    let kept = c.loop-row.invariant.0 in (
      check_out _ _ _ _ _ _ _ kept _ _ (ap ends_of outer) c.if-row-part.false,
      weighing_out _ _ _ _ _ _ _ _ c.loop-row.invariant.1 _ _ outer
          (check_at _ _ _ _ _ _ _ kept (let n = ap (λ ps. length (ends_of ps)) outer in omega arith) c.if-row-part.false),
    )

pub returns-in-None : goal.returns-in-None
returns-in-None c =
    let none = none_on c.loop-row.outer.items (λ h. let z = c.in-None.ensures.variant.1 h in cc) in
    let around = none_around _ none in
    let all = check_all _ _ _ _ _ _ _ c.loop-row.invariant.0 around in
    let done = weighing_end _ _ _ _ _ _ _ _ c.loop-row.invariant.1 none all (omega (arith, c.if-row-part.false)) in
    record {
      row = sym (check_right _ _ _ _ _ _ _ c.loop-row.invariant.0 around c.if-row-part.false);
      needs = λ n e. weighed_ok _ _ _ _ _ done n e;
    }
