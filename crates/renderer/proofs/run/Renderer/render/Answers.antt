use native.Mathlib.Omega.{arith}
use Prim.Native.Nat.{◌+◌, ◌-◌, ◌<◌, min}
use mathlib.Core.Path.{◌≡◌, refl, subst, ◌∙◌}
use mathlib.Core.Logic.{inl, inr}
use Rattle.rows.specs.View.{view_of}
use Rattle.rows.proofs.Nested.{nests_le}
use Rattle.renderer.proofs.Running.{small_cells}
use Rattle.renderer.proofs.Stepped.{with_parts, top_row}
use Rattle.renderer.proofs.Halting.{MOST, Halting, halting_start, at_is, next_low, halting_end}
use Rattle.renderer.proofs.Looping.{remarked, wrap_is, end_is, innermost_at, ready_now, entered_on, entered_less}
use Rattle.renderer.proofs.Looping.{behind, some_inside, some_left, some_kind, some_parts, none_ends, some_depth, at_part}
use Rattle.renderer.proofs.run.Renderer.render.Goals.{then-self-end-via-then-self-end, then-self-end-via-else-self-end+then-self-eq0}
use Rattle.renderer.proofs.Looping.{entered_up, leaving, closed_on, closed_less, closed_up}
use Rattle.renderer.proofs.run.Renderer.render.Goals as goal

pub loop-kind-init : goal.loop-kind-init
loop-kind-init c =
    let m = c.min-most.ensures in (
      remarked _ _ _ _ _ _ _ _ _
          (subst (Halting c.args.store.now c.args.source.now c.args.image.now c.args.stop (min c.args.allotment MOST) c.args.self.now c.args.self.now)
          (let z : min c.args.allotment MOST ≡ c.args.self.now.next + c.min-most.result - c.args.self.now.next = omega arith in z)
          (halting_start _ _ _ _ _ _ (small_cells c.args.self.now.max.0 c.args.source.now c.args.image.now c.args.store.now
          (λ k. omega (arith, c.type_inv.store k))) c.requires)),
      omega arith,
    )

pub innermost-f-requires : goal.innermost-f-requires
innermost-f-requires c = (at_is _ _ _ _ _ _ _ _ c.loop-kind.invariant.0).deep

pub open_end-end-requires : goal.open_end-end-requires
open_end-end-requires c =
    λ h. top_row _ _ _ _ _ _ _ _ _ (ready_now _ _ _ _ _ _ _ _ c.loop-kind.invariant.0) _ h
    (innermost_at c.loop-kind.self.frames.items c.loop-kind.self.frames.depth _ c.innermost-f.ensures h)

pub leaves-requires : goal.leaves-requires
leaves-requires c =
    let g = c.loop-kind.invariant.0 in
    let e =
    end_is (view_of c.args.store.now) c.args.stop c.loop-kind.self.frames.items c.loop-kind.self.frames.depth _ _ c.innermost-f.ensures
    c.open_end-end.ensures in
    let n = nests_le (at_is _ _ _ _ _ _ _ _ g).good in
    let l = c.loop-kind.invariant.1 in
    let m = c.min.ensures in
    record {
      stop = c.args.stop;
      ready = ready_now _ _ _ _ _ _ _ _ g;
      wrap = wrap_is c.loop-kind.self.frames.items c.loop-kind.self.frames.depth _ c.innermost-f.ensures;
      from = omega arith;
      low = omega arith;
    }

pub open_row-requires-clause-opens : goal.open_row-requires-clause-opens
open_row-requires-clause-opens c =
    let b =
    behind c.args.store.now c.args.source.now c.args.image.now c.args.stop (min c.args.allotment MOST) c.args.self.now c.loop-kind.self c.leaves.new.self
    c.innermost-f.result c.loop-kind.self.mark c.open_end-end.result c.min.result _ c.loop-kind.invariant.0 c.loop-kind.invariant.1 c.innermost-f.ensures
    c.open_end-end.ensures c.min.ensures (record { store = c.args.store; source = c.args.source; image = c.args.image }) refl refl refl
    c.leaves.result c.leaves.ensures c.in-Some.is in
    record {
      source = _;
      image = _;
      out = _;
      limit = _;
      stop = _;
      entering = record { ready = ready_now _ _ _ _ _ _ _ _ b.halting; inside = some_inside _ _ _ _ _ _ _ _ _ _ _ _ _ b };
    }

pub open_row-requires-clause-wrap : goal.open_row-requires-clause-wrap
open_row-requires-clause-wrap c =
    let b =
    behind c.args.store.now c.args.source.now c.args.image.now c.args.stop (min c.args.allotment MOST) c.args.self.now c.loop-kind.self c.leaves.new.self
    c.innermost-f.result c.loop-kind.self.mark c.open_end-end.result c.min.result _ c.loop-kind.invariant.0 c.loop-kind.invariant.1 c.innermost-f.ensures
    c.open_end-end.ensures c.min.ensures (record { store = c.args.store; source = c.args.source; image = c.args.image }) refl refl refl
    c.leaves.result c.leaves.ensures c.in-Some.is in
    wrap_is c.leaves.new.self.frames.items c.leaves.new.self.frames.depth _ b.innermost

pub open_row-requires-clause-kind : goal.open_row-requires-clause-kind
open_row-requires-clause-kind c =
    let b =
    behind c.args.store.now c.args.source.now c.args.image.now c.args.stop (min c.args.allotment MOST) c.args.self.now c.loop-kind.self c.leaves.new.self
    c.innermost-f.result c.loop-kind.self.mark c.open_end-end.result c.min.result _ c.loop-kind.invariant.0 c.loop-kind.invariant.1 c.innermost-f.ensures
    c.open_end-end.ensures c.min.ensures (record { store = c.args.store; source = c.args.source; image = c.args.image }) refl refl refl
    c.leaves.result c.leaves.ensures c.in-Some.is in
    some_kind _ _ _ _ _ _ _ _ _ _ _ _ _ b

pub open_row-requires-clause-parts : goal.open_row-requires-clause-parts
open_row-requires-clause-parts c =
    let b =
    behind c.args.store.now c.args.source.now c.args.image.now c.args.stop (min c.args.allotment MOST) c.args.self.now c.loop-kind.self c.leaves.new.self
    c.innermost-f.result c.loop-kind.self.mark c.open_end-end.result c.min.result _ c.loop-kind.invariant.0 c.loop-kind.invariant.1 c.innermost-f.ensures
    c.open_end-end.ensures c.min.ensures (record { store = c.args.store; source = c.args.source; image = c.args.image }) refl refl refl
    c.leaves.result c.leaves.ensures c.in-Some.is in
    with_parts _ _ refl (some_parts _ _ _ _ _ _ _ _ _ _ _ _ _ b)

pub overflow_sub-self : goal.overflow_sub-self
overflow_sub-self c =
    let b =
    behind c.args.store.now c.args.source.now c.args.image.now c.args.stop (min c.args.allotment MOST) c.args.self.now c.loop-kind.self c.leaves.new.self
    c.innermost-f.result c.loop-kind.self.mark c.open_end-end.result c.min.result _ c.loop-kind.invariant.0 c.loop-kind.invariant.1 c.innermost-f.ensures
    c.open_end-end.ensures c.min.ensures (record { store = c.args.store; source = c.args.source; image = c.args.image }) refl refl refl
    c.leaves.result c.leaves.ensures c.in-Some.is in
    let u = entered_up _ _ _ _ _ _ _ _ b.halting _ (some_inside _ _ _ _ _ _ _ _ _ _ _ _ _ b) (c.open_row.ensures _ _) in
    omega arith

pub overflow_sub-self-in-Some : goal.overflow_sub-self-in-Some
overflow_sub-self-in-Some c =
    let b =
    behind c.args.store.now c.args.source.now c.args.image.now c.args.stop (min c.args.allotment MOST) c.args.self.now c.loop-kind.self c.leaves.new.self
    c.innermost-f.result c.loop-kind.self.mark c.open_end-end.result c.min.result _ c.loop-kind.invariant.0 c.loop-kind.invariant.1 c.innermost-f.ensures
    c.open_end-end.ensures c.min.ensures (record { store = c.args.store; source = c.args.source; image = c.args.image }) refl refl refl
    c.leaves.result c.leaves.ensures c.in-Some.is in
    let u = entered_up _ _ _ _ _ _ _ _ b.halting _ (some_inside _ _ _ _ _ _ _ _ _ _ _ _ _ b) (c.open_row.ensures _ _) in
    omega arith

pub overflow_add-self-in-Some : goal.overflow_add-self-in-Some
overflow_add-self-in-Some c =
    let b =
    behind c.args.store.now c.args.source.now c.args.image.now c.args.stop (min c.args.allotment MOST) c.args.self.now c.loop-kind.self c.leaves.new.self
    c.innermost-f.result c.loop-kind.self.mark c.open_end-end.result c.min.result _ c.loop-kind.invariant.0 c.loop-kind.invariant.1 c.innermost-f.ensures
    c.open_end-end.ensures c.min.ensures (record { store = c.args.store; source = c.args.source; image = c.args.image }) refl refl refl
    c.leaves.result c.leaves.ensures c.in-Some.is in
    let o = c.open_row.ensures _ _ in
    let h = some_inside _ _ _ _ _ _ _ _ _ _ _ _ _ b in
    let left = some_left _ _ _ _ _ _ _ _ _ _ _ _ _ b in
    let u = entered_up _ _ _ _ _ _ _ _ b.halting _ h o in
    let e = entered_on _ _ _ _ _ _ _ _ b.halting _ h o (omega arith) in
    let d = e.due in
    let n = next_low _ _ _ _ _ _ _ _ e in
    let s = c.requires.few in
    let m = o.mark ∙ c.leaves.ensures.turns.mark in
    record { fits = omega arith }

pub loop-kind-smaller-in-Some : goal.loop-kind-smaller-in-Some
loop-kind-smaller-in-Some c =
    let b =
    behind c.args.store.now c.args.source.now c.args.image.now c.args.stop (min c.args.allotment MOST) c.args.self.now c.loop-kind.self c.leaves.new.self
    c.innermost-f.result c.loop-kind.self.mark c.open_end-end.result c.min.result _ c.loop-kind.invariant.0 c.loop-kind.invariant.1 c.innermost-f.ensures
    c.open_end-end.ensures c.min.ensures (record { store = c.args.store; source = c.args.source; image = c.args.image }) refl refl refl
    c.leaves.result c.leaves.ensures c.in-Some.is in
    let x = entered_less _ _ _ _ _ _ _ _ b.halting _ (some_inside _ _ _ _ _ _ _ _ _ _ _ _ _ b) (c.open_row.ensures _ _) in
    let y = b.less in
    omega arith

pub loop-kind-preserved-in-Some : goal.loop-kind-preserved-in-Some
loop-kind-preserved-in-Some c =
    let b =
    behind c.args.store.now c.args.source.now c.args.image.now c.args.stop (min c.args.allotment MOST) c.args.self.now c.loop-kind.self c.leaves.new.self
    c.innermost-f.result c.loop-kind.self.mark c.open_end-end.result c.min.result _ c.loop-kind.invariant.0 c.loop-kind.invariant.1 c.innermost-f.ensures
    c.open_end-end.ensures c.min.ensures (record { store = c.args.store; source = c.args.source; image = c.args.image }) refl refl refl
    c.leaves.result c.leaves.ensures c.in-Some.is in
    let h = some_inside _ _ _ _ _ _ _ _ _ _ _ _ _ b in
    let left = some_left _ _ _ _ _ _ _ _ _ _ _ _ _ b in
    let o = c.open_row.ensures _ _ in
    let u = entered_up _ _ _ _ _ _ _ _ b.halting _ h o in
    let e = entered_on _ _ _ _ _ _ _ _ b.halting _ h o (omega arith) in
    let m = o.mark ∙ c.leaves.ensures.turns.mark in (
      remarked _ _ _ _ _ _ _ _ _
          (subst (Halting _ _ _ _ _ _ c.open_row.new.self)
          (let z : c.loop-kind.self.mark - c.leaves.new.self.next - 1
          ≡ c.open_row.new.self.mark + (c.open_row.new.self.next - c.leaves.new.self.next - 1) - c.open_row.new.self.next = omega arith in z)
          e),
      omega arith,
    )

pub leave-requires : goal.leave-requires
leave-requires c =
    let b =
    behind c.args.store.now c.args.source.now c.args.image.now c.args.stop (min c.args.allotment MOST) c.args.self.now c.loop-kind.self c.leaves.new.self
    c.innermost-f.result c.loop-kind.self.mark c.open_end-end.result c.min.result _ c.loop-kind.invariant.0 c.loop-kind.invariant.1 c.innermost-f.ensures
    c.open_end-end.ensures c.min.ensures (record { store = c.args.store; source = c.args.source; image = c.args.image }) refl refl refl
    c.leaves.result c.leaves.ensures c.in-None.is in
    let d : 0 < c.leaves.new.self.frames.depth = some_depth _ c.if-self-eq0.false in
    leaving _ _ _ _ _ _ _ _ b.halting c.leaves.new.self d _ (innermost_at _ _ _ b.innermost d) (at_part _ _ _ _ _ _ _ _ _ _ _ _ b d c.if-self-end.false)

pub overflow_sub-self-in-None : goal.overflow_sub-self-in-None
overflow_sub-self-in-None c =
    let b =
    behind c.args.store.now c.args.source.now c.args.image.now c.args.stop (min c.args.allotment MOST) c.args.self.now c.loop-kind.self c.leaves.new.self
    c.innermost-f.result c.loop-kind.self.mark c.open_end-end.result c.min.result _ c.loop-kind.invariant.0 c.loop-kind.invariant.1 c.innermost-f.ensures
    c.open_end-end.ensures c.min.ensures (record { store = c.args.store; source = c.args.source; image = c.args.image }) refl refl refl
    c.leaves.result c.leaves.ensures c.in-None.is in
    let d : 0 < c.leaves.new.self.frames.depth = some_depth _ c.if-self-eq0.false in
    let u =
    closed_up _ _ _ _ _ _ _ _ b.halting _ d _ (innermost_at _ _ _ b.innermost d) (at_part _ _ _ _ _ _ _ _ _ _ _ _ b d c.if-self-end.false)
    c.leave.ensures.left c.leave.ensures.unwritten in
    omega (arith, c.if-self-end.false)

pub loop-kind-smaller : goal.loop-kind-smaller
loop-kind-smaller c =
    let b =
    behind c.args.store.now c.args.source.now c.args.image.now c.args.stop (min c.args.allotment MOST) c.args.self.now c.loop-kind.self c.leaves.new.self
    c.innermost-f.result c.loop-kind.self.mark c.open_end-end.result c.min.result _ c.loop-kind.invariant.0 c.loop-kind.invariant.1 c.innermost-f.ensures
    c.open_end-end.ensures c.min.ensures (record { store = c.args.store; source = c.args.source; image = c.args.image }) refl refl refl
    c.leaves.result c.leaves.ensures c.in-None.is in
    let d : 0 < c.leaves.new.self.frames.depth = some_depth _ c.if-self-eq0.false in
    let x =
    closed_less _ _ _ _ _ _ _ _ b.halting _ d _ (innermost_at _ _ _ b.innermost d) (at_part _ _ _ _ _ _ _ _ _ _ _ _ b d c.if-self-end.false)
    c.leave.ensures.left c.leave.ensures.unwritten in
    let y = b.less in
    omega arith

pub loop-kind-preserved : goal.loop-kind-preserved
loop-kind-preserved c =
    let b =
    behind c.args.store.now c.args.source.now c.args.image.now c.args.stop (min c.args.allotment MOST) c.args.self.now c.loop-kind.self c.leaves.new.self
    c.innermost-f.result c.loop-kind.self.mark c.open_end-end.result c.min.result _ c.loop-kind.invariant.0 c.loop-kind.invariant.1 c.innermost-f.ensures
    c.open_end-end.ensures c.min.ensures (record { store = c.args.store; source = c.args.source; image = c.args.image }) refl refl refl
    c.leaves.result c.leaves.ensures c.in-None.is in
    let d : 0 < c.leaves.new.self.frames.depth = some_depth _ c.if-self-eq0.false in
    let i = innermost_at _ _ _ b.innermost d in
    let e = at_part _ _ _ _ _ _ _ _ _ _ _ _ b d c.if-self-end.false in
    let u = closed_up _ _ _ _ _ _ _ _ b.halting _ d _ i e c.leave.ensures.left c.leave.ensures.unwritten in
    let h = closed_on _ _ _ _ _ _ _ _ b.halting _ d _ i e c.leave.ensures.left c.leave.ensures.unwritten in
    let l = b.low in
    let q : c.leaves.new.self.next ≡ c.open_end-end.result = c.if-self-end.false in
    let m = c.leave.ensures.unwritten.mark ∙ c.leaves.ensures.turns.mark in (
      remarked _ _ _ _ _ _ _ _ _
          (subst (Halting _ _ _ _ _ _ c.leave.new.self)
          (let z : c.loop-kind.self.mark - c.leaves.new.self.next
          ≡ c.leave.new.self.mark + (c.leave.new.self.next - c.open_end-end.result) - c.leave.new.self.next = omega arith in z)
          h),
      omega arith,
    )

pub overflow_sub-result : goal.overflow_sub-result
overflow_sub-result c =
    let b =
    behind c.args.store.now c.args.source.now c.args.image.now c.args.stop (min c.args.allotment MOST) c.args.self.now c.loop-kind.self c.leaves.new.self
    c.innermost-f.result c.loop-kind.self.mark c.open_end-end.result c.min.result _ c.loop-kind.invariant.0 c.loop-kind.invariant.1 c.innermost-f.ensures
    c.open_end-end.ensures c.min.ensures (record { store = c.args.store; source = c.args.source; image = c.args.image }) refl refl refl
    c.leaves.result c.leaves.ensures c.in-None.is in
    let m = c.leaves.ensures.turns.mark in
    let l = b.low in
    omega arith

pub returns : goal.returns
returns c =
    let b =
    behind c.args.store.now c.args.source.now c.args.image.now c.args.stop (min c.args.allotment MOST) c.args.self.now c.loop-kind.self c.leaves.new.self
    c.innermost-f.result c.loop-kind.self.mark c.open_end-end.result c.min.result _ c.loop-kind.invariant.0 c.loop-kind.invariant.1 c.innermost-f.ensures
    c.open_end-end.ensures c.min.ensures (record { store = c.args.store; source = c.args.source; image = c.args.image }) refl refl refl
    c.leaves.result c.leaves.ensures c.in-None.is in
    let l = b.low in
    let d = b.halting.due in
    let m = c.min-most.ensures in
    let k = c.leaves.ensures.turns.mark in
    halting_end _ _ _ _ _ _ _ _ b.halting
    (none_ends _ _ _ _ _ _ _ _ _ _ _ _ b (elim c.then-self-end.branch [
      | then-self-end-via-then-self-end w ↦ inl w.if-self-end.true
      | then-self-end-via-else-self-end+then-self-eq0 w ↦ inr w.if-self-eq0.true
    ]))
    _
    (omega arith)
