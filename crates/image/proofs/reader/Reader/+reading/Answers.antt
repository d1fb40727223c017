use mathlib.Core.Path.{refl, sym, ap, ◌∙◌}
use Prim.Native.Nat.{ℕ}
use native.Mathlib.Omega.{arith}
use lib.ListN.{length}
use Rattle.refusals.specs.Reasons.{answer_of}
use Rattle.image.specs.Open.{head_read}
use Rattle.image.specs.Read.{step_of}
use Rattle.refusals.proofs.Passed.{passed}
use Rattle.image.proofs.FirstPlace.{no_place, first_place}
use Rattle.image.proofs.Shapes.{opened_order}
use Rattle.image.proofs.Reading.{go_on, go_bad, spare, missing, ended, child_within, open_wrong, open_record, record_steps}
use Rattle.image.proofs.reader.Reader.+reading.Goals as goal

pub read_child-read_record-requires : goal.read_child-read_record-requires
read_child-read_record-requires t c = (omega arith, omega arith)

pub read_children-loop-here-init : goal.read_children-loop-here-init
read_children-loop-here-init t c = (
  record { source = refl; image = refl; left = refl; end = refl },
  record { turns = length c.args.self.now.image.now; enough = omega (arith, c.args.self.now.inside); same = refl },
)

pub read_children-returns-in_default : goal.read_children-returns-in_default
read_children-returns-in_default t c =
    let h = c.loop-here.invariant.0 in
    rw c.at.ensures (sym (c.loop-here.invariant.1.same
    ∙ ap step_of (spare _ _ _ _ _ (omega (arith, h.end, c.loop-here-test.true)) (no_place _ c.in_default.ensures.value))))

pub read_children-returns-in_err-next : goal.read_children-returns-in_err-next
read_children-returns-in_err-next t c =
    let h = c.loop-here.invariant.0 in
    let (due, first) = first_place _ _ c.in-Some.ensures.value in
    passed _ _ _ c.from_residual.ensures.1
    ∙ sym (go_bad _ _ _ _ _ _ (omega (arith, h.end, c.loop-here-test.true)) due
    (sym (rw (← first, h.source, h.image, h.left, h.end) at c.read_child.ensures) ∙ ap (answer_of (λ (n : ℕ). n)) c.in_err-next.was)
    c.loop-here.invariant.1)

pub read_children-go_to-requires : goal.read_children-go_to-requires
read_children-go_to-requires t c =
    omega (arith, child_within _ _ _ _ _ _ _ _ (sym c.read_child.ensures ∙ ap (answer_of (λ (n : ℕ). n)) c.in_ok-next.was))

pub read_children-loop-here-smaller : goal.read_children-loop-here-smaller
read_children-loop-here-smaller t c =
    omega (arith, c.go_to.ensures.rest, child_within _ _ _ _ _ _ _ _ (sym c.read_child.ensures ∙ ap (answer_of (λ (n : ℕ). n)) c.in_ok-next.was))

pub read_children-loop-here-preserved : goal.read_children-loop-here-preserved
read_children-loop-here-preserved t c =
    let h = c.loop-here.invariant.0 in
    let m = c.go_to.ensures in
    let (due, first) = first_place _ _ c.in-Some.ensures.value in
    let r = rw (← first, h.source, h.image, h.left, h.end) at c.read_child.ensures in
    let w = child_within _ _ _ _ _ _ _ _ (sym r ∙ ap (answer_of (λ (n : ℕ). n)) c.in_ok-next.was) in (
      record {
        source = m.same.0 ∙ h.source;
        image = m.same.1 ∙ h.image;
        left = m.rest.0 ∙ h.left;
        end = m.rest.2 ∙ h.end;
      },
      rw (c.after_row-row.ensures, m.rest.1) (go_on _ _ _ _ _ _ (omega (arith, h.end, c.loop-here-test.true)) due
          (sym r ∙ ap (answer_of (λ (n : ℕ). n)) c.in_ok-next.was) w.0 c.loop-here.invariant.1),
    )

pub read_children-returns-then-is_over : goal.read_children-returns-then-is_over
read_children-returns-then-is_over t c =
    let h = c.loop-here.invariant.0 in
    rw h.end (sym (c.loop-here.invariant.1.same
    ∙ ap step_of (ended _ _ _ _ _ (omega (arith, h.end, c.loop-here-test.false)) (sym c.is_over.ensures ∙ c.if-is_over.true))))

pub read_children-returns : goal.read_children-returns
read_children-returns t c =
    let h = c.loop-here.invariant.0 in
    rw c.at-2.ensures (sym (c.loop-here.invariant.1.same
    ∙ ap step_of (missing _ _ _ _ _ (omega (arith, h.end, c.loop-here-test.false)) (sym c.is_over.ensures ∙ c.if-is_over.false))))

pub read_record-overflow_sub-inner : goal.read_record-overflow_sub-inner
read_record-overflow_sub-inner t c =
    let w = open_record _ _ _ _ _ _ _ _ (sym c.opening.ensures ∙ ap (answer_of head_read) c.in_ok-o.was) in
    omega (arith, w.held.more)

pub read_record-invariant_of-inner : goal.read_record-invariant_of-inner
read_record-invariant_of-inner t c =
    let w = open_record _ _ _ _ _ _ _ _ (sym c.opening.ensures ∙ ap (answer_of head_read) c.in_ok-o.was) in
    record {
      inside = (
        omega (arith, w.first, w.stop, opened_order w.held),
        omega (arith, w.stop, w.held.right.within, c.args.self.now.inside),
      );
    }

pub read_record-read_children-requires : goal.read_record-read_children-requires
read_record-read_children-requires t c =
    let w = open_record _ _ _ _ _ _ _ _ (sym c.opening.ensures ∙ ap (answer_of head_read) c.in_ok-o.was) in
    omega (arith, w.held.more)

pub read_record-returns-in_err-o : goal.read_record-returns-in_err-o
read_record-returns-in_err-o t c =
    passed _ _ _ c.from_residual.ensures.1
    ∙ sym (open_wrong _ _ _ _ _ _ _ _ (sym c.opening.ensures ∙ ap (answer_of head_read) c.in_err-o.was))

pub read_record-returns-in_err-next : goal.read_record-returns-in_err-next
read_record-returns-in_err-next t c =
    passed _ _ _ c.from_residual-in_err-next.ensures.1
    ∙ ap (answer_of (λ (n : ℕ). n)) (sym c.in_err-next.was)
    ∙ c.read_children.ensures
    ∙ sym (record_steps _ _ _ _ _ _ _ _ (open_record _ _ _ _ _ _ _ _
    (sym c.opening.ensures ∙ ap (answer_of head_read) c.in_ok-o.was)))

pub read_record-returns : goal.read_record-returns
read_record-returns t c =
    ap (answer_of (λ (n : ℕ). n)) (sym c.in_ok-next.was)
    ∙ c.read_children.ensures
    ∙ sym (record_steps _ _ _ _ _ _ _ _ (open_record _ _ _ _ _ _ _ _
    (sym c.opening.ensures ∙ ap (answer_of head_read) c.in_ok-o.was)))
