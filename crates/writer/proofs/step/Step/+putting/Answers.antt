use mathlib.Core.Path.{◌≡◌, refl, sym, ap, ◌∙◌}
use mathlib.Core.List.{List}
use Prim.Native.Nat.{suc, ◌+◌, ◌-◌, ◌≤◌, ℕ}
use Rattle.image.specs.Bytes.{part}
use Rattle.image.proofs.Exact.{part_length}
use native.Mathlib.Omega.{arith}
use lib.ListN.{length}
use Rattle.std.specs.Prelude.{Result}
use Rattle.refusals.specs.declared.Refused.{Refused}
use Rattle.image.specs.KindNumbers.{kind_number}
use Rattle.image.specs.Places.{due_number, row_number}
use Rattle.image.specs.Write.{written, writtens}
use Rattle.image.proofs.FirstPlace.{no_place, first_place}
use Rattle.image.proofs.Known.{no_kind, a_kind}
use Rattle.steps.specs.Writer.{payload_from, record_from, children_from}
use Rattle.writer.specs.Put.{put_of, put_by, child_by}
use Rattle.writer.proofs.Seen.{stood, was_opened, not_opened, child_unclosed, child_none, child_due, child_not, taken_fits}
use Rattle.writer.proofs.Runs.{is_held, read_next, read_fault, passed_put, close_held, absent_held, open_held, record_payload, record_children}
use Rattle.writer.proofs.Runs.{record_held, record_deep, record_not}
use Rattle.writer.proofs.Bounds.{optional_place, record_due, children_due}
use Rattle.writer.proofs.Loops.{goes_on, goes_closed, goes_wrong}
use Rattle.writer.proofs.step.Step.+putting.Goals as goal

-- where the payload goes: behind the length, the kind and the span
behind_head : (l : List ℕ) (at pos q : ℕ) → at + 10 ≤ length l → q ≡ pos + 4 + length (part (at + 1) (at + 10) l) → q ≡ pos + 13
behind_head l at pos q fits e =
    let nine : length (part (at + 1) (at + 10) l) ≡ 9 = part_length l (at + 1) (at + 10) (omega arith) fits ∙ omega arith in
    omega (arith, e)

pub put_child-returns-in_default-clause-put : goal.put_child-returns-in_default-clause-put
put_child-returns-in_default-clause-put t c =
    rw c.at.ensures (sym (ap (child_by _ _) (child_none _ _ _ _ c.requires.open (no_place _ c.in_default.ensures.value))))

pub put_child-returns-then-is_optional-clause-put : goal.put_child-returns-then-is_optional-clause-put
put_child-returns-then-is_optional-clause-put t c =
    rw c.put32.ensures.place (absent_held _ _ _ _ _ _ _ (sym c.stands.ensures ∙ c.if-stands.true)
    (sym (rw (← (first_place _ _ c.in-Some.ensures.value).1) at c.is_optional.ensures) ∙ c.if-is_optional.true) c.put32.ensures.bytes)

pub put_child-returns-then-stands-clause-put : goal.put_child-returns-then-stands-clause-put
put_child-returns-then-stands-clause-put t c =
    rw c.at-then-stands.ensures (sym (ap (child_by _ _) (child_due _ _ _ _ (sym c.stands.ensures ∙ c.if-stands.true)
    (sym (rw (← (first_place _ _ c.in-Some.ensures.value).1) at c.is_optional.ensures) ∙ c.if-is_optional.false))))

pub put_child-returns-then-not-stands-clause-put : goal.put_child-returns-then-not-stands-clause-put
put_child-returns-then-not-stands-clause-put t c =
    rw c.at-then-not-stands.ensures (sym (ap (child_by _ _) (child_not _ _ _ _ c.requires.open
    (sym c.stands.ensures ∙ c.if-stands.false) (sym c.stands-2.ensures ∙ c.if-not-stands.true))))

pub put_child-put32-requires : goal.put_child-put32-requires
put_child-put32-requires t c =
    let h = optional_place c.requires.due (sym (rw (← (first_place _ _ c.in-Some.ensures.value).1) at c.is_optional.ensures) ∙ c.if-is_optional.true) in
    omega (arith, h, c.requires.due.below, (stood _ _ _ _ (sym c.stands.ensures ∙ c.if-stands.true)).0)

pub put_child-put_record-requires : goal.put_child-put_record-requires
put_child-put_record-requires t c =
    (omega (arith, c.decreases), record_due c.requires.due (first_place _ _ c.in-Some.ensures.value).0)

pub put_child-returns-in_err-end-clause-put : goal.put_child-returns-in_err-end-clause-put
put_child-returns-in_err-end-clause-put t c =
    passed_put _ _ _ c.from_residual.ensures.1
    ∙ ap (λ (r : Result ℕ Refused). put_of r c.put_record.new.out) (sym c.in_err-end.was)
    ∙ (rw (c.due.ensures, ← (first_place _ _ c.in-Some.ensures.value).1) at c.put_record.ensures.put)
    ∙ sym (open_held _ _ _ _ _ _ (sym c.stands-2.ensures ∙ c.if-not-stands.false) (first_place _ _ c.in-Some.ensures.value).0)

pub put_child-returns-clause-put : goal.put_child-returns-clause-put
put_child-returns-clause-put t c =
    ap (λ (r : Result ℕ Refused). put_of r c.put_record.new.out) (sym c.in_ok-end.was)
    ∙ (rw (c.due.ensures, ← (first_place _ _ c.in-Some.ensures.value).1) at c.put_record.ensures.put)
    ∙ sym (open_held _ _ _ _ _ _ (sym c.stands-2.ensures ∙ c.if-not-stands.false) (first_place _ _ c.in-Some.ensures.value).0)

pub put_children-loop-here-init : goal.put_children-loop-here-init
put_children-loop-here-init t c =
    record {
      list = refl;
      going = record { turns = length c.args.self.now.steps.now; enough = omega arith; inside = c.args.self.now.inside; due = c.requires; same = refl };
      same = refl;
    }

pub put_children-put_child-requires : goal.put_children-put_child-requires
put_children-put_child-requires t c =
    let h = c.loop-here.invariant in
    (omega (arith, c.decreases), (h.going.due, sym c.stands.ensures ∙ c.loop-here-test.true))

pub put_children-go_to-requires : goal.put_children-go_to-requires
put_children-go_to-requires t c =
    let h = c.loop-here.invariant in
    let w =
    goes_on c.args.self.now.steps.now c.args.left _ _ _ _ _ h.going c.in_ok-next.next c.put_child.new.out.pos c.put_child.new.out.bytes.now
    (ap (λ (r : Result ℕ Refused). put_of r c.put_child.new.out) (sym c.in_ok-next.was) ∙ rw h.list at c.put_child.ensures.put)
    in
    rw h.list w.1.0

pub put_children-returns-in_err-next-clause-put : goal.put_children-returns-in_err-next-clause-put
put_children-returns-in_err-next-clause-put t c =
    let h = c.loop-here.invariant in
    passed_put _ _ _ c.from_residual.ensures.1
    ∙ goes_wrong c.args.self.now.steps.now c.args.left _ _ _ _ _ h.going _ _
    (ap (λ (r : Result ℕ Refused). put_of r c.put_child.new.out) (sym c.in_err-next.was) ∙ rw h.list at c.put_child.ensures.put)

pub put_children-loop-here-smaller : goal.put_children-loop-here-smaller
put_children-loop-here-smaller t c =
    let h = c.loop-here.invariant in
    let m = c.go_to.ensures in
    let w =
    goes_on c.args.self.now.steps.now c.args.left _ _ _ _ _ h.going c.in_ok-next.next c.put_child.new.out.pos c.put_child.new.out.bytes.now
    (ap (λ (r : Result ℕ Refused). put_of r c.put_child.new.out) (sym c.in_ok-next.was) ∙ rw h.list at c.put_child.ensures.put)
    in
    rw (m.0, m.1, h.list) (omega (arith, w.0, w.1.0))

pub put_children-loop-here-preserved : goal.put_children-loop-here-preserved
put_children-loop-here-preserved t c =
    let h = c.loop-here.invariant in
    let m = c.go_to.ensures in
    let w =
    goes_on c.args.self.now.steps.now c.args.left _ _ _ _ _ h.going c.in_ok-next.next c.put_child.new.out.pos c.put_child.new.out.bytes.now
    (ap (λ (r : Result ℕ Refused). put_of r c.put_child.new.out) (sym c.in_ok-next.was) ∙ rw h.list at c.put_child.ensures.put)
    in
    record { list = m.0 ∙ h.list; going = rw (c.after_row-row.ensures, m.1) w.1.1; same = c.put_child.ensures.same ∙ h.same }

pub put_children-returns-then-not-is_over-clause-put : goal.put_children-returns-then-not-is_over-clause-put
put_children-returns-then-not-is_over-clause-put t c =
    let h = c.loop-here.invariant in
    rw c.at.ensures (goes_wrong c.args.self.now.steps.now c.args.left _ _ _ _ _ h.going _ _ (sym (ap (child_by _ _)
    (child_unclosed _ _ _ _ (sym (rw h.list at c.stands.ensures) ∙ c.loop-here-test.false) (sym c.is_over.ensures ∙ c.if-not-is_over.true)))))

pub put_children-returns-clause-put : goal.put_children-returns-clause-put
put_children-returns-clause-put t c =
    let h = c.loop-here.invariant in
    goes_closed c.args.self.now.steps.now c.args.left _ _ _ _ _ h.going _ _
    (close_held _ _ _ _ _ _ (sym (rw h.list at c.stands.ensures) ∙ c.loop-here-test.false) (sym c.is_over.ensures ∙ c.if-not-is_over.false))

pub put_record-returns-then-left-eq0-clause-put : goal.put_record-returns-then-left-eq0-clause-put
put_record-returns-then-left-eq0-clause-put t c =
    rw c.at.ensures (sym (ap (put_by _ _ _) (record_deep _ _ _ _ c.if-left-eq0.true)))

pub put_record-returns-in_default-clause-put : goal.put_record-returns-in_default-clause-put
put_record-returns-in_default-clause-put t c =
    rw c.at-in_default.ensures (sym (ap (put_by _ _ _) (record_not _ _ _ _ (not_opened _ _ _
    (no_kind c.args.due _ _ (taken_fits _ _ _) c.in_default.ensures)))))

pub put_record-put_payload-requires : goal.put_record-put_payload-requires
put_record-put_payload-requires t c =
    let fits = (stood _ _ _ _ (was_opened _ _ _ (a_kind _ _ _ c.in-Some.ensures).0).0).0 in
    omega (arith, behind_head _ _ _ _ fits c.copy.ensures.place, c.requires)

pub put_record-invariant_of-children-clause-inside : goal.put_record-invariant_of-children-clause-inside
put_record-invariant_of-children-clause-inside t c =
    let fits = (stood _ _ _ _ (was_opened _ _ _ (a_kind _ _ _ c.in-Some.ensures).0).0).0 in
    let k = read_next _ _ _ _ _ _ _ (rw (behind_head _ _ _ _ fits c.copy.ensures.place) at c.put_payload.ensures.put) c.in_ok-first.was in
    (children_due c.args.self.now.steps.now (due_number c.args.due) (kind_number c.in-Some.kind) c.args.self.now.at c.args.out.now.pos
    c.requires fits k.what _ _ k.reads refl).0

pub put_record-put_children-requires : goal.put_record-put_children-requires
put_record-put_children-requires t c =
    let fits = (stood _ _ _ _ (was_opened _ _ _ (a_kind _ _ _ c.in-Some.ensures).0).0).0 in
    let k = read_next _ _ _ _ _ _ _ (rw (behind_head _ _ _ _ fits c.copy.ensures.place) at c.put_payload.ensures.put) c.in_ok-first.was in (
      omega (arith, c.decreases, c.if-left-eq0.false),
      rw k.place (children_due c.args.self.now.steps.now (due_number c.args.due) (kind_number c.in-Some.kind) c.args.self.now.at c.args.out.now.pos
          c.requires fits k.what _ (row_number c.row_under.result.now) k.reads c.row_under.ensures).1,
    )

pub put_record-overflow_sub-out : goal.put_record-overflow_sub-out
put_record-overflow_sub-out t c =
    let k =
    read_next (λ (x : List ℕ). x) c.copy.new.self.pos c.copy.new.self.bytes.now
    (payload_from c.args.self.now.steps.now (due_number c.args.due) (kind_number c.in-Some.kind) (c.args.self.now.at + 10)) _ _ _
    c.put_payload.ensures.put c.in_ok-first.was
    in
    let m =
    read_next writtens c.put_payload.new.out.pos c.put_payload.new.out.bytes.now
    (children_from (record_from c.args.self.now.steps.now (c.args.left - 1)) c.args.self.now.steps.now (suc (length c.args.self.now.steps.now))
    (row_number c.row_under.result.now) c.in_ok-first.first)
    _ _ _ c.put_children.ensures.put c.in_ok-end.was
    in
    omega (arith, k.place, m.place, c.copy.ensures.place)

pub put_record-returns-in_err-first-clause-put : goal.put_record-returns-in_err-first-clause-put
put_record-returns-in_err-first-clause-put t c =
    passed_put _ _ _ c.from_residual.ensures.1
    ∙ sym (ap (put_by written _ _) (record_payload c.args.self.now.steps.now c.args.left (due_number c.args.due) c.args.self.now.at
    (kind_number c.in-Some.kind)
    c.if-left-eq0.false (sym (a_kind _ _ _ c.in-Some.ensures).1) (was_opened _ _ _ (a_kind _ _ _ c.in-Some.ensures).0).1 _ _
    (read_fault _ _ _ _ _ _ _ c.put_payload.ensures.put c.in_err-first.was)))

pub put_record-returns-in_err-end-clause-put : goal.put_record-returns-in_err-end-clause-put
put_record-returns-in_err-end-clause-put t c =
    let fits = (stood _ _ _ _ (was_opened _ _ _ (a_kind _ _ _ c.in-Some.ensures).0).0).0 in
    let k = read_next _ _ _ _ _ _ _ c.put_payload.ensures.put c.in_ok-first.was in
    passed_put _ _ _ c.from_residual-in_err-end.ensures.1
    ∙ sym (ap (put_by written _ _) (record_children c.args.self.now.steps.now c.args.left (due_number c.args.due) c.args.self.now.at
    (kind_number c.in-Some.kind) c.if-left-eq0.false (sym (a_kind _ _ _ c.in-Some.ensures).1)
    (was_opened _ _ _ (a_kind _ _ _ c.in-Some.ensures).0).1 k.what _
    (row_number c.row_under.result.now) _ _ k.reads c.row_under.ensures (read_fault _ _ _ _ _ _ _
    c.put_children.ensures.put c.in_err-end.was)))

pub put_record-returns-clause-put : goal.put_record-returns-clause-put
put_record-returns-clause-put t c =
    let fits = (stood _ _ _ _ (was_opened _ _ _ (a_kind _ _ _ c.in-Some.ensures).0).0).0 in
    let k = read_next _ _ _ _ _ _ _ (rw (behind_head _ _ _ _ fits c.copy.ensures.place) at c.put_payload.ensures.put) c.in_ok-first.was in
    let m = read_next _ _ _ _ _ _ _ c.put_children.ensures.put c.in_ok-end.was in
    rw c.set32.ensures.place (is_held written _ _ _ _ _ _ (record_held c.args.self.now.steps.now c.args.left
    (due_number c.args.due) c.args.self.now.at (kind_number c.in-Some.kind)
    c.if-left-eq0.false (sym (a_kind _ _ _ c.in-Some.ensures).1) (was_opened _ _ _ (a_kind _ _ _ c.in-Some.ensures).0).1
    c.args.out.now.pos c.args.out.now.bytes.now c.args.self.now.bytes
    fits _ _ _ _ _ _ _ _ _
    c.copy.ensures.bytes k c.row_under.ensures m c.set32.ensures.bytes))
