use native.Mathlib.Omega.{arith}
use mathlib.Core.Path.{◌≡◌, ◌∙◌}
use mathlib.Core.Bool.{◌&&◌}
use Prim.Native.Nat.{◌+◌}
use lib.ListN.{get_or}
use mathlib.Core.Logic.{inl, inr}
use Rattle.std.proofs.lemmas.Bool.Decides.{nat_tests}
use Rattle.text.specs.Utf8.{continues, sequence}
use Rattle.text.proofs.Sequences.{row_none, row_two, row_three, row_four, sequence_one, sequence_none, sequence_two, sequence_three, sequence_four}
use Rattle.text.proofs.utf8.sequence.Goals as goal
use Rattle.text.proofs.utf8.sequence.Goals.{then-is_second, else-is_second, then-is_second-2, else-is_second-2, then-is_continuation, else-is_continuation}

pub returns-in_err-first : goal.returns-in_err-first
unfolding sequence
returns-in_err-first c = grind (arith, nat_tests, c.in_err-first.ensures)

pub returns-in-0-to-127 : goal.returns-in-0-to-127
returns-in-0-to-127 c =
    let first = c.in_ok-first.ensures.lookup.3 in sequence_one _ _ _ first.0 (first.1 0) (omega arith)

pub returns-in-194-to-223 : goal.returns-in-194-to-223
returns-in-194-to-223 c =
    let first = c.in_ok-first.ensures.lookup.3 in
    c.then_some.ensures ∙ sequence_two _ _ _ first.0 (first.1 0) _ (row_two _ (omega arith) (omega arith)) (rw (← c.byte.ensures) c.is_second.ensures)

pub returns-after-is_second : goal.returns-after-is_second
returns-after-is_second c =
    let first = c.in_ok-first.ensures.lookup.3 in
    c.then_some-in-224-to-239.ensures
    ∙ sequence_three _ _ _ first.0 (first.1 0) _ (row_three _ (omega arith) (omega arith))
    (rw (← c.byte-in-224-to-239.ensures, ← c.is_second-in-224-to-239.ensures)
    (elim c.if-is_second.branch [
      | then-is_second w ↦ rw w.if-is_second.true (w.then_some-is ∙ rw w.byte-then-is_second.ensures at w.is_continuation.ensures)
      | else-is_second w ↦ rw w.if-is_second.false (w.then_some-is ∙ w.if-is_second.false)
    ]))

pub returns-after-is_continuation : goal.returns-after-is_continuation
returns-after-is_continuation c =
    let first = c.in_ok-first.ensures.lookup.3 in
    let three : c.if-is_second-2.value ≡ (c.is_second-in-240-to-244.result && continues (get_or c.args.s.now (c.args.at + 2) 0)) =
    elim c.if-is_second-2.branch [
      | then-is_second-2 w ↦ rw w.if-is_second-2.true (w.value-is ∙ rw w.byte-then-is_second-2.ensures at w.is_continuation-then-is_second-2.ensures)
      | else-is_second-2 w ↦ rw w.if-is_second-2.false (w.value-is ∙ w.if-is_second-2.false)
    ] in
    c.then_some-in-240-to-244.ensures
    ∙ sequence_four _ _ _ first.0 (first.1 0) _ (row_four _ (omega arith) (omega arith))
    (rw (← c.byte-in-240-to-244.ensures, ← c.is_second-in-240-to-244.ensures, ← three)
    (elim c.if-is_continuation.branch [
      | then-is_continuation w ↦
          rw w.if-is_continuation.true (w.then_some-is ∙ rw w.byte-then-is_continuation.ensures at w.is_continuation-then-is_continuation.ensures)
      | else-is_continuation w ↦ rw w.if-is_continuation.false (w.then_some-is ∙ w.if-is_continuation.false)
    ]))

pub returns-in_default : goal.returns-in_default
returns-in_default c =
    let first = c.in_ok-first.ensures.lookup.3 in
    sequence_none _ _ _ first.0 (first.1 0) (row_none _ (omega arith) (inl (omega arith)))

pub returns-in_default-2 : goal.returns-in_default-2
returns-in_default-2 c =
    let first = c.in_ok-first.ensures.lookup.3 in
    sequence_none _ _ _ first.0 (first.1 0) (row_none _ (omega arith) (inr (omega arith)))
