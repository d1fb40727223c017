-- Each return is the reading under the tests that led to it.
-- Assumes nothing.
use mathlib.Core.Path.{sym, ap, ◌∙◌}
use Prim.Native.Nat.{ℕ}
use native.Mathlib.Omega.{arith}
use Rattle.refusals.specs.Reasons.{answer_of}
use Rattle.refusals.proofs.Passed.{passed}
use Rattle.image.specs.Open.{head_of}
use Rattle.image.specs.Read.{opens}
use Rattle.image.proofs.Known.{no_kind, a_kind}
use Rattle.image.proofs.Shapes.{shape_room, shaped}
use Rattle.image.proofs.Reading.{is_record, stop_wrong, stop_right}
use Rattle.image.proofs.reader.Reader.opening.Goals as goal

pub returns-in_default : goal.returns-in_default
unfolding opens
returns-in_default c = rw c.at.ensures (simp (no_kind _ _ _ (λ e. (shaped _ _ _ _ _ e).kind) c.in_default.ensures))

pub stop-requires : goal.stop-requires
stop-requires c = omega (arith, shape_room _ _ _ _ _ (a_kind _ _ _ c.in-Some.ensures).0)

pub returns-in_err-stop : goal.returns-in_err-stop
returns-in_err-stop c =
    passed _ _ _ c.from_residual.ensures.1
    ∙ sym (ap (head_of _) (stop_wrong _ _ _ _ _ _ _ _ (a_kind _ _ _ c.in-Some.ensures).0
    (sym c.stop.ensures ∙ ap (answer_of (λ (n : ℕ). n)) c.in_err-stop.was)))

pub returns : goal.returns
returns c =
    let (s, k) = a_kind _ _ _ c.in-Some.ensures in
    let w = stop_right _ _ _ _ _ _ _ _ s (sym c.stop.ensures ∙ ap (answer_of (λ (n : ℕ). n)) c.in_ok-stop.was) in
    is_record _ _ _ _ _ _ _ _ _ _ _ w.0 (sym k) w.1 c.first_child.ensures c.row_under.ensures
