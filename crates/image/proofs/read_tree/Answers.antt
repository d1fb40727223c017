-- What the record's reading answers, and whether bytes are left, decides the answer.
-- Assumes nothing.
use mathlib.Core.Path.{sym, ◌∙◌, ap}
use Prim.Native.Nat.{ℕ}
use native.Mathlib.Omega.{arith}
use Rattle.refusals.specs.Answers.{accepted}
use Rattle.refusals.specs.Reasons.{answer_of}
use Rattle.refusals.proofs.Passed.{passed}
use Rattle.image.proofs.Whole.{tree_bad, tree_spare, tree_whole}
use Rattle.image.proofs.read_tree.Goals as goal

pub invariant_of-reader : goal.invariant_of-reader
invariant_of-reader c =
    record { inside = (omega arith, omega arith) }

pub returns-in_err-next : goal.returns-in_err-next
returns-in_err-next c =
    passed _ _ _ c.from_residual.ensures.1
    ∙ sym (tree_bad _ _ _ _ _ (sym c.read_record.ensures ∙ ap (answer_of (λ (n : ℕ). n)) c.in_err-next.was))

pub returns-then-next-image : goal.returns-then-next-image
returns-then-next-image c =
    rw c.at.ensures
    (sym (tree_spare _ _ _ _ _ (sym c.read_record.ensures ∙ ap (answer_of (λ (n : ℕ). n)) c.in_ok-next.was)
    c.if-next-image.true))

pub returns : goal.returns
returns c =
    ap (λ n. accepted (record { comments = n; tree = c.args.at })) c.num16.ensures.same
    ∙ sym (tree_whole _ _ _ _ _ (sym c.read_record.ensures ∙ ap (answer_of (λ (n : ℕ). n)) c.in_ok-next.was)
    c.if-next-image.false)
