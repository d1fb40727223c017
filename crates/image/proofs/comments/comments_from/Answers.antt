use mathlib.Core.Path.{◌≡◌, sym, ◌∙◌, ap}
use Prim.Native.Nat.{ℕ, ◌+◌, ◌-◌, ◌*◌}
use native.Mathlib.Omega.{arith}
use Rattle.refusals.specs.Answers.{accepted}
use Rattle.image.specs.Read.{step_of}
use Rattle.image.proofs.CommentList.{from_on, from_off, from_end}
use Rattle.image.proofs.comments.comments_from.Goals as goal

pub returns-then-not-comment_fits : goal.returns-then-not-comment_fits
returns-then-not-comment_fits c =
    rw c.at.ensures (sym (ap step_of
    (c.loop-i.invariant ∙ from_off _ _ _ _ _ _ (omega arith) (sym c.comment_fits.ensures ∙ c.if-not-comment_fits.true))))

pub loop-i-preserved : goal.loop-i-preserved
loop-i-preserved c =
    let n : c.args.count - (c.loop-i.i + 1) ≡ c.args.count - c.loop-i.i - 1 = omega arith in
    let at : 7 + 8 * (c.loop-i.i + 1) ≡ 7 + 8 * c.loop-i.i + 8 = omega arith in
    rw (n, at, c.least_after-least.ensures) (c.loop-i.invariant ∙ from_on _ _ _ _ _ _ (omega arith) (sym c.comment_fits.ensures ∙ c.if-not-comment_fits.false))

pub returns : goal.returns
returns c =
    let all : c.args.count ≡ c.loop-i.i = omega arith in
    ap (λ (n : ℕ). accepted (7 + 8 * n)) all ∙ sym (ap step_of (c.loop-i.invariant ∙ from_end _ _ _ _ _ _ (omega arith)))
