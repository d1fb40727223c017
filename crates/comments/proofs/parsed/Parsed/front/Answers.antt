-- The pair at the place that the number of comments placed gives.
use mathlib.Core.Path.{sym, ap, ap₂, ◌∙◌}
use Prim.Native.Nat.{ℕ}
use Rattle.std.specs.Prelude.{Some}
use native.Mathlib.Omega.{arith}
use Rattle.comments.proofs.Fronts.{at_front, none_left}
use Rattle.comments.specs.Listed.{pending_of}
use Rattle.comments.proofs.parsed.Parsed.front.Goals as goal

pub returns-then-k-num16 : goal.returns-then-k-num16
returns-then-k-num16 c =
    ap₂ (λ (x y : ℕ). Some (record { start = x; end = y })) c.num32-start.ensures.same c.num32-end.ensures.same
    ∙ sym
    (ap pending_of (at_front c.args.self.now.image.now c.args.placed (omega (arith, c.num16.ensures.same, c.if-k-num16.true))))

pub returns : goal.returns
returns c =
    sym (ap pending_of (none_left c.args.self.now.image.now c.args.placed (omega (arith, c.num16.ensures.same, c.if-k-num16.false))))
