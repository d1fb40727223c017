use Prim.Native.Nat.{ℕ, ◌+◌, ◌-◌, ◌*◌, ◌≤◌, ◌<◌}
use mathlib.Core.Path.{◌≡◌}
use mathlib.Core.List.{List}
use lib.ListN.{length, get_or}
use Rattle.ast.specs.Syntax.{Span, Expr, expr, bin_op}
use Rattle.tree.specs.At.{ExprAt}
use Rattle.layout.specs.Layout.{binop_precedence}
use Rattle.layout.specs.Forms.{four, Of}
use Rattle.layout.specs.Chains.{Above}
use Rattle.layout.specs.Ranks.{rank}
use Rattle.layout.proofs.chains.leftmost.Given as goal

abbrev pub invariant-loop-q : goal.invariant-loop-q
invariant-loop-q l = (length l.ops ≡ 64)
    × (l.p ≡ l.at + 13 * l.n)
    × (1 ≤ l.n)
    × (l.n ≤ 64)
    × ((i : ℕ) → i < l.n → get_or l.ops i 0 ≡ l.at + 13 * i)
    × ((s : List ℕ) (t : Span × (Expr × Span × ℕ × Expr)) → Of (four bin_op) s l.parsed.image.now t l.at → binop_precedence t.1.2 ≡ rank l.q
    → (x : Expr) × Above (rank l.q) s l.parsed.image.now (expr t.0 (four bin_op t.1)) l.at l.p x × ExprAt s l.parsed.image.now x l.p)

abbrev pub decreases-loop-q : goal.decreases-loop-q
decreases-loop-q l = length l.parsed.image.now - l.p
