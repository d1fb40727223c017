use Prim.Native.Nat.{◌+◌, ℕ, ◌*◌, ◌<◌, ◌-◌, ◌≤◌}
use mathlib.Core.Path.{◌≡◌}
use Rattle.layout.proofs.Walking.{Walking}
use Rattle.tree.specs.At.{ExprAt, PartsAt, StmtsAt}
use Rattle.layout.specs.Layout as rules
use Rattle.image.specs.Bytes.{be32}
use Rattle.image.specs.Read.{stop_at}
use Rattle.ast.specs.Syntax.{Expr}
use Rattle.layout.specs.Forms.{stmts_from}
use Rattle.layout.proofs.Operands.{Going}
use lib.ListN.{get_or}
use Rattle.acts.specs.Act.{Act}
use Rattle.acts.specs.Laid.{Room}
use Rattle.layout.specs.Chains.{Above, grown}
use Rattle.layout.proofs.+expr.Given as goal

abbrev pub decreases-access : goal.decreases-access
decreases-access l = 16 * be32 l.parsed.now.image.now l.at + 7

abbrev pub decreases-after : goal.decreases-after
decreases-after l = 16 * be32 l.parsed.now.image.now l.at + 10

abbrev pub decreases-if_else : goal.decreases-if_else
decreases-if_else l = 16 * be32 l.parsed.now.image.now l.at + 7

abbrev pub decreases-arm : goal.decreases-arm
decreases-arm l = 16 * be32 l.parsed.now.image.now l.at + 7

abbrev pub decreases-bind : goal.decreases-bind
decreases-bind l = 16 * be32 l.parsed.now.image.now l.at + 7

abbrev pub decreases-binop : goal.decreases-binop
decreases-binop l = 16 * be32 l.parsed.now.image.now l.at + 7

abbrev pub decreases-block : goal.decreases-block
decreases-block l = 16 * be32 l.parsed.now.image.now l.at + 6

abbrev pub decreases-call : goal.decreases-call
decreases-call l = 16 * be32 l.parsed.now.image.now l.at + 7

abbrev pub decreases-cond : goal.decreases-cond
decreases-cond l = 16 * (be32 l.parsed.now.image.now l.at + be32 l.parsed.now.image.now (stop_at l.parsed.now.image.now l.at)) + 11

abbrev pub decreases-each : goal.decreases-each
decreases-each l = 16 * be32 l.parsed.now.image.now l.at + 7

abbrev pub decreases-entry : goal.decreases-entry
decreases-entry l = 16 * be32 l.parsed.now.image.now l.at + 7

abbrev pub decreases-expr : goal.decreases-expr
decreases-expr l = 16 * be32 l.parsed.now.image.now l.at + 10

abbrev pub decreases-expr_with_precedence : goal.decreases-expr_with_precedence
decreases-expr_with_precedence l = 16 * be32 l.parsed.now.image.now l.at + 9

abbrev pub decreases-form : goal.decreases-form
decreases-form l = 16 * be32 l.parsed.now.image.now l.at + 8

abbrev pub decreases-fstr : goal.decreases-fstr
decreases-fstr l = 16 * be32 l.parsed.now.image.now l.at + 7

abbrev pub decreases-function_args : goal.decreases-function_args
decreases-function_args l = 16 * be32 l.parsed.now.image.now l.at + 5

abbrev pub decreases-last : goal.decreases-last
decreases-last l = 16 * be32 l.parsed.now.image.now l.at + 11

abbrev pub decreases-match_expr : goal.decreases-match_expr
decreases-match_expr l = 16 * be32 l.parsed.now.image.now l.at + 7

abbrev pub decreases-maybe : goal.decreases-maybe
decreases-maybe l = 16 * be32 l.parsed.now.image.now l.at + 11

abbrev pub decreases-par : goal.decreases-par
decreases-par l = 16 * be32 l.parsed.now.image.now l.at + 7

abbrev pub decreases-part : goal.decreases-part
decreases-part l = 16 * be32 l.parsed.now.image.now l.at + 7

abbrev pub decreases-parts : goal.decreases-parts
decreases-parts l = 16 * (l.to - l.from) + 2

abbrev pub decreases-record : goal.decreases-record
decreases-record l = 16 * be32 l.parsed.now.image.now l.at + 5

abbrev pub decreases-ret : goal.decreases-ret
decreases-ret l = 16 * be32 l.parsed.now.image.now l.at + 7

abbrev pub decreases-stmt : goal.decreases-stmt
decreases-stmt l = 16 * be32 l.parsed.now.image.now l.at + 8

abbrev pub decreases-stmts : goal.decreases-stmts
decreases-stmts l = 16 * (l.to - l.from) + 2

abbrev pub decreases-tail : goal.decreases-tail
decreases-tail l = 16 * be32 l.parsed.now.image.now l.at + 6

abbrev pub invariant-parts-loop-at : goal.invariant-parts-loop-at
invariant-parts-loop-at l =
    Walking PartsAt rules.parts_rule rules.parts_rule l.parsed l.from l.to l.at-iterator l.initial.state l.state

abbrev pub invariant-stmts-loop-at : goal.invariant-stmts-loop-at
invariant-stmts-loop-at l =
    Walking StmtsAt (stmts_from l.initial.first) (stmts_from l.first) l.parsed l.from l.to l.at-iterator l.initial.state l.state

abbrev pub invariant-tail-loop-n : goal.invariant-tail-loop-n
invariant-tail-loop-n l =
    let s = l.parsed.source.now in
    let b = l.parsed.image.now in
    (l.state.store.ghost_name ≡ l.initial.state.store.ghost_name)
    × (l.n ≤ 64)
    × ((i : ℕ) → i < l.n → get_or l.ops i 0 ≡ l.at + 13 * i)
    × ((e : Expr) × ExprAt s b e l.at × (q : ℕ) × (x : Expr) × Above q s b e l.at (l.at + 13 * l.n) x)
    × ((q : ℕ) (e : Expr) → ExprAt s b e l.at → (x : Expr) (a : Above q s b e l.at l.left x) (h : Act)
    → Room (grown a (rules.leftmost h)).ops l.initial.state.cursor
    → Going q s b e l.at (l.at + 13 * l.n) l.first (grown a (rules.leftmost h)) l.initial.state.store.now l.initial.state.cursor
    l.state.store.now l.state.cursor)

abbrev pub decreases-list : goal.decreases-list
decreases-list l = 16 * be32 l.parsed.now.image.now l.at + 7

abbrev pub decreases-grouped : goal.decreases-grouped
decreases-grouped l = 16 * be32 l.parsed.now.image.now l.at + 12

abbrev pub decreases-list-element : goal.decreases-list-element
decreases-list-element l = 16 * be32 l.parsed.now.image.now l.p + 13

abbrev pub decreases-match_expr-one_arm : goal.decreases-match_expr-one_arm
decreases-match_expr-one_arm l = 16 * be32 l.parsed.now.image.now l.q + 12

abbrev pub decreases-function_args-argument : goal.decreases-function_args-argument
decreases-function_args-argument l = 16 * be32 l.parsed.now.image.now l.p + 12

abbrev pub decreases-record-named : goal.decreases-record-named
decreases-record-named l = 16 * be32 l.parsed.now.image.now l.p + 12
