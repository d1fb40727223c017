-- Every part of the syntax tree stands at a record within the image, or at the absence of one.
-- Assumes nothing.
use mathlib.Core.Path.{◌≡◌, sym, ◌∙◌}
use mathlib.Core.Bool.{Bool, true, false}
use mathlib.Core.List.{List}
use Rattle.std.specs.Prelude.{Option, None, Some}
use Prim.Native.Nat.{ℕ, ◌+◌}
use native.Mathlib.Omega.{arith}
use lib.Dec.{eqb}
use borrow.Author.Tests.{eqb-true, eqb-false}
use Rattle.image.specs.Bytes.{be32}
use Rattle.ast.specs.Syntax.{Span, Ident, Path, TypeExpr, type, TypeArgs, no_args, args, Import, import, ImportGroup, no_group, group, Idents, Expr, expr}
use Rattle.ast.specs.Syntax.{Block, braces, Stmt, stmt, MaybeExpr, no_expr, some_expr, MaybeBlock, no_block}
use Rattle.ast.specs.Syntax.{some_block}
use Rattle.tree.specs.At.{Head, Absent, IdentAt, PathAt, Maybe, TypeAt, TypeArgsAt, ImportAt, ImportGroupAt}
use Rattle.tree.specs.At.{ListAt, ExprAt, BlockAt, StmtAt, MaybeExprAt, MaybeBlockAt}
use Rattle.layout.specs.Layout.{import_span}
use Rattle.comments.specs.Record.{InImage, Whole}

-- what the test for absence says of the length
pub absent : {r : Bool} {n : ℕ} → r ≡ eqb n 0 → r ≡ true → n ≡ 0
absent {n = n} p q = eqb-true n 0 (sym p ∙ q)

pub present : {r : Bool} {n : ℕ} → r ≡ eqb n 0 → r ≡ false → n ≡ 0 → ⊥
present {n = n} p q = eqb-false n 0 (sym p ∙ q)

pub within : {b : List ℕ} {at : ℕ} → Whole b at → InImage b at
within w = record { fits = w.fits }

absent_within : {b : List ℕ} {at : ℕ} → Absent b at → InImage b at
absent_within a = record { fits = omega (arith, a.zero, a.fits) }

module _ {s b : List ℕ} {at : ℕ} where
  pub head_whole : {k : ℕ} {p : Span} → Head s b k p at → Whole b at
  head_whole h = record { long = h.long; fits = h.fits }

  pub ident_whole : {i : Ident} → IdentAt s b i at → Whole b at
  ident_whole a = head_whole a.head

  pub path_whole : {p : Path} → PathAt s b p at → Whole b at
  path_whole a = head_whole a.head.head

module _ (s b : List ℕ) (at : ℕ) where
  pub type_whole : (t : TypeExpr) → TypeAt s b t at → Whole b at
  unfolding TypeAt
  type_whole (type p f) a = head_whole a.0

  pub import_whole : (i : Import) → ImportAt s b i at → Whole b at
  unfolding ImportAt
  import_whole (import p q g) a = head_whole a.0

  pub expr_whole : (e : Expr) → ExprAt s b e at → Whole b at
  unfolding ExprAt
  expr_whole (expr p f) a = head_whole a.0

  pub block_whole : (k : Block) → BlockAt s b k at → Whole b at
  unfolding BlockAt
  block_whole (braces p ss last) a = head_whole a.0

  pub stmt_whole : (x : Stmt) → StmtAt s b x at → Whole b at
  unfolding StmtAt
  stmt_whole (stmt p f) a = head_whole a.0

  -- optional parts
  pub maybe_expr_lem : (m : MaybeExpr) → MaybeExprAt s b m at → InImage b at
  unfolding MaybeExprAt
  maybe_expr_lem no_expr a = absent_within a
  maybe_expr_lem (some_expr e) a = within (expr_whole e a)

  pub maybe_block_lem : (m : MaybeBlock) → MaybeBlockAt s b m at → InImage b at
  unfolding MaybeBlockAt
  maybe_block_lem no_block a = absent_within a
  maybe_block_lem (some_block k) a = within (block_whole k a)

  pub maybe_type : (m : Option TypeExpr) → Maybe s b (TypeAt s b) m at → InImage b at
  unfolding Maybe
  maybe_type None a = absent_within a
  maybe_type (Some t) a = within (type_whole t a)

  pub maybe_list : (m : Option Idents) → Maybe s b (ListAt s b) m at → InImage b at
  unfolding Maybe
  maybe_list None a = absent_within a
  maybe_list (Some is) a = within (head_whole a.head)

  pub maybe_path : (q : Option Path) → Maybe s b (PathAt s b) q at → InImage b at
  unfolding Maybe
  maybe_path None a = absent_within a
  maybe_path (Some p) a = within (path_whole a)

  pub args_within : (a : TypeArgs) → TypeArgsAt s b a at → InImage b at
  unfolding TypeArgsAt
  args_within no_args a = absent_within a
  args_within (args p ts) a = within (head_whole a.0)

  pub group_within : (g : ImportGroup) → ImportGroupAt s b g at → InImage b at
  unfolding ImportGroupAt
  group_within no_group a = absent_within a
  group_within (group p is) a = within (head_whole a.0)

  pub maybe_ident : (m : Option Ident) → Maybe s b (IdentAt s b) m at → InImage b at
  unfolding Maybe
  maybe_ident None a = absent_within a
  maybe_ident (Some i) a = within (ident_whole a)

  -- where the span of an import starts
  pub import_start : (i : Import) → ImportAt s b i at → be32 b (at + 5) ≡ (import_span i).start
  unfolding ImportAt
  import_start (import p q g) a = a.0.start
