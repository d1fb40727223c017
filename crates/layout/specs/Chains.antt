-- The contracts of `binop`'s code: a chain of operators of one precedence, from its top down to the leftmost operand.
use Rattle.std.specs.Prelude.{◌≡◌, List, ℕ, ◌+◌, ◌*◌, ◌≤◌, ◌<◌, get_or, length}
use Rattle.image.specs.Read.{stop_at}
use Rattle.ast.specs.Syntax.{Span, Expr, expr, bin_op}
use Rattle.tree.specs.At.{ExprAt}
use Rattle.acts.specs.Act.{Act}
use Rattle.acts.specs.Laid.{Room, Laid}
use Rattle.acts.specs.declared.Cursor.{Cursor}
use Rattle.acts.specs.declared.State.{State}
use Rattle.comments.specs.Record.{InImage}
use Rattle.comments.specs.Listed.{given}
use Rattle.comments.specs.declared.parsed.Parsed.{Parsed}
use Rattle.layout.specs.Layout.{Operands, leftmost, popped, binop_precedence, operands}
use Rattle.layout.specs.Promises.{Readable}
use Rattle.layout.specs.Forms.{four, Of, expr_with}

-- x at p is below the top e at `at`, by left operands of operators of precedence q
pub data Above (q : ℕ) (s b : List ℕ) (e : Expr) (at : ℕ) : ℕ → Expr → Type 0 where
  top : Above q s b e at at e
  up : {p p' o : ℕ} {x r : Expr} {m t : Span} → p' ≡ p + 13 → binop_precedence o ≡ q → ExprAt s b (expr m (bin_op x t o r)) p
      → Above q s b e at p (expr m (bin_op x t o r)) → Above q s b e at p' x

-- a chain, with the operators above x put to it
unfoldable pub grown : {q : ℕ} {s b : List ℕ} {e : Expr} {at p : ℕ} {x : Expr} → Above q s b e at p x → Operands → Operands
grown top c = c
grown {s = s} {b = b} (up {o = o} {r = r} {t = t} i j k a) c = grown a (popped (given s b) c t o (expr_with 0 (given s b) r))

-- the operand at `left` starts the chain of e
pub record Starts (q : ℕ) (s b : List ℕ) (e : Expr) (at left : ℕ) : Type 0 where
  pub tree : Expr
  pub above : Above q s b e at left tree
  pub held : ExprAt s b tree left
  pub stop : operands (given s b) q tree ≡ leftmost (expr_with q (given s b) tree)

-- the operators' offsets, the top first
pub record Filled (ops : List ℕ) (at left : ℕ) : Type 0 where
  pub count : ℕ
  pub far : left ≡ at + 13 * count
  pub few : count ≤ 64
  pub each : (i : ℕ) → i < count → get_or ops i 0 ≡ at + 13 * i

-- the number of the operator between the operands of the record at `at`
abbrev pub operator_of : List ℕ → ℕ → ℕ
operator_of b at = get_or b (stop_at b (at + 13) + 13) 0

-- it stands in the image, and is one of the first n
pub record HasOperator (b : List ℕ) (at n : ℕ) : Type 0 where
  pub in_image : InImage b (at + 13)
  pub in_bounds : stop_at b (at + 13) + 14 ≤ length b
  pub known : operator_of b at < n

-- an operator of precedence q at `at`
pub record HasChain (b : List ℕ) (at q : ℕ) : Type 0 where
  pub source : List ℕ
  pub tree : Span × (Expr × Span × ℕ × Expr)
  pub held : Of (four bin_op) source b tree at
  pub same : binop_precedence tree.1.2 ≡ q

pub record Leftmost (b : List ℕ) (at q : ℕ) (ops : List ℕ) (left : ℕ) : Type 0 where
  pub filled : Filled ops at left
  pub further : at + 13 ≤ left
  pub of : (s : List ℕ) (t : Span × (Expr × Span × ℕ × Expr)) → Of (four bin_op) s b t at → binop_precedence t.1.2 ≡ q
      → Starts q s b (expr t.0 (four bin_op t.1)) at left

-- the operators above the operand at `left`, and room for what follows that operand, which `head` lays
pub record HasTailIn (s b : List ℕ) (at left : ℕ) (ops : List ℕ) (c : Cursor) : Type 0 where
  pub accepted : Readable b
  pub tree : Expr
  pub held : ExprAt s b tree at
  pub precedence : ℕ
  pub low : Expr
  pub above : Above precedence s b tree at left low
  pub filled : Filled ops at left
  pub head : Act
  pub room : Room (grown above (leftmost head)).ops c

abbrev pub HasTail : Parsed → ℕ → ℕ → List ℕ → Cursor → Type 0
HasTail p at left ops c = HasTailIn p.source.now p.image.now at left ops c

pub record LaidTail (p : Parsed) (at left : ℕ) (ops : List ℕ) (x y : State) : Type 0 where
  pub of : (h : HasTail p at left ops x.cursor) → Laid (grown h.above (leftmost h.head)).ops x.store.now x.cursor y.store.now y.cursor
  pub same : y.store.ghost_name ≡ x.store.ghost_name
