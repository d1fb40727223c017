-- `binop` as fmt.rs has it: two loops over a stack of operators. The rule for it in layout/specs/Layout.antt is in another form, since a rule recurs on
-- parts of the tree alone; here it is claimed that the two are equal. proofs/Binop.antt proves it.
use Rattle.std.specs.Prelude.{ℕ, ◌≡◌, Bool, true, false, cond, List, [], ◌∷◌, eqb}
use Rattle.ast.specs.Syntax.{Span, Expr, expr, Form, return', literal, block, match', function_call, access, path, record', typed_record, list, not'}
use Rattle.ast.specs.Syntax.{assign, compound_assign, bin_op, negate, if_else, while, for, question_mark, f_string, parentheses}
use Rattle.rows.specs.Node.{line_or_space}
use Rattle.acts.specs.Act.{Given, Act, ◌⨟◌, skip, push, grouped, indented}
use Rattle.layout.specs.Layout.{binop_precedence, operator, expr_with_precedence, expr_form, expr_rule}

-- an operator on the stack, and its right operand
pub record Pushed : Type 0 where
  pub span : Span
  pub op : ℕ
  pub right : Expr

abbrev pub pushed : Span → ℕ → Expr → Pushed
pushed s op right = record { span = s; op = op; right = right }

-- where the first loop breaks: `left`, and the stack, its top first
pub record Descent : Type 0 where
  pub left : Expr
  pub ops : List Pushed

abbrev pub descent : Expr → List Pushed → Descent
descent left ops = record { left = left; ops = ops }

-- the first loop: while `left` is an operator of this precedence, it is pushed, and its left operand is `left`
unfoldable mutual
  pub descend : ℕ → Expr → List Pushed → Descent
  descend precedence (expr s f) ops = descend_form precedence f ops (descent (expr s f) ops)

  pub descend_form : ℕ → Form → List Pushed → Descent → Descent
  descend_form precedence (bin_op l s op r) ops break =
      cond (eqb (binop_precedence op) precedence) (descend precedence l (pushed s op r ∷ ops)) break
  descend_form precedence (return' kind e) ops break = break
  descend_form precedence (literal s which) ops break = break
  descend_form precedence (block b) ops break = break
  descend_form precedence (match' e s arms) ops break = break
  descend_form precedence (function_call e s es) ops break = break
  descend_form precedence (access e i) ops break = break
  descend_form precedence (path p) ops break = break
  descend_form precedence (record' s es) ops break = break
  descend_form precedence (typed_record p s es) ops break = break
  descend_form precedence (list es) ops break = break
  descend_form precedence (not' e) ops break = break
  descend_form precedence (assign p e) ops break = break
  descend_form precedence (compound_assign p op e) ops break = break
  descend_form precedence (negate e) ops break = break
  descend_form precedence (if_else c b e) ops break = break
  descend_form precedence (while c b) ops break = break
  descend_form precedence (for i e b) ops break = break
  descend_form precedence (question_mark e) ops break = break
  descend_form precedence (f_string ps) ops break = break
  descend_form precedence (parentheses e) ops break = break

module _ (g : Given) where
  -- the second loop: the operators are popped, each with its right operand
  unfoldable pub pop_ops : Bool → List Pushed → Act
  pop_ops first [] = skip
  pop_ops first (x ∷ ops) = operator g first x.span x.op ⨟ expr_rule g x.right ⨟ pop_ops false ops

  unfoldable pub binop_of_rust : Expr → Span → ℕ → Expr → Act
  binop_of_rust left s op right =
      let precedence : ℕ = binop_precedence op in
      let d : Descent = descend precedence left (pushed s op right ∷ []) in
      grouped (λ id. expr_with_precedence g d.left precedence ⨟ push line_or_space ⨟ indented (pop_ops true d.ops))

-- the rule for an operator is the Rust's
abbrev pub BinopAsRust : Type 0
BinopAsRust =
    (g : Given) (span s : Span) (left right : Expr) (op outer : ℕ) → expr_form g span (bin_op left s op right) outer ≡ binop_of_rust g left s op right
