-- The rule for an operator is the Rust's: the operators that the first loop pushes are popped in the order of the rule.
-- Assumes nothing.
use Prim.Native.Nat.{ℕ, ◌+◌}
use mathlib.Core.Path.{◌≡◌, refl, ap, ap₂, sym, ◌∙◌}
use mathlib.Core.Bool.{Bool, true, false, cond}
use mathlib.Core.List.{List, [], ◌∷◌}
use native.Mathlib.Omega.{arith}
use native.Mathlib.Nat.{add-zero}
use lib.Dec.{eqb}
use Rattle.ast.specs.Syntax.{Span, Expr, expr, Form, return', literal, block, match', function_call, access, path, record', typed_record, list, not'}
use Rattle.ast.specs.Syntax.{assign, compound_assign, bin_op, negate, if_else, while, for, question_mark, f_string, parentheses}
use Rattle.rows.specs.Node.{Nodes, none, ◌then◌, join, line_or_space}
use Rattle.acts.specs.Act.{Given, St, Out, Act, ◌⨟◌, skip, push, grouped, indented}
use Rattle.acts.proofs.Laws.{then_assoc}
use Rattle.layout.specs.Layout.{Operands, binop_precedence, operator, leftmost, binop, popped, operands}
use Rattle.layout.specs.Layout.{operands_form, expr_with_precedence, expr_form, expr_rule}
use Rattle.layout_facts.specs.Binop.{Pushed, pushed, Descent, descent, descend, descend_form, pop_ops, binop_of_rust, BinopAsRust}

join_none : (ns : Nodes) → join ns none ≡ ns
unfolding join
join_none none = refl
join_none (n then ns) = ap (λ (x : Nodes). n then x) (join_none ns)

-- steps as functions
assoc : (a b d : Act) → ((a ⨟ b) ⨟ d) ≡ (a ⨟ b ⨟ d)
assoc a b d = λ i s. then_assoc a b d s i

out : (ns ms : Nodes) (m n p k : ℕ) → ns ≡ ms → m ≡ n
    → ◌≡◌ {A = Out} (record { nodes = ns; taken = m; pos = p; placed = k }) (record { nodes = ms; taken = n; pos = p; placed = k })
out ns ms m n p k e f = ap₂ (λ (x : Nodes) (t : ℕ). record { nodes = x; taken = t; pos = p; placed = k }) e f

then_skip : (a : Act) → (a ⨟ skip) ≡ a
unfolding ◌⨟◌
then_skip a = λ i s. out (join (a s).nodes none) (a s).nodes ((a s).taken + 0) (a s).taken (a s).pos (a s).placed (join_none (a s).nodes) (omega arith) i

skip_at : (a : Act) (s : St) → (skip ⨟ a) s ≡ a s
unfolding ◌⨟◌ join
skip_at a s = rw (add-zero s.number) (out (a s).nodes (a s).nodes (0 + (a s).taken) (a s).taken (a s).pos (a s).placed refl (omega arith))

skip_then : (a : Act) → (skip ⨟ a) ≡ a
skip_then a = λ i s. skip_at a s i

module _ (g : Given) where
  -- the operators of a stack, laid after those before them
  abbrev pop_all : List Pushed → Operands → Operands
  pop_all [] c = c
  pop_all (x ∷ ops) c = pop_all ops (popped g c x.span x.op (expr_rule g x.right))

  keeps_left : (ops : List Pushed) (c : Operands) → (pop_all ops c).left ≡ c.left
  keeps_left [] c = refl
  keeps_left (x ∷ ops) c = keeps_left ops (popped g c x.span x.op (expr_rule g x.right))

  pops_in_order : (ops : List Pushed) (c : Operands) → (pop_all ops c).ops ≡ (c.ops ⨟ pop_ops g c.first ops)
  unfolding pop_ops
  pops_in_order [] c = sym (then_skip c.ops)
  pops_in_order (x ∷ ops) c =
      pops_in_order ops (popped g c x.span x.op (expr_rule g x.right))
      ∙ assoc c.ops (operator g c.first x.span x.op ⨟ expr_rule g x.right) (pop_ops g false ops)
      ∙ ap (λ (a : Act). c.ops ⨟ a) (assoc (operator g c.first x.span x.op) (expr_rule g x.right) (pop_ops g false ops))

  -- what is laid where the first loop broke
  abbrev laid_from : ℕ → Descent → Operands
  laid_from q d = pop_all d.ops (leftmost (expr_with_precedence g d.left q))

  pick : (t : Bool) (ops : List Pushed) (q : ℕ) (a b : Operands) (c d : Descent) → pop_all ops a ≡ laid_from q c → pop_all ops b ≡ laid_from q d
      → pop_all ops (cond t a b) ≡ laid_from q (cond t c d)
  pick true ops q a b c d e f = e
  pick false ops q a b c d e f = f

  mutual
    unfolding operands operands_form expr_with_precedence descend descend_form

    descends : (q : ℕ) (e : Expr) (ops : List Pushed) → pop_all ops (operands g q e) ≡ laid_from q (descend q e ops)
    descends q (expr s f) ops = descends_form q s f ops

    descends_form : (q : ℕ) (s : Span) (f : Form) (ops : List Pushed)
        → pop_all ops (operands_form g q f (expr_with_precedence g (expr s f) q)) ≡ laid_from q (descend_form q f ops (descent (expr s f) ops))
    descends_form q s (bin_op l t op r) ops = pick (eqb (binop_precedence op) q) ops q _ _ _ _ (descends q l (pushed t op r ∷ ops)) refl
    descends_form q t (return' kind e) ops = refl
    descends_form q t (literal s which) ops = refl
    descends_form q t (block b) ops = refl
    descends_form q t (match' e s arms) ops = refl
    descends_form q t (function_call e s es) ops = refl
    descends_form q t (access e i) ops = refl
    descends_form q t (path p) ops = refl
    descends_form q t (record' s es) ops = refl
    descends_form q t (typed_record p s es) ops = refl
    descends_form q t (list es) ops = refl
    descends_form q t (not' e) ops = refl
    descends_form q t (assign p e) ops = refl
    descends_form q t (compound_assign p op e) ops = refl
    descends_form q t (negate e) ops = refl
    descends_form q t (if_else c b e) ops = refl
    descends_form q t (while c b) ops = refl
    descends_form q t (for i e b) ops = refl
    descends_form q t (question_mark e) ops = refl
    descends_form q t (f_string ps) ops = refl
    descends_form q t (parentheses e) ops = refl

pub binop_as_rust : BinopAsRust
unfolding expr_form binop binop_of_rust
binop_as_rust g span s left right op outer =
    ap binop (descends g (binop_precedence op) left (pushed s op right ∷ []))
    ∙ laid (descend (binop_precedence op) left (pushed s op right ∷ []))
  where
    laid : (d : Descent) → binop (laid_from g (binop_precedence op) d)
        ≡ grouped (λ id. expr_with_precedence g d.left (binop_precedence op) ⨟ push line_or_space ⨟ indented (pop_ops g true d.ops))
    laid d =
        let c : Operands = leftmost (expr_with_precedence g d.left (binop_precedence op)) in
        ap₂ (λ (a b : Act). grouped (λ id. a ⨟ push line_or_space ⨟ indented b))
        (keeps_left g d.ops c)
        (pops_in_order g d.ops c ∙ skip_then (pop_ops g true d.ops))
