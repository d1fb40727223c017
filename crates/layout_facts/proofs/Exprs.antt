-- Expressions, blocks and statements are laid soundly: a part takes no more rows than its record's bytes give, and goes two rows deeper with
-- each record.
-- Assumes nothing.
use Prim.Native.Nat.{ℕ, zero, suc, ◌+◌, ◌*◌, ◌-◌, ◌≤◌, max, ◌<◌}
use Prim.Native.String.{String}
use mathlib.Core.Path.{◌≡◌, refl}
use mathlib.Core.Bool.{Bool, true, false, cond, not, ◌&&◌}
use mathlib.Core.List.{List, [], ◌∷◌}
use Rattle.std.specs.Prelude.{None as nothing, Some}
use native.Mathlib.Omega.{arith}
use lib.ListN.{length, get_or}
use lib.Dec.{ltb, eqb}
use Rattle.laws.proofs.Booleans.{and_left, and_right}
use Rattle.text.proofs.Counts.{range_start}
use Rattle.text.proofs.Cuts.{uncut}
use Rattle.image.specs.Bytes.{be32}
use Rattle.ast.specs.Syntax.{Span, Expr, expr, Form, return', literal, block, match', function_call, access, path, record', typed_record, list, not'}
use Rattle.ast.specs.Syntax.{assign, compound_assign, bin_op, negate, if_else, while, for, question_mark, f_string, parentheses, Exprs, no_exprs, ◌∷ᵉ◌}
use Rattle.ast.specs.Syntax.{MaybeExpr, no_expr, some_expr, Entries, no_entries, entry, Arms, no_arms, arm, Parts, no_parts, string, value, Block, braces}
use Rattle.ast.specs.Syntax.{MaybeBlock, no_block, some_block, Stmts, no_stmts, ◌∷ˢ◌, Stmt, stmt, StmtForm, let', import_stmt, does}
use Rattle.tree.specs.At.{past, Maybe, ExprAt, FormAt, ExprsAt, MaybeExprAt, EntriesAt, ArmsAt, PartsAt, BlockAt, MaybeBlockAt, StmtsAt, StmtAt}
use Rattle.tree.specs.At.{StmtFormAt}
use Rattle.rows.specs.Node.{ascii}
use Rattle.rows.specs.Words.{among, is_word}
use Rattle.acts.specs.Act.{Given, Act, ◌⨟◌, push, grouped, content, indented_next, called}
use Rattle.comments.specs.Comments.{whitespace, pop_whitespace, pop_trailing_comment}
use Rattle.layout.specs.declared.forms.WrapStyle.TheVariants.{Tight, Spaced, Wrap}
use Rattle.layout.specs.Layout.{operator, maybe_expr, placeholder, clause, block_start, before_stmt, after_stmt, leftmost, popped, Operands, Bottom}
use Rattle.layout.specs.Layout.{Chain, Unit', binop_precedence, symbol, assign_symbol, return_word, binop, literal_rule, expr_with_precedence}
use Rattle.layout.specs.Layout.{expr_form, operands, operands_form, otherwise, expr_elems, grouped_elems, entry_elems, arm_elems, parts_rule, block_rule}
use Rattle.layout.specs.Layout.{stmts_rule, last_rule, stmt_rule, stmt_form, expr_span, stmt_span, none_of, is_empty, is_block, is_braced}
use Rattle.layout_facts.specs.Sound.{Ranged, Commented, BYTE_GIVES, ROW_TAKES, Sounds}
use Rattle.layout_facts.specs.Height.{expr_height, form_height, exprs_height, maybe_height, entries_height, arms_height, parts_height, block_height}
use Rattle.layout_facts.specs.Height.{maybe_block_height, stmts_height, stmt_height, stmt_form_height}
use Rattle.layout_facts.proofs.Steps.{◌⨾◌, deeper, fewer, sound_skip, sound_line, sound_line_or_space, sound_wrap_parent, sound_ascii, sound_when}
use Rattle.layout_facts.proofs.Steps.{sound_cond, sound_grouped, sound_indented, sound_indented_next, sound_called, sound_asks}
use Rattle.layout_facts.proofs.Gaps.{sound_gap, sound_trailing}
use Rattle.layout_facts.proofs.Parts.{Fits, no_word, sound_says, ranged, from_start, sound_ident, points, points_most, points_left, leaving}
use Rattle.layout_facts.proofs.Parts.{All, none, also, sound_separated, sound_path, sound_type, range_formed, sound_import, sound_pattern}

-- ---- the words chosen by a number: each of a list fits, and so does the one that stands for none
abbrev all_fit : List String → Bool
all_fit [] = is_word ""
all_fit (w ∷ ws) = is_word w && all_fit ws

chosen_fits : (ws : List String) (n : ℕ) → all_fit ws ≡ true → Fits (get_or ws n "")
chosen_fits [] n e = e
chosen_fits (w ∷ ws) zero e = and_left _ (all_fit ws) e
chosen_fits (w ∷ ws) (suc n) e = chosen_fits ws n (and_right (is_word w) (all_fit ws) e)

symbol_fits : (op : ℕ) → Fits (symbol op)
unfolding among
symbol_fits op =
    chosen_fits ("&&" ∷ "||" ∷ "==" ∷ "!=" ∷ "<" ∷ "<=" ∷ ">" ∷ ">=" ∷ "+" ∷ "-" ∷ "*" ∷ "/" ∷ "%" ∷ "**" ∷ []) op refl

assign_fits : (op : ℕ) → Fits (assign_symbol op)
unfolding among
assign_fits op = chosen_fits (" += " ∷ " -= " ∷ " *= " ∷ " /= " ∷ " %= " ∷ []) op refl

return_fits : (kind : ℕ) → Fits (return_word kind)
unfolding among
return_fits kind = chosen_fits ("return" ∷ "accept" ∷ "reject" ∷ []) kind refl

module _ {g : Given} (commented : Commented g) where
  -- ---- operators
  record SoundOperands (n d : ℕ) (c : Operands) : Type 0 where
    first : ℕ
    rest : ℕ
    left : Sounds g first d c.left
    ops : Sounds g rest d c.ops
    both : first + rest ≤ n

  -- an expression by itself, and as the left operand of an operator, by the precedence around it
  record SoundForm (n d : ℕ) (whole : ℕ → Act) (operand : ℕ → Operands) : Type 0 where
    form : (p : ℕ) → Sounds g n d (whole p)
    under : (p : ℕ) → SoundOperands n d (operand p)

  sound_content : {d : ℕ} {p : Span} → Ranged g.source p → Sounds g ROW_TAKES d (push (ascii (content p)))
  sound_content {p = p} r =
      sound_ascii
      (record {
        origin = omega arith;
        fits = omega (arith, r.ordered, r.fits);
        due = no_word (omega arith);
        formed = range_formed g.source p.start p.end commented.formed r.range;
        uncut = uncut g.source p.start (range_start g.source p.start p.end r.range);
      })

  sound_operator : {d : ℕ} (first : Bool) (s : Span) (op : ℕ) → s.start ≤ length g.source → Sounds g (3 * ROW_TAKES) d (operator g first s op)
  unfolding operator among
  sound_operator first s op h =
      sound_asks (pop_whitespace g s.start true true false) (sound_gap commented s.start true true false h)
      (λ gap. sound_when (not first && not (whitespace gap)) sound_line_or_space)
      ⨾ sound_says (symbol op) (symbol_fits op)
      ⨾ sound_says " " refl

  -- an expression takes no rows for the comment after it but those of the comment
  sound_whole : {a : Act} {n d : ℕ} → Sounds g n d a → Sounds g n d (a ⨟ pop_trailing_comment g)
  sound_whole p = fewer (p ⨾ sound_trailing commented) (omega arith)

  sound_leftmost : {a : Act} {n d : ℕ} → Sounds g n d a → SoundOperands n d (leftmost a)
  sound_leftmost {n = n} p = record { first = n; rest = 0; left = p; ops = sound_skip; both = omega arith }

  -- an expression that is no binary operator
  sound_no_op : {a : ℕ → Act} {n d : ℕ} → ((p : ℕ) → Sounds g n d (a p)) → SoundForm n d a (λ p. leftmost (a p ⨟ pop_trailing_comment g))
  sound_no_op p = record { form = p; under = λ q. sound_leftmost (sound_whole (p q)) }

  sound_popped : (c : Operands) (s : Span) (op : ℕ) {a : Act} {m n d : ℕ} → s.start ≤ length g.source → SoundOperands m d c → Sounds g n d a
      → SoundOperands (m + (3 * ROW_TAKES + n)) d (popped g c s op a)
  sound_popped c s op {n = n} h p q =
      record {
        first = p.first;
        rest = p.rest + (3 * ROW_TAKES + n);
        left = p.left;
        ops = p.ops ⨾ sound_operator c.first s op h ⨾ q;
        both = omega (arith, p.both);
      }

  sound_binop : (c : Operands) {n e d : ℕ} → e + 2 ≤ d → SoundOperands n e c → Sounds g (3 * ROW_TAKES + n) d (binop c)
  unfolding binop
  sound_binop c {n} {e} {d} h p =
      fewer
      (sound_grouped {c = e + 1} (omega arith)
      (λ id. deeper p.left (omega arith) ⨾ sound_line_or_space ⨾ sound_indented {c = e} (omega arith) p.ops))
      (omega (arith, p.both))

  sound_pick : (t : Bool) {a b : Operands} {m n d : ℕ} → SoundOperands m d a → SoundOperands n d b → m ≤ n → SoundOperands n d (cond t a b)
  sound_pick true p q h =
      record { first = p.first; rest = p.rest; left = p.left; ops = p.ops; both = omega (arith, p.both) }
  sound_pick false p q h = q

  -- ---- literals
  sound_literal : (n : ℕ) {d : ℕ} (s : Span) → Ranged g.source s → Sounds g ROW_TAKES d (literal_rule g s n)
  unfolding literal_rule among
  sound_literal zero s r = sound_gap commented s.end true true false r.fits ⨾ sound_content r
  sound_literal (suc zero) s r = sound_gap commented s.end true true false r.fits ⨾ sound_says "true" refl
  sound_literal (suc (suc zero)) s r = sound_gap commented s.end true true false r.fits ⨾ sound_says "false" refl
  sound_literal (suc (suc (suc zero))) s r = sound_gap commented s.end true true false r.fits ⨾ sound_says "()" refl
  sound_literal (suc (suc (suc (suc n)))) s r = fewer (sound_gap commented s.end true true false r.fits ⨾ sound_skip) (omega arith)

  -- ---- conditions, and what comes before and after a statement
  sound_clause : (w : String) → Fits w → {a b : Act} {m n e d : ℕ} → e + 2 ≤ d → Sounds g m e a → Sounds g n d b
      → Sounds g (4 * ROW_TAKES + (m + n)) d (clause w a b)
  unfolding clause among
  sound_clause w f {e = e} h p q =
      fewer
      (sound_says w f
      ⨾ sound_grouped {c = e + 1} (omega arith) (λ id. sound_indented {c = e} (omega arith) p)
      ⨾ sound_says " " refl
      ⨾ q)
      (omega arith)

  sound_before : {d : ℕ} (first : Bool) (p : ℕ) → p ≤ length g.source → Sounds g (2 * ROW_TAKES) d (before_stmt g first p)
  unfolding before_stmt
  sound_before first p h =
      sound_cond first (fewer (sound_gap commented p false true false h) (omega arith)) (sound_gap commented p true true true h) ⨾ sound_line

  sound_after : {d : ℕ} (p : ℕ) → p ≤ length g.source → Sounds g 0 d (after_stmt g p)
  unfolding after_stmt
  sound_after p h = sound_whole (sound_gap commented p false false false h)

  -- ---- a call and an access, with a node of their own or without
  sound_call : (p : ℕ) {e a : Act} {m n c d : ℕ} → c < d → Sounds g m c e → Sounds g n c a
      → Sounds g (2 * ROW_TAKES + (m + n)) d (cond (ltb p Chain) (called e a) (e ⨟ a))
  sound_call p h i j =
      sound_cond (ltb p Chain) (sound_called h i j) (fewer (deeper i (omega arith) ⨾ deeper j (omega arith)) (omega arith))

  sound_access : (p : ℕ) {a : Act} {n c d : ℕ} → c + 2 ≤ d → Sounds g n c a
      → Sounds g (2 * ROW_TAKES + n) d (cond (ltb p Chain) (grouped (λ id. indented_next a)) a)
  sound_access p {c = c} h i =
      sound_cond (ltb p Chain)
      (fewer (sound_grouped {c = c + 1} (omega arith) (λ id. sound_indented_next {c = c} (omega arith) i)) (omega arith))
      (fewer (deeper i (omega arith)) (omega arith))

  -- ---- where a record starts, and that there is one
  pub expr_ranged : (e : Expr) (at : ℕ) → ExprAt g.source g.image e at → Ranged g.source (expr_span e)
  unfolding ExprAt
  expr_ranged (expr s f) at a = ranged a.0

  expr_left : (e : Expr) (at : ℕ) → ExprAt g.source g.image e at → points g at 3 + ROW_TAKES * 3 ≡ BYTE_GIVES * (4 + be32 g.image at)
  unfolding ExprAt
  expr_left (expr s f) at a = points_left g at 3 (omega arith) a.0.long

  stmt_left : (x : Stmt) (at : ℕ) → StmtAt g.source g.image x at → points g at 2 + ROW_TAKES * 2 ≡ BYTE_GIVES * (4 + be32 g.image at)
  unfolding StmtAt
  stmt_left (stmt s f) at a = points_left g at 2 (omega arith) a.0.long

  stmt_ranged : (x : Stmt) (at : ℕ) → StmtAt g.source g.image x at → Ranged g.source (stmt_span x)
  unfolding StmtAt
  stmt_ranged (stmt s f) at a = ranged a.0

  height_least : (e : Expr) → 1 ≤ expr_height e
  unfolding expr_height
  height_least (expr s f) = omega arith

  mutual
    unfolding expr_with_precedence placeholder block_start ExprAt Maybe expr_height among

    sound_operands : (e : Expr) (at d p : ℕ) → ExprAt g.source g.image e at → 2 * expr_height e ≤ d
        → SoundOperands (points g at 3) d (operands g p e)
    sound_operands (expr s f) at d p a h = (sound_form f s at d (ranged a.0) a.0.long a.1 h).under p

    pub sound_expr : (e : Expr) (at : ℕ) {d : ℕ} (p : ℕ) → ExprAt g.source g.image e at → 2 * expr_height e ≤ d
        → Sounds g (points g at 3) d (expr_with_precedence g e p)
    sound_expr (expr s f) at {d} p a h = sound_whole ((sound_form f s at d (ranged a.0) a.0.long a.1 h).form p)

    sound_form : (f : Form) (s : Span) (at d : ℕ) → Ranged g.source s → 9 ≤ be32 g.image at → FormAt g.source g.image f at
        → 2 * (1 + form_height f) ≤ d → SoundForm (points g at 3) d (expr_form g s f) (λ p. operands_form g p f (expr_form g s f p ⨟ pop_trailing_comment g))
    sound_form (return' k e) s at d r l a h =
        sound_no_op (λ p. leaving at 3 (sound_says (return_word k) (return_fits k) ⨾ sound_maybe e " " refl (at + 14) a.2 (omega arith))
        (omega (arith, points_most g (at + 14) 3, a.3.same)))
    sound_form (literal t n) s at d r l a h =
        sound_no_op (λ p. leaving at 3 (sound_literal n t (ranged a.0.head)) (omega arith))
    sound_form (block b) s at d r l a h =
        sound_no_op (λ p. leaving at 3 (sound_block b (at + 13) a.0 (omega arith)) (omega (arith, points_most g (at + 13) 1, a.1.same)))
    sound_form (match' e t arms) s at d r l a h =
        let q : ℕ = past g.source g.image (at + 13) in
        sound_no_op (λ p.
        leaving at 3
        (sound_says "match " refl
        ⨾ sound_expr e (at + 13) Bottom a.0 (omega arith)
        ⨾ sound_says " " refl
        ⨾ sound_separated commented "{" "}" "" refl refl refl
        (all_arms arms (q + 13) (past g.source g.image q) {d = d - 2} a.2 (omega arith)) t (ranged a.1).fits Wrap (omega arith) (omega arith))
        (omega (arith, expr_left e (at + 13) a.0, a.1.long, a.3.same)))
    sound_form (function_call e t es) s at d r l a h =
        let q : ℕ = past g.source g.image (at + 13) in
        sound_no_op (λ p.
        leaving at 3
        (sound_call p {c = d - 1} (omega arith) (sound_expr e (at + 13) Chain a.0 (omega arith))
        (sound_separated commented "(" ")" "," refl refl refl
        (all_exprs es (q + 13) (past g.source g.image q) {d = d - 3} a.2 (omega arith)) t (ranged a.1).fits Tight (omega arith) (omega arith)))
        (omega (arith, expr_left e (at + 13) a.0, a.1.long, a.3.same)))
    sound_form (access e i) s at d r l a h =
        sound_no_op (λ p.
        leaving at 3
        (sound_access p {c = d - 2} (omega arith)
        (sound_expr e (at + 13) Chain a.0 (omega arith) ⨾ sound_line ⨾ sound_says "." refl ⨾ sound_ident a.1))
        (omega (arith, points_most g (at + 13) 3, a.2.same, a.1.head.long)))
    sound_form (path q) s at d r l a h =
        sound_no_op
        (λ p. leaving at 3 (sound_path commented q (at + 13) (ltb p Chain) true (omega arith) a.0) (omega (arith, points_most g (at + 13) 3, a.1.same)))
    sound_form (record' t es) s at d r l a h =
        sound_no_op (λ p.
        leaving at 3
        (sound_separated commented "{" "}" "," refl refl refl
        (all_entries es (at + 13 + 13) (past g.source g.image (at + 13)) {d = d - 2} a.1 (omega arith)) t (ranged a.0).fits Spaced
        (omega arith) (omega arith))
        (omega (arith, a.0.long, a.2.same)))
    sound_form (typed_record q t es) s at d r l a h =
        let v : ℕ = past g.source g.image (at + 13) in
        sound_no_op (λ p.
        leaving at 3
        (sound_path commented q (at + 13) true true (omega arith) a.0
        ⨾ sound_says " " refl
        ⨾ sound_separated commented "{" "}" "," refl refl refl
        (all_entries es (v + 13) (past g.source g.image v) {d = d - 2} a.2 (omega arith)) t (ranged a.1).fits Spaced
        (omega arith) (omega arith))
        (omega (arith, points_left g (at + 13) 3 (omega arith) a.0.head.head.long, a.1.long, a.3.same)))
    sound_form (list es) s at d r l a h =
        sound_no_op (λ p.
        leaving at 3
        (sound_separated commented "[" "]" "," refl refl refl
        (all_grouped es (at + 13 + 13) (past g.source g.image (at + 13)) {d = d - 2} a.1 (omega arith)) s r.fits Tight
        (omega arith) (omega arith))
        (omega (arith, a.0.head.long, a.2.same)))
    sound_form (not' e) s at d r l a h =
        sound_no_op
        (λ p. leaving at 3 (sound_says "!" refl ⨾ sound_expr e (at + 13) Unit' a.0 (omega arith)) (omega (arith, points_most g (at + 13) 3, a.1.same)))
    sound_form (assign q e) s at d r l a h =
        let v : ℕ = past g.source g.image (at + 13) in
        sound_no_op (λ p.
        leaving at 3
        (sound_path commented q (at + 13) true true (omega arith) a.0
        ⨾ sound_says " = " refl
        ⨾ sound_expr e v Bottom a.1 (omega arith))
        (omega (arith, points_most g (at + 13) 3, points_most g v 3, a.2.same)))
    sound_form (compound_assign q op e) s at d r l a h =
        let v : ℕ = past g.source g.image (past g.source g.image (at + 13)) in
        sound_no_op (λ p.
        leaving at 3
        (sound_path commented q (at + 13) true true (omega arith) a.0
        ⨾ sound_says (assign_symbol op) (assign_fits op)
        ⨾ sound_expr e v Bottom a.3 (omega arith))
        (omega (arith, points_most g (at + 13) 3, points_most g v 3, a.4.same)))
    sound_form (bin_op x t op y) s at d r l a h =
        let v : ℕ = past g.source g.image (at + 13) in
        let w : ℕ = past g.source g.image v in
        let q : ℕ = binop_precedence op in
        let m : ℕ = points g (at + 13) 3 in
        let n : ℕ = points g w 3 in
        let starts : t.start ≤ length g.source = from_start (ranged a.1.head) in
        let chain : (c p : ℕ) → 2 * max (expr_height x) (expr_height y) ≤ c
        → SoundOperands (m + (3 * ROW_TAKES + n)) c (popped g (operands g p x) t op (expr_with_precedence g y Bottom)) =
        λ c p i.
        sound_popped (operands g p x) t op starts (sound_operands x (at + 13) c p a.0 (omega arith))
        (sound_expr y w Bottom a.3 (omega arith))
        in
        let own : Sounds g (points g at 3) d (binop (popped g (operands g q x) t op (expr_with_precedence g y Bottom))) =
        leaving at 3 (sound_binop _ {d = d} (omega arith) (chain (d - 2) q (omega arith)))
        (omega (arith, points_most g (at + 13) 3, points_most g w 3, a.4.same, a.1.head.long))
        in
        record {
          form = λ p. own;
          under =
              λ p. sound_pick (eqb q p) (chain d p (omega arith)) (sound_leftmost (sound_whole own))
              (omega (arith, points_most g (at + 13) 3, points_most g w 3, points_left g at 3 (omega arith) l, a.4.same, a.1.head.long));
        }
    sound_form (negate e) s at d r l a h =
        sound_no_op
        (λ p. leaving at 3 (sound_says "-" refl ⨾ sound_expr e (at + 13) Bottom a.0 (omega arith)) (omega (arith, points_most g (at + 13) 3, a.1.same)))
    sound_form (if_else c b e) s at d r l a h =
        let v : ℕ = past g.source g.image (at + 13) in
        sound_no_op
        (λ p.
        leaving at 3
        (sound_clause "if " refl (omega arith) (sound_expr c (at + 13) {d = d - 2} Bottom a.0 (omega arith)) (sound_block b v a.1 (omega arith))
        ⨾ sound_otherwise e (past g.source g.image v) a.2 (omega arith))
        (omega (arith, expr_left c (at + 13) a.0, points_most g v 1, points_most g (past g.source g.image v) 1, a.3.same)))
    sound_form (while c b) s at d r l a h =
        let v : ℕ = past g.source g.image (at + 13) in
        sound_no_op
        (λ p.
        leaving at 3
        (sound_clause "while " refl (omega arith) (sound_expr c (at + 13) {d = d - 2} Bottom a.0 (omega arith)) (sound_block b v a.1 (omega arith)))
        (omega (arith, expr_left c (at + 13) a.0, points_most g v 1, a.2.same)))
    sound_form (for i e b) s at d r l a h =
        let v : ℕ = past g.source g.image (at + 13) in
        sound_no_op
        (λ p.
        leaving at 3
        (sound_says "for " refl
        ⨾ sound_ident a.0
        ⨾ sound_clause " in " refl (omega arith) (sound_expr e v {d = d - 2} Bottom a.1 (omega arith))
        (sound_block b (past g.source g.image v) a.2 (omega arith)))
        (omega (arith, points_most g v 3, points_most g (past g.source g.image v) 1, a.3.same, a.0.head.long)))
    sound_form (question_mark e) s at d r l a h =
        sound_no_op
        (λ p. leaving at 3 (sound_expr e (at + 13) p a.0 (omega arith) ⨾ sound_says "?" refl) (omega (arith, points_most g (at + 13) 3, a.1.same)))
    sound_form (f_string ps) s at d r l a h =
        sound_no_op (λ p.
        leaving at 3
        (sound_gap commented s.start true true false (from_start r)
        ⨾ sound_says "f\"" refl
        ⨾ sound_parts ps (at + 13 + 13) (past g.source g.image (at + 13)) a.1 (omega arith)
        ⨾ sound_says "\"" refl)
        (omega (arith, a.0.head.long, a.2.same)))
    sound_form (parentheses e) s at d r l a h =
        sound_no_op (λ p.
        leaving at 3
        (sound_gap commented s.start true true false (from_start r)
        ⨾ sound_says "(" refl
        ⨾ sound_expr e (at + 13) Bottom a.0 (omega arith)
        ⨾ sound_says ")" refl)
        (omega (arith, points_most g (at + 13) 3, a.1.same)))

    sound_maybe : (e : MaybeExpr) (w : String) → Fits w → (at : ℕ) {d : ℕ} → MaybeExprAt g.source g.image e at
        → 2 * maybe_height e ≤ d → Sounds g (ROW_TAKES + points g at 3) d (maybe_expr g w e)
    sound_maybe no_expr w f at a h = fewer sound_skip (omega arith)
    sound_maybe (some_expr e) w f at a h = sound_says w f ⨾ sound_expr e at Bottom a h

    sound_otherwise : (b : MaybeBlock) (at : ℕ) {d : ℕ} → MaybeBlockAt g.source g.image b at → 2 * maybe_block_height b ≤ d
        → Sounds g (ROW_TAKES + points g at 1) d (otherwise g b)
    sound_otherwise no_block at a h = fewer sound_skip (omega arith)
    sound_otherwise (some_block b) at a h = sound_says " else " refl ⨾ sound_block b at a h

    all_exprs : (es : Exprs) (at end : ℕ) {d : ℕ} → ExprsAt g.source g.image es at end → 2 * exprs_height es ≤ d
        → All g (BYTE_GIVES * (end - at)) d (expr_elems g es)
    all_exprs no_exprs at end a h = none
    all_exprs (e ∷ᵉ es) at end a h =
        also (from_start (expr_ranged e at a.0)) (sound_expr e at Bottom a.0 (omega arith))
        (all_exprs es (past g.source g.image at) end a.2 (omega arith))
        (omega (arith, a.1.least, expr_left e at a.0))

    all_grouped : (es : Exprs) (at end : ℕ) {d : ℕ} → ExprsAt g.source g.image es at end → 2 * exprs_height es + 1 ≤ d
        → All g (BYTE_GIVES * (end - at)) d (grouped_elems g es)
    all_grouped no_exprs at end a h = none
    all_grouped (e ∷ᵉ es) at end {d} a h =
        also (from_start (expr_ranged e at a.0))
        (sound_grouped {c = d - 1} (omega arith) (λ id. sound_expr e at Bottom a.0 (omega arith)))
        (all_grouped es (past g.source g.image at) end a.2 (omega arith))
        (omega (arith, a.1.least, expr_left e at a.0))

    all_entries : (es : Entries) (at end : ℕ) {d : ℕ} → EntriesAt g.source g.image es at end → 2 * entries_height es ≤ d
        → All g (BYTE_GIVES * (end - at)) d (entry_elems g es)
    all_entries no_entries at end a h = none
    all_entries (entry s i e es) at end a h =
        also (from_start (ranged a.0))
        (sound_ident a.1 ⨾ sound_says ": " refl ⨾ sound_expr e (past g.source g.image (at + 13)) Bottom a.2 (omega arith))
        (all_entries es (past g.source g.image at) end a.5 (omega arith))
        (omega (arith, points_most g (past g.source g.image (at + 13)) 3, a.3.same, a.4.least, a.1.head.long))

    all_arms : (arms : Arms) (at end : ℕ) {d : ℕ} → ArmsAt g.source g.image arms at end → 2 * arms_height arms ≤ d
        → All g (BYTE_GIVES * (end - at)) d (arm_elems g arms)
    all_arms no_arms at end a h = none
    all_arms (arm s p c e arms) at end a h =
        let v : ℕ = past g.source g.image (at + 13) in
        also (from_start (ranged a.0))
        (sound_pattern commented p (at + 13) (omega (arith, height_least e)) a.1
        ⨾ sound_maybe c " if " refl v a.2 (omega arith)
        ⨾ sound_says " => " refl
        ⨾ sound_expr e (past g.source g.image v) Bottom a.3 (omega arith)
        ⨾ sound_when (not (is_block e)) (sound_says "," refl))
        (all_arms arms (past g.source g.image at) end a.6 (omega arith))
        (omega (arith, points_most g (at + 13) 3, points_most g v 3, points_most g (past g.source g.image v) 3, a.4.same, a.5.least))

    sound_parts : (ps : Parts) (at end : ℕ) {d : ℕ} → PartsAt g.source g.image ps at end → 2 * parts_height ps ≤ d
        → Sounds g (BYTE_GIVES * (end - at)) d (parts_rule g ps)
    sound_parts no_parts at end a h = fewer sound_skip (omega arith)
    sound_parts (string s ps) at end a h =
        fewer
        (sound_content (ranged a.0) ⨾ sound_parts ps (past g.source g.image at) end a.3 (omega arith))
        (omega (arith, a.2.least))
    sound_parts (value e ps) at end a h =
        fewer
        ((sound_says "{" refl ⨾ sound_expr e (at + 13) Bottom a.1 (omega arith) ⨾ sound_says "}" refl)
        ⨾ sound_parts ps (past g.source g.image at) end a.4 (omega arith))
        (omega (arith, points_most g (at + 13) 3, a.2.same, a.3.least))

    pub sound_block : (b : Block) (at : ℕ) {d : ℕ} → BlockAt g.source g.image b at → 2 * block_height b ≤ d
        → Sounds g (points g at 1) d (block_rule g b)
    sound_block (braces s ss last) at {d} a h =
        let v : ℕ = past g.source g.image (at + 13) in
        leaving at 1
        (sound_grouped {c = d - 1} (omega arith)
        (λ id.
        (sound_says "{" refl ⨾ sound_line ⨾ sound_when (not (is_empty ss last)) sound_wrap_parent)
        ⨾ sound_indented {c = d - 2} (omega arith)
        (sound_stmts ss (at + 13 + 13) v true a.2 (omega arith)
        ⨾ sound_last last v (none_of ss) a.3 (omega arith)
        ⨾ sound_gap commented s.end (not (is_empty ss last)) false false (ranged a.0).fits)
        ⨾ sound_line
        ⨾ sound_says "}" refl))
        (omega (arith, points_most g v 3, a.1.head.long, a.4.same))

    sound_stmts : (ss : Stmts) (at end : ℕ) {d : ℕ} (first : Bool) → StmtsAt g.source g.image ss at end → 2 * stmts_height ss ≤ d
        → Sounds g (BYTE_GIVES * (end - at)) d (stmts_rule g ss first)
    sound_stmts no_stmts at end first a h = fewer sound_skip (omega arith)
    sound_stmts (x ∷ˢ ss) at end first a h =
        let r : Ranged g.source (stmt_span x) = stmt_ranged x at a.0 in
        fewer
        (sound_before first (stmt_span x).start (from_start r)
        ⨾ sound_stmt x at a.0 (omega arith)
        ⨾ sound_after (stmt_span x).end r.fits
        ⨾ sound_stmts ss (past g.source g.image at) end false a.2 (omega arith))
        (omega (arith, a.1.least, stmt_left x at a.0))

    sound_last : (e : MaybeExpr) (at : ℕ) {d : ℕ} (first : Bool) → MaybeExprAt g.source g.image e at → 2 * maybe_height e ≤ d
        → Sounds g (2 * ROW_TAKES + points g at 3) d (last_rule g e first)
    sound_last no_expr at first a h = fewer sound_skip (omega arith)
    sound_last (some_expr e) at first a h =
        fewer
        (sound_before first (expr_span e).start (from_start (expr_ranged e at a)) ⨾ sound_expr e at Bottom a h ⨾ sound_trailing commented)
        (omega arith)

    sound_stmt : (x : Stmt) (at : ℕ) {d : ℕ} → StmtAt g.source g.image x at → 2 * stmt_height x ≤ d
        → Sounds g (points g at 2) d (stmt_rule g x)
    sound_stmt (stmt s f) at a h = sound_stmt_form f at a.0.long a.1 h

    sound_stmt_form : (f : StmtForm) (at : ℕ) {d : ℕ} → 9 ≤ be32 g.image at → StmtFormAt g.source g.image f at
        → 2 * (1 + stmt_form_height f) ≤ d → Sounds g (points g at 2) d (stmt_form g f)
    sound_stmt_form (let' i nothing e) at l a h =
        let v : ℕ = past g.source g.image (at + 13) in
        leaving at 2
        (sound_says "let " refl
        ⨾ sound_ident a.0
        ⨾ sound_skip
        ⨾ sound_says " = " refl
        ⨾ sound_expr e (past g.source g.image v) Bottom a.2 (omega arith)
        ⨾ sound_says ";" refl)
        (omega (arith, points_most g (past g.source g.image v) 3, a.3.same))
    sound_stmt_form (let' i (Some t) e) at l a h =
        let v : ℕ = past g.source g.image (at + 13) in
        leaving at 2
        (sound_says "let " refl
        ⨾ sound_ident a.0
        ⨾ (sound_says ": " refl ⨾ sound_type commented t v a.1 (omega arith))
        ⨾ sound_says " = " refl
        ⨾ sound_expr e (past g.source g.image v) Bottom a.2 (omega arith)
        ⨾ sound_says ";" refl)
        (omega (arith, points_most g v 3, points_most g (past g.source g.image v) 3, a.3.same))
    sound_stmt_form (import_stmt i) at l a h =
        leaving at 2
        (sound_says "import " refl ⨾ sound_import commented i (at + 13) a.0 (omega arith) ⨾ sound_says ";" refl)
        (omega (arith, points_most g (at + 13) 4, a.1.same))
    sound_stmt_form (does e) at {d} l a h =
        leaving at 2
        (sound_grouped {c = d - 1} (omega arith)
        (λ id. sound_expr e (at + 13) Bottom a.0 (omega arith) ⨾ sound_when (not (is_braced e)) (sound_says ";" refl)))
        (omega (arith, points_most g (at + 13) 3, a.1.same))
