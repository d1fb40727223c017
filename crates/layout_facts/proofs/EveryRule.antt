-- What holds of each way of joining steps holds of every layout rule: a rule joins steps, and says the tokens of its part of the tree.
-- Assumes nothing.
use Prim.Native.Nat.{ℕ, zero, suc}
use Prim.Native.String.{String}
use mathlib.Core.Path.{◌≡◌, sym, ap, subst, ◌∙◌}
use mathlib.Core.Bool.{Bool, true, false, cond, not, ◌&&◌}
use mathlib.Core.List.{List, [], ◌∷◌, ◌++◌, map, append-nil, append_assoc}
use Rattle.std.specs.Prelude.{Option, None as nothing, Some}
use lib.Dec.{ltb, eqb}
use lib.Text.{eqt}
use Rattle.ast.specs.Syntax.{Span, Ident, Path, Idents, TypeExpr, type, TypeForm, option, type_path, never, unit, record_type, TypeArgs, no_args, args}
use Rattle.ast.specs.Syntax.{Types, no_types, ◌∷ᵗ◌, Fields, no_fields, field, Import, import, ImportGroup, no_group, group, Imports, no_imports, ◌∷ⁱ◌}
use Rattle.ast.specs.Syntax.{Pattern, underscore, enum_variant, Expr, expr, Form, return', literal, block, match', function_call, access, path, record'}
use Rattle.ast.specs.Syntax.{typed_record, list, not', assign, compound_assign, bin_op, negate, if_else, while, for, question_mark, f_string, parentheses}
use Rattle.ast.specs.Syntax.{Exprs, no_exprs, ◌∷ᵉ◌, MaybeExpr, no_expr, some_expr, Entries, no_entries, entry, Arms, no_arms, arm, Parts, no_parts, string}
use Rattle.ast.specs.Syntax.{value, Block, braces, MaybeBlock, no_block, some_block, Stmts, no_stmts, ◌∷ˢ◌, Stmt, stmt, StmtForm, let', import_stmt, does}
use Rattle.ast.specs.Syntax.{Variants, no_variants, variant, Declaration, filter_map, const, record_decl, enum_decl, function, test, import_decl}
use Rattle.ast.specs.Syntax.{SyntaxTree}
use Rattle.rows.specs.Node.{Text, Node, ascii, str, line, empty_line, line_or_space, wrap_parent, if_wrap}
use Rattle.rows.specs.Words.{word}
use Rattle.renderer_rules.specs.Holds.{Token, a_word, last_comma}
use Rattle.acts.specs.Act.{Given, Act, Asking, ◌⨟◌, ◌⨟?◌, skip, when, push, step_alone, grouped, indented, indented_next, called, says, content}
use Rattle.comments.specs.Comments.{whitespace, pop_whitespace, pop_trailing_comment}
use Rattle.comments.specs.declared.Gap.{Gap}
use Rattle.layout.specs.declared.forms.WrapStyle.{WrapStyle}
use Rattle.layout.specs.declared.forms.WrapStyle.TheVariants.{Tight, Spaced, Wrap}
use Rattle.layout.specs.Layout.{edge, is_wrap, opens, ends, inside, before_elem, path_next, operator, maybe_expr, placeholder, clause, block_start, before_stmt}
use Rattle.layout.specs.Layout.{after_stmt, leftmost, popped, some_type_params, Elem, Operands, Bottom, Chain, Unit', binop_precedence, symbol, assign_symbol}
use Rattle.layout.specs.Layout.{return_word, elements, separated, path_more, path_rule, ident_elems}
use Rattle.layout.specs.Layout.{type_expr, type_form, type_args, type_elems, field_elems, params}
use Rattle.layout.specs.Layout.{type_params, import_path, import_group, import_items, import_elems}
use Rattle.layout.specs.Layout.{pattern, binop, literal_rule, expr_with_precedence, expr_form}
use Rattle.layout.specs.Layout.{operands, operands_form, otherwise, expr_elems, grouped_elems, entry_elems}
use Rattle.layout.specs.Layout.{arm_elems, parts_rule, block_rule, stmts_rule, last_rule}
use Rattle.layout.specs.Layout.{stmt_rule, stmt_form, opening, variant_elems, declaration, declares}
use Rattle.layout.specs.Layout.{shebang_rule, declarations_rule, import_span, none_of, is_empty}
use Rattle.layout.specs.Layout.{is_block, is_braced, unless_empty, one_or, ident, let_type, return_type, import_first, is_some, is_group}
use Rattle.layout.specs.Elems.{mark}
use Rattle.layout.specs.Closing.{closing, whole_rule, call_rule}
use Rattle.layout_facts.specs.Tokens.{say, say_if, name, shebang_tokens, quote, further_tokens, last_comma_if, list_tokens, dotted_tokens, path_tokens}
use Rattle.layout_facts.specs.Tokens.{maybe_path_tokens, type_tokens, type_form_tokens, type_args_tokens, types_tokens, fields_tokens, one_or_more}
use Rattle.layout_facts.specs.Tokens.{import_tokens, import_group_tokens, import_items_tokens, imports_tokens, pattern_tokens, literal_tokens}
use Rattle.layout_facts.specs.Tokens.{let_type_tokens, expr_tokens, form_tokens, exprs_tokens, maybe_tokens, last_tokens, entries_tokens, arms_tokens}
use Rattle.layout_facts.specs.Tokens.{parts_tokens, block_tokens, else_tokens, stmts_tokens, stmt_tokens, stmt_form_tokens, some_names}
use Rattle.layout_facts.specs.Tokens.{type_params_tokens, variants_tokens, return_type_tokens, declaration_tokens, declarations_tokens, tokens_of}

-- the nodes that a rule pushes for a line or a blank alone, and `WrapParent`
pub data Break : Node → Type 0 where
  line_break : Break line
  empty_line_break : Break empty_line
  line_or_space_break : Break line_or_space
  wrap_parent_break : Break wrap_parent

-- The ways of joining steps. P k ts is said of a step that says the tokens ts, inside groups whose numbers are below k: an `IfWrap` names one of these.
pub record Joining (g : Given) (P : ℕ → List Token → Act → Type 0) : Type 0 where
  pub skips : {k : ℕ} → P k [] skip
  pub words : {k : ℕ} (t : Text) → P k (a_word t ∷ []) (push (ascii t))
  pub names : {k : ℕ} (w : ℕ) (t : Text) → P k (a_word t ∷ []) (push (str w t))
  pub breaks : {k : ℕ} {n : Node} → Break n → P k [] (push n)
  pub chooses : {n : ℕ} → P (suc n) (last_comma ∷ []) (push (if_wrap n (ascii (word ",")) (ascii (word ""))))
  pub joins : {k : ℕ} {ts us : List Token} {a b : Act} → P k ts a → P k us b → P k (ts ++ us) (a ⨟ b)
  pub groups : {k : ℕ} {ts : List Token} {a : ℕ → Act} → ((n : ℕ) → P (suc n) ts (a n)) → P k ts (grouped a)
  pub indents : {k : ℕ} {ts : List Token} {a : Act} → P k ts a → P k ts (indented a)
  pub indents_next : {k : ℕ} {ts : List Token} {a : Act} → P k ts a → P k ts (indented_next a)
  pub calls : {k : ℕ} {ts us : List Token} {e a : Act} → P k ts e → P k us a → P k (ts ++ us) (called e a)
  pub asks : {k : ℕ} {ts us : List Token} (a : Asking Gap) {b : Gap → Act}
      → P k ts (step_alone a) → ((answer : Gap) → P k us (b answer)) → P k (ts ++ us) (a ⨟? b)
  pub gaps : {k : ℕ} (position : ℕ) (leading trailing only : Bool) → P k [] (step_alone (pop_whitespace g position leading trailing only))
  pub trails : {k : ℕ} → P k [] (pop_trailing_comment g)

module _ {g : Given} {P : ℕ → List Token → Act → Type 0} (J : Joining g P) where
  -- inside any groups
  abbrev pub Every : List Token → Act → Type 0
  Every ts a = (k : ℕ) → P k ts a

  abbrev EveryNone : Act → Type 0
  EveryNone a = Every [] a

  by_in : {k : ℕ} {ts us : List Token} {a : Act} → ts ≡ us → P k ts a → P k us a
  by_in {k} {a = a} e p = subst (λ (l : List Token). P k l a) e p

  every_by : {ts us : List Token} {a : Act} → ts ≡ us → Every ts a → Every us a
  every_by e p k = by_in e (p k)

  ◌⨾◌ : {ts us : List Token} {a b : Act} → Every ts a → Every us b → Every (ts ++ us) (a ⨟ b)
  p ⨾ q = λ k. J.joins (p k) (q k)

  -- a step, and one that says nothing
  ◌◃◌ : {ts : List Token} {a b : Act} → Every ts a → EveryNone b → Every ts (a ⨟ b)
  ◌◃◌ {ts} p q = every_by (append-nil ts) (p ⨾ q)

  infixr 50 ◌⨾◌ ◌◃◌
  every_skip : EveryNone skip
  every_skip k = J.skips

  said : (w : String) → Every (say w) (says w)
  said w k = J.words (word w)

  said_if : (t : Bool) (w : String) → Every (say_if t w) (when t (says w))
  said_if true w = said w
  said_if false w = every_skip

  from_source : (s : Span) → Every (quote s) (push (ascii (content s)))
  from_source s k = J.words (content s)

  lined : EveryNone (push line)
  lined k = J.breaks line_break

  emptied : EveryNone (push empty_line)
  emptied k = J.breaks empty_line_break

  spaced : EveryNone (push line_or_space)
  spaced k = J.breaks line_or_space_break

  wrapped : EveryNone (push wrap_parent)
  wrapped k = J.breaks wrap_parent_break

  every_when : (t : Bool) {a : Act} → EveryNone a → EveryNone (when t a)
  every_when true p = p
  every_when false p = every_skip

  every_cond : {ts : List Token} (t : Bool) {a b : Act} → Every ts a → Every ts b → Every ts (cond t a b)
  every_cond true p q = p
  every_cond false p q = q

  every_grouped : {ts : List Token} {a : ℕ → Act} → ((n : ℕ) → Every ts (a n)) → Every ts (grouped a)
  every_grouped p k = J.groups (λ n. p n (suc n))

  every_indented : {ts : List Token} {a : Act} → Every ts a → Every ts (indented a)
  every_indented p k = J.indents (p k)

  every_indented_next : {ts : List Token} {a : Act} → Every ts a → Every ts (indented_next a)
  every_indented_next p k = J.indents_next (p k)

  every_called : {ts us : List Token} {e a : Act} → Every ts e → Every us a → Every (ts ++ us) (called e a)
  every_called p q k = J.calls (p k) (q k)

  every_asks : {ts us : List Token} (a : Asking Gap) {b : Gap → Act} → Every ts (step_alone a)
      → ((answer : Gap) → Every us (b answer)) → Every (ts ++ us) (a ⨟? b)
  every_asks a p q k = J.asks a (p k) (λ answer. q answer k)

  gapped : (position : ℕ) (leading trailing only : Bool) → EveryNone (step_alone (pop_whitespace g position leading trailing only))
  gapped position leading trailing only k = J.gaps position leading trailing only

  trailed : EveryNone (pop_trailing_comment g)
  trailed k = J.trails

  named : (i : Ident) → Every (name i) (ident g i)
  named i k = J.names _ _

  -- the elements of a list
  data All : List (List Token) → List Elem → Type 0 where
    none : All [] []
    more : {ts : List Token} {xs : List (List Token)} {e : Elem} {es : List Elem} → Every ts e.act → All xs es → All (ts ∷ xs) (e ∷ es)

  -- the comma before an element, and behind the last
  before_elem_lem : (commas : Bool) → Every (say_if commas ",") (when (not (eqt (mark commas) "")) (says (mark commas)))
  before_elem_lem true = said ","
  before_elem_lem false = every_skip

  behind_last : (commas : Bool) (id : ℕ)
      → P (suc id) (last_comma_if commas) (when (not (eqt (mark commas) "")) (push (if_wrap id (ascii (word (mark commas))) (ascii (word "")))))
  behind_last true id = J.chooses
  behind_last false id = J.skips

  every_further : (commas : Bool) {xs : List (List Token)} {es : List Elem} → All xs es
      → Every (further_tokens commas xs) (elements g (mark commas) false es)
  unfolding elements before_elem
  every_further commas none = every_skip
  every_further commas (more {e = e} p ps) =
      (before_elem_lem commas ◃ (gapped e.start true true false ⨾ spaced)) ⨾ p ⨾ every_further commas ps

  every_elements : (commas : Bool) {ts : List Token} {xs : List (List Token)} (e : Elem) {es : List Elem} → Every ts e.act → All xs es
      → Every (ts ++ further_tokens commas xs) (elements g (mark commas) true (e ∷ es))
  unfolding elements before_elem
  every_elements commas e p ps = (every_skip ⨾ gapped e.start true true false ⨾ every_skip) ⨾ p ⨾ every_further commas ps

  every_ends : (commas : Bool) (id : ℕ) (s : Span) → P (suc id) (last_comma_if commas) (ends g (mark commas) id s)
  unfolding ends
  every_ends commas id s = by_in (append-nil (last_comma_if commas)) (J.joins (behind_last commas id) (gapped s.end true false false (suc id)))

  edged : (style : WrapStyle) → EveryNone (edge style)
  edged Tight = lined
  edged Spaced = spaced
  edged Wrap = lined

  every_opens : (start : String) (style : WrapStyle) → Every (say start) (opens start style)
  unfolding opens
  every_opens start style = every_when (is_wrap style) wrapped ⨾ said start ◃ edged style

  every_separated : (start end : String) (commas : Bool) {xs : List (List Token)} {es : List Elem} → All xs es → (s : Span) (style : WrapStyle)
      → Every (list_tokens start end commas xs) (separated g start end (mark commas) es s style)
  unfolding separated inside
  every_separated start end commas none s style =
      every_grouped
      (λ id. said start ⨾ lined ⨾ every_indented (gapped s.end false false false) ⨾ lined ⨾ said end ◃ trailed)
  every_separated start end commas (more {ts} {xs} {e} {es} p ps) s style =
      let closed : Every (say end) (edge style ⨟ says end ⨟ pop_trailing_comment g) = edged style ⨾ said end ◃ trailed in
      let all : Every (ts ++ further_tokens commas xs) (elements g (mark commas) true (e ∷ es)) = every_elements commas e p ps in
      let inner : (id : ℕ)
      → P (suc id) (ts ++ (further_tokens commas xs ++ last_comma_if commas)) (elements g (mark commas) true (e ∷ es) ⨟ ends g (mark commas) id s) =
      λ id. by_in (append_assoc ts (further_tokens commas xs) (last_comma_if commas)) (J.joins (all (suc id)) (every_ends commas id s))
      in
      λ k. J.groups (λ id. J.joins (every_opens start style (suc id)) (J.joins (J.indents (inner id)) (closed (suc id))))

  every_path_more : (t : Bool) (is : List Ident) → Every (dotted_tokens is) (path_more g t is)
  unfolding path_more path_next
  every_path_more t [] = every_skip
  every_path_more t (i ∷ is) =
      (every_when t lined ⨾ gapped i.span.end false false false ⨾ said "." ⨾ named i) ⨾ every_path_more t is

  every_path : (p : Path) (t u : Bool) → Every (path_tokens p) (path_rule g p t u)
  unfolding path_rule
  every_path p true u = every_grouped (λ id. named p.first ⨾ every_indented (every_path_more u p.more)) ◃ trailed
  every_path p false u = named p.first ⨾ every_path_more u p.more ◃ trailed

  all_idents : (is : List Ident) → All (map name is) (ident_elems g is)
  all_idents [] = none
  all_idents (i ∷ is) = more (named i) (all_idents is)

  mutual
    unfolding type_expr type_tokens

    every_type : (t : TypeExpr) → Every (type_tokens t) (type_expr g t)
    every_type (type s f) = every_type_form f

    every_type_form : (f : TypeForm) → Every (type_form_tokens f) (type_form g f)
    every_type_form (option t) = every_type t ⨾ said "?"
    every_type_form (type_path p a) = every_path p true true ⨾ every_type_args a
    every_type_form never = said "!"
    every_type_form unit = said "()"
    every_type_form (record_type s fs) = every_separated "{" "}" true (all_fields fs) s Tight

    every_type_args : (a : TypeArgs) → Every (type_args_tokens a) (type_args g a)
    every_type_args no_args = every_skip
    every_type_args (args s ts) = every_separated "[" "]" true (all_types ts) s Tight

    all_types : (ts : Types) → All (types_tokens ts) (type_elems g ts)
    all_types no_types = none
    all_types (t ∷ᵗ ts) = more (every_type t) (all_types ts)

    all_fields : (fs : Fields) → All (fields_tokens fs) (field_elems g fs)
    all_fields no_fields = none
    all_fields (field s i t fs) = more (named i ⨾ said ": " ⨾ every_type t) (all_fields fs)

  every_import_first : (p : Option Path) → Every (maybe_path_tokens p) (import_first g p)
  every_import_first nothing = every_skip
  every_import_first (Some p) = every_path p true false

  every_one_or : {ts us : List Token} (is : Imports) {a b : Act} → Every ts a → Every us b → Every (one_or_more is ts us) (one_or g is a b)
  every_one_or no_imports p q = p
  every_one_or (i ∷ⁱ is) p q = q

  mutual
    unfolding import_path import_tokens

    every_import : (i : Import) → Every (import_tokens i) (import_path g i)
    every_import (import s p q) = every_import_first p ⨾ said_if (is_some p && is_group q) "." ⨾ every_import_group q

    every_import_group : (q : ImportGroup) → Every (import_group_tokens q) (import_group g q)
    every_import_group no_group = every_skip
    every_import_group (group s is) = every_imports is s

    every_imports : (is : Imports) (s : Span) → Every (import_items_tokens is) (import_items g s is)
    every_imports no_imports s = every_separated "{" "}" true none s Tight
    every_imports (i ∷ⁱ is) s =
        every_one_or is (every_import i)
        (every_separated "{" "}" true (more {e = record { start = (import_span i).start; act = import_path g i }} (every_import i) (all_imports is)) s Tight)

    all_imports : (is : Imports) → All (imports_tokens is) (import_elems g is)
    all_imports no_imports = none
    all_imports (i ∷ⁱ is) = more (every_import i) (all_imports is)

  every_pattern : (p : Pattern) → Every (pattern_tokens p) (pattern g p)
  unfolding pattern
  every_pattern underscore = said "_"
  every_pattern (enum_variant i nothing) = named i
  every_pattern (enum_variant i (Some fs)) = named i ⨾ every_separated "(" ")" true (all_idents fs.elems) fs.span Tight

  -- a chain of operators: its leftmost operand, and the others
  record EveryOperands (ts : List Token) (c : Operands) : Type 0 where
    front : List Token
    back : List Token
    left : Every front c.left
    ops : Every back c.ops
    same : front ++ back ≡ ts

  record EveryForm (ts : List Token) (whole : ℕ → Act) (operand : ℕ → Operands) : Type 0 where
    form : (p : ℕ) → Every ts (whole p)
    under : (p : ℕ) → EveryOperands ts (operand p)

  every_operator : (first : Bool) (s : Span) (op : ℕ) → Every ((say (symbol op) ++ say " ")) (operator g first s op)
  unfolding operator
  every_operator first s op =
      every_asks (pop_whitespace g s.start true true false) (gapped s.start true true false)
      (λ gap. every_when (not first && not (whitespace gap)) spaced)
      ⨾ said (symbol op)
      ⨾ said " "

  every_binop : {ts : List Token} (c : Operands) → EveryOperands ts c → Every ts (binop c)
  unfolding binop
  every_binop c p = every_by p.same (every_grouped (λ id. p.left ⨾ spaced ⨾ every_indented p.ops))

  every_literal : (n : ℕ) (s : Span) → Every (literal_tokens s n) (literal_rule g s n)
  unfolding literal_rule
  every_literal zero s = gapped s.end true true false ⨾ from_source s
  every_literal (suc zero) s = gapped s.end true true false ⨾ said "true"
  every_literal (suc (suc zero)) s = gapped s.end true true false ⨾ said "false"
  every_literal (suc (suc (suc zero))) s = gapped s.end true true false ⨾ said "()"
  every_literal (suc (suc (suc (suc n)))) s = gapped s.end true true false ⨾ every_skip

  every_leftmost : {ts : List Token} {a : Act} → Every ts a → EveryOperands ts (leftmost a)
  every_leftmost {ts} p = record { front = ts; back = []; left = p; ops = every_skip; same = append-nil ts }

  -- an expression that is no binary operator, and one that is
  every_no_op : {ts : List Token} {a : ℕ → Act} → ((p : ℕ) → Every ts (a p)) → EveryForm ts a (λ p. leftmost (a p ⨟ pop_trailing_comment g))
  every_no_op p = record { form = p; under = λ outer. every_leftmost (p outer ◃ trailed) }

  every_popped : {ts us : List Token} (c : Operands) (s : Span) (op : ℕ) {a : Act} → EveryOperands ts c → Every us a
      → EveryOperands (ts ++ ((say (symbol op) ++ say " ") ++ us)) (popped g c s op a)
  every_popped {ts} {us} c s op p q =
      let these : List Token = (say (symbol op) ++ say " ") ++ us in
      record {
        front = p.front;
        back = p.back ++ these;
        left = p.left;
        ops = p.ops ⨾ every_operator c.first s op ⨾ q;
        same = sym (append_assoc p.front p.back these) ∙ ap (λ (l : List Token). l ++ these) p.same;
      }

  every_pick : {ts : List Token} (t : Bool) {a b : Operands} → EveryOperands ts a → EveryOperands ts b → EveryOperands ts (cond t a b)
  every_pick true p q = p
  every_pick false p q = q

  every_clause : {ts us : List Token} (w : String) {a b : Act} → Every ts a → Every us b → Every (say w ++ (ts ++ (say " " ++ us))) (clause w a b)
  unfolding clause
  every_clause w p q = said w ⨾ every_grouped (λ id. every_indented p) ⨾ said " " ⨾ q

  every_before : (first : Bool) (p : ℕ) → EveryNone (before_stmt g first p)
  unfolding before_stmt
  every_before first p = every_cond first (gapped p false true false) (gapped p true true true) ⨾ lined

  mutual
    unfolding expr_with_precedence placeholder block_start after_stmt expr_tokens

    every_operands : (e : Expr) (p : ℕ) → EveryOperands (expr_tokens e) (operands g p e)
    every_operands (expr s f) p = (every_form f s).under p

    every_expr : (e : Expr) (p : ℕ) → Every (expr_tokens e) (expr_with_precedence g e p)
    every_expr (expr s f) p = (every_form f s).form p ◃ trailed

    every_form : (f : Form) (s : Span)
        → EveryForm (form_tokens f) (expr_form g s f) (λ p. operands_form g p f (expr_form g s f p ⨟ pop_trailing_comment g))
    every_form (return' k e) s = every_no_op (λ p. said (return_word k) ⨾ every_maybe e " ")
    every_form (literal t n) s = every_no_op (λ p. every_literal n t)
    every_form (block b) s = every_no_op (λ p. every_block b)
    every_form (match' e t arms) s =
        every_no_op (λ p. said "match " ⨾ every_expr e Bottom ⨾ said " " ⨾ every_separated "{" "}" false (all_arms arms) t Wrap)
    every_form (function_call e t es) s =
        let call : Every (list_tokens "(" ")" true (exprs_tokens es)) (separated g "(" ")" "," (expr_elems g es) t Tight) =
        every_separated "(" ")" true (all_exprs es) t Tight
        in
        every_no_op (λ p. every_cond (ltb p Chain) (every_called (every_expr e Chain) call) (every_expr e Chain ⨾ call))
    every_form (access e i) s =
        every_no_op (λ p.
        every_cond (ltb p Chain) (every_grouped (λ id. every_indented_next (every_expr e Chain ⨾ lined ⨾ said "." ⨾ named i)))
        (every_expr e Chain ⨾ lined ⨾ said "." ⨾ named i))
    every_form (path q) s = every_no_op (λ p. every_path q (ltb p Chain) true)
    every_form (record' t es) s = every_no_op (λ p. every_separated "{" "}" true (all_entries es) t Spaced)
    every_form (typed_record q t es) s =
        every_no_op (λ p. every_path q true true ⨾ said " " ⨾ every_separated "{" "}" true (all_entries es) t Spaced)
    every_form (list es) s = every_no_op (λ p. every_separated "[" "]" true (all_grouped es) s Tight)
    every_form (not' e) s = every_no_op (λ p. said "!" ⨾ every_expr e Unit')
    every_form (assign q e) s = every_no_op (λ p. every_path q true true ⨾ said " = " ⨾ every_expr e Bottom)
    every_form (compound_assign q op e) s = every_no_op (λ p. every_path q true true ⨾ said (assign_symbol op) ⨾ every_expr e Bottom)
    every_form (bin_op l t op r) s =
        let q : ℕ = binop_precedence op in
        let chain : (p : ℕ)
        → EveryOperands (expr_tokens l ++ ((say (symbol op) ++ say " ") ++ expr_tokens r))
        (popped g (operands g p l) t op (expr_with_precedence g r Bottom)) =
        λ p. every_popped (operands g p l) t op (every_operands l p) (every_expr r Bottom)
        in
        let own : Every (expr_tokens l ++ ((say (symbol op) ++ say " ") ++ expr_tokens r))
        (binop (popped g (operands g q l) t op (expr_with_precedence g r Bottom))) = every_binop _ (chain q)
        in
        record { form = λ p. own; under = λ p. every_pick (eqb q p) (chain p) (every_leftmost (own ◃ trailed)) }
    every_form (negate e) s = every_no_op (λ p. said "-" ⨾ every_expr e Bottom)
    every_form (if_else c b e) s =
        every_no_op (λ p. every_clause "if " (every_expr c Bottom) (every_block b) ⨾ every_otherwise e)
    every_form (while c b) s = every_no_op (λ p. every_clause "while " (every_expr c Bottom) (every_block b))
    every_form (for i e b) s = every_no_op (λ p. said "for " ⨾ named i ⨾ every_clause " in " (every_expr e Bottom) (every_block b))
    every_form (question_mark e) s = every_no_op (λ p. every_expr e p ⨾ said "?")
    every_form (f_string ps) s =
        every_no_op (λ p. gapped s.start true true false ⨾ said "f\"" ⨾ every_parts ps ⨾ said "\"")
    every_form (parentheses e) s =
        every_no_op (λ p. gapped s.start true true false ⨾ said "(" ⨾ every_expr e Bottom ⨾ said ")")

    every_maybe : (e : MaybeExpr) (w : String) → Every (maybe_tokens w e) (maybe_expr g w e)
    every_maybe no_expr w = every_skip
    every_maybe (some_expr e) w = said w ⨾ every_expr e Bottom

    every_otherwise : (b : MaybeBlock) → Every (else_tokens b) (otherwise g b)
    every_otherwise no_block = every_skip
    every_otherwise (some_block b) = said " else " ⨾ every_block b

    all_exprs : (es : Exprs) → All (exprs_tokens es) (expr_elems g es)
    all_exprs no_exprs = none
    all_exprs (e ∷ᵉ es) = more (every_expr e Bottom) (all_exprs es)

    all_grouped : (es : Exprs) → All (exprs_tokens es) (grouped_elems g es)
    all_grouped no_exprs = none
    all_grouped (e ∷ᵉ es) = more (every_grouped (λ id. every_expr e Bottom)) (all_grouped es)

    all_entries : (es : Entries) → All (entries_tokens es) (entry_elems g es)
    all_entries no_entries = none
    all_entries (entry s i e es) = more (named i ⨾ said ": " ⨾ every_expr e Bottom) (all_entries es)

    all_arms : (arms : Arms) → All (arms_tokens arms) (arm_elems g arms)
    all_arms no_arms = none
    all_arms (arm s p c e arms) =
        more (every_pattern p ⨾ every_maybe c " if " ⨾ said " => " ⨾ every_expr e Bottom ⨾ said_if (not (is_block e)) ",") (all_arms arms)

    every_parts : (ps : Parts) → Every (parts_tokens ps) (parts_rule g ps)
    every_parts no_parts = every_skip
    every_parts (string s ps) = from_source s ⨾ every_parts ps
    every_parts (value e ps) = (said "{" ⨾ every_expr e Bottom ⨾ said "}") ⨾ every_parts ps

    every_block : (b : Block) → Every (block_tokens b) (block_rule g b)
    every_block (braces s ss last) =
        every_grouped
        (λ id.
        (said "{" ⨾ lined ⨾ every_when (not (is_empty ss last)) wrapped)
        ⨾ every_indented (every_stmts ss true ⨾ every_last last (none_of ss) ◃ gapped s.end (not (is_empty ss last)) false false)
        ⨾ lined ⨾ said "}")

    every_stmts : (ss : Stmts) (first : Bool) → Every (stmts_tokens ss) (stmts_rule g ss first)
    every_stmts no_stmts first = every_skip
    every_stmts (x ∷ˢ ss) first =
        every_before first _ ⨾ every_stmt x ⨾ (gapped _ false false false ⨾ trailed) ⨾ every_stmts ss false

    every_last : (e : MaybeExpr) (first : Bool) → Every (last_tokens e) (last_rule g e first)
    every_last no_expr first = every_skip
    every_last (some_expr e) first = every_before first _ ⨾ every_expr e Bottom ◃ trailed

    every_stmt : (x : Stmt) → Every (stmt_tokens x) (stmt_rule g x)
    every_stmt (stmt s f) = every_stmt_form f

    every_stmt_form : (f : StmtForm) → Every (stmt_form_tokens f) (stmt_form g f)
    every_stmt_form (let' i t e) = said "let " ⨾ named i ⨾ every_let_type t ⨾ said " = " ⨾ every_expr e Bottom ⨾ said ";"
      where
        every_let_type : (t : Option TypeExpr) → Every (let_type_tokens t) (let_type g t)
        every_let_type nothing = every_skip
        every_let_type (Some u) = said ": " ⨾ every_type u
    every_stmt_form (import_stmt i) = said "import " ⨾ every_import i ⨾ said ";"
    every_stmt_form (does e) = every_grouped (λ id. every_expr e Bottom ⨾ said_if (not (is_braced e)) ";")

  every_opening : (p : ℕ) (first : Bool) → EveryNone (opening g p first)
  unfolding opening
  every_opening p first =
      every_asks (pop_whitespace g p (not first) true (not first)) (gapped p (not first) true (not first))
      (λ gap. every_when (not first && not (whitespace gap)) lined)

  every_params : (fs : Fields) (s : Span) → Every (list_tokens "(" ")" true (fields_tokens fs)) (params g (field_elems g fs) s)
  every_params fs s = every_separated "(" ")" true (all_fields fs) s Tight

  all_variants : (vs : Variants) → All (variants_tokens vs) (variant_elems g vs)
  unfolding variant_elems variants_tokens types_tokens
  all_variants no_variants = none
  all_variants (variant s i no_types vs) = more (named i ⨾ every_skip) (all_variants vs)
  all_variants (variant s i (t ∷ᵗ ts) vs) = more (named i ⨾ every_separated "(" ")" true (all_types (t ∷ᵗ ts)) _ Tight) (all_variants vs)

  -- the parameters of a record or of an enum
  some_params : (ps : Option Idents) → Every (type_params_tokens ps) (some_type_params g ps)
  some_params nothing = every_skip
  some_params (Some is) = unless_empty_lem is.elems
    where
      unless_empty_lem : (xs : List Ident) → Every (some_names xs) (unless_empty xs (type_params g (ident_elems g xs) is.span))
      unless_empty_lem [] = every_skip
      unless_empty_lem (x ∷ xs) = every_separated "[" "]" true (all_idents (x ∷ xs)) is.span Tight

  -- ---- each declaration, and the whole file
  every_declares : (w : String) (first : Bool) (i : Ident) → Every (say w ++ name i) (declares g w first i)
  unfolding declares
  every_declares w first i = every_opening i.span.start first ⨾ said w ⨾ named i

  every_return_type : (t : Option TypeExpr) → Every (return_type_tokens t) (return_type g t)
  every_return_type nothing = every_skip
  every_return_type (Some t) = said "-> " ⨾ every_type t ⨾ said " "

  pub every_declaration : (d : Declaration) (first : Bool) → Every (declaration_tokens d) (declaration g d first)
  unfolding declaration declaration_tokens
  every_declaration (filter_map i s fs b) first = every_declares "filtermap " first i ⨾ every_params fs s ⨾ said " " ⨾ every_block b
  every_declaration (const i t e) first =
      every_declares "const " first i ⨾ said ": " ⨾ every_type t ⨾ said " = " ⨾ every_expr e Bottom ⨾ said ";"
  every_declaration (record_decl i ps s fs) first =
      every_declares "record " first i ⨾ some_params ps ⨾ said " " ⨾ every_separated "{" "}" true (all_fields fs) s Wrap
  every_declaration (enum_decl i ps s vs) first =
      every_declares "enum " first i ⨾ some_params ps ⨾ said " " ⨾ every_separated "{" "}" true (all_variants vs) s Wrap
  every_declaration (function i s fs t b) first =
      every_declares "fn " first i ⨾ every_params fs s ⨾ said " " ⨾ every_return_type t ⨾ every_block b
  every_declaration (test i b) first = every_declares "test " first i ⨾ said " " ⨾ every_block b
  every_declaration (import_decl i) first = every_opening _ first ⨾ said "import " ⨾ every_import i ⨾ said ";"

  pub every_declarations : (ds : List Declaration) (first : Bool) → Every (declarations_tokens ds) (declarations_rule g ds first)
  unfolding declarations_rule declarations_tokens
  every_declarations [] first = every_skip
  every_declarations (d ∷ ds) first = every_declaration d first ⨾ every_declarations ds false

  pub every_shebang : (i : Option Ident) → Every (shebang_tokens g.image i) (shebang_rule g i)
  unfolding shebang_rule
  every_shebang nothing = every_skip
  every_shebang (Some i) = (λ k. J.names _ _) ◃ emptied

  pub every_closing : (t : SyntaxTree) (keeps : Bool) → EveryNone (closing g t keeps)
  every_closing t true = gapped _ _ _ _ ⨾ lined
  every_closing t false = lined

  pub every_whole : (t : SyntaxTree) (keeps : Bool) → Every (tokens_of g.image t) (whole_rule g t keeps)
  every_whole t keeps = every_shebang t.shebang ⨾ every_declarations t.declarations true ◃ every_closing t keeps

  pub every_call : (t : SyntaxTree) (begins : Bool) (ds : List Declaration) (first closes keeps : Bool)
      → Every (cond begins (shebang_tokens g.image t.shebang) [] ++ declarations_tokens ds) (call_rule g t begins ds first closes keeps)
  every_call t begins ds first closes keeps = begun begins ⨾ every_declarations ds first ◃ every_when closes (every_closing t keeps)
    where
      begun : (begins : Bool) → Every (cond begins (shebang_tokens g.image t.shebang) []) (when begins (shebang_rule g t.shebang))
      begun true = every_shebang t.shebang
      begun false = every_skip
