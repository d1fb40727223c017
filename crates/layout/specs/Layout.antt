-- The layout rules: `State` of fmt.rs from `separated` on, function by function, under its names.
use Rattle.std.specs.Prelude.{ℕ, ◌+◌, ◌-◌, Bool, true, false, cond, not, ◌&&◌, ◌||◌, List, [], ◌∷◌, get_or, ltb, eqb, Option, None, Some}
use Prim.Native.String.{String}
use lib.Text.{eqt}
use Rattle.text.specs.Space.{trim_end}
use Rattle.image.specs.Kinds.{BLOCK_EXPR, MATCH, IF_ELSE, WHILE, FOR}
use Rattle.ast.specs.Syntax.{Span, Ident, Path, Idents, TypeExpr, type, TypeForm, option, type_path, never, unit, record_type, TypeArgs, no_args, args}
use Rattle.ast.specs.Syntax.{Types, no_types, ◌∷ᵗ◌, Fields, no_fields, field, Import, import, ImportGroup, no_group, group, Imports, no_imports, ◌∷ⁱ◌}
use Rattle.ast.specs.Syntax.{Pattern, underscore, enum_variant, Expr, expr, Form, return', literal, block, match', function_call, access, path, record'}
use Rattle.ast.specs.Syntax.{typed_record, list, not', assign, compound_assign, bin_op, negate, if_else, while, for, question_mark, f_string, parentheses}
use Rattle.ast.specs.Syntax.{Exprs, no_exprs, ◌∷ᵉ◌, MaybeExpr, no_expr, some_expr, Entries, no_entries, entry, Arms, no_arms, arm, Parts}
use Rattle.ast.specs.Syntax.{no_parts, string}
use Rattle.ast.specs.Syntax.{value, Block, braces, MaybeBlock, no_block, some_block, Stmts, no_stmts, ◌∷ˢ◌, Stmt, stmt, StmtForm, let', import_stmt, does}
use Rattle.ast.specs.Syntax.{Variants, no_variants, variant, Declaration, filter_map, const, record_decl, enum_decl, function, test, import_decl}
use Rattle.ast.specs.Syntax.{SyntaxTree}
use Rattle.tree.specs.FormKinds.{form_kind}
use Rattle.rows.specs.Node.{Text, str, ascii, line, empty_line, line_or_space, wrap_parent, if_wrap}
use Rattle.rows.specs.Words.{word}
use Rattle.acts.specs.Act.{Given, Act, ◌⨟◌, ◌⨟?◌, skip, when, push, step_alone, grouped, indented, indented_next, called, says, content}
use Rattle.comments.specs.Comments.{whitespace, pop_whitespace, pop_trailing_comment}
use Rattle.layout.specs.declared.forms.WrapStyle.{WrapStyle}
use Rattle.layout.specs.declared.forms.WrapStyle.TheVariants.{Tight, Spaced, Wrap}

-- an element of `separated`: where its span starts, and what the closure does with it
pub record Elem : Type 0 where
  pub start : ℕ
  pub act : Act

-- `Precedence`, its variants in order
abbrev pub Bottom : ℕ
Bottom = 0

abbrev pub LogicalOr : ℕ
LogicalOr = 1

abbrev pub LogicalAnd : ℕ
LogicalAnd = 2

abbrev pub Comparison : ℕ
Comparison = 3

abbrev pub AddSub : ℕ
AddSub = 4

abbrev pub MulDiv : ℕ
MulDiv = 5

abbrev pub Exp : ℕ
Exp = 6

abbrev pub Not' : ℕ
Not' = 7

abbrev pub Chain : ℕ
Chain = 8

abbrev pub Unit' : ℕ
Unit' = 9

-- `binop_precedence`, by the place in `BinOp`: And, Or; Eq, Ne, Lt, Le, Gt, Ge; Add, Sub; Mul, Div, Mod; Exp
abbrev pub binop_precedence : ℕ → ℕ
binop_precedence op =
    get_or
    (LogicalAnd ∷ LogicalOr
    ∷ Comparison ∷ Comparison ∷ Comparison ∷ Comparison ∷ Comparison ∷ Comparison
    ∷ AddSub ∷ AddSub
    ∷ MulDiv ∷ MulDiv ∷ MulDiv
    ∷ Exp
    ∷ [])
    op Bottom

-- the symbols of `binop`, of `CompoundAssign` and of `Return`, by the place in `BinOp`, in `CompoundAssignOp` and in `ReturnKind`
abbrev pub symbol : ℕ → String
symbol op = get_or ("&&" ∷ "||" ∷ "==" ∷ "!=" ∷ "<" ∷ "<=" ∷ ">" ∷ ">=" ∷ "+" ∷ "-" ∷ "*" ∷ "/" ∷ "%" ∷ "**" ∷ []) op ""

abbrev pub assign_symbol : ℕ → String
assign_symbol op = get_or (" += " ∷ " -= " ∷ " *= " ∷ " /= " ∷ " %= " ∷ []) op ""

abbrev pub return_word : ℕ → String
return_word kind = get_or ("return" ∷ "accept" ∷ "reject" ∷ []) kind ""

-- `expr_precedence`
abbrev pub form_precedence : Form → ℕ
form_precedence (return' k e) = Unit'
form_precedence (literal s w) = Unit'
form_precedence (block b) = Unit'
form_precedence (match' e s a) = Unit'
form_precedence (function_call e s es) = Chain
form_precedence (access e i) = Chain
form_precedence (path p) = Chain
form_precedence (record' s es) = Unit'
form_precedence (typed_record p s es) = Unit'
form_precedence (list es) = Unit'
form_precedence (not' e) = Unit'
form_precedence (assign p e) = Unit'
form_precedence (compound_assign p o e) = Unit'
form_precedence (bin_op l s o r) = binop_precedence o
form_precedence (negate e) = Not'
form_precedence (if_else c b e) = Unit'
form_precedence (while c b) = Unit'
form_precedence (for i e b) = Unit'
form_precedence (question_mark e) = Chain
form_precedence (f_string ps) = Unit'
form_precedence (parentheses e) = Unit'

abbrev pub expr_precedence : Expr → ℕ
expr_precedence (expr s f) = form_precedence f

-- What the first loop of `binop` leaves: the leftmost operand, what is laid for the operators on the stack, and whether the next operator is
-- the first. (That the whole is the Rust's two loops over a stack is claimed in layout_facts/specs/Binop.antt.)
pub record Operands : Type 0 where
  pub left : Act
  pub ops : Act
  pub first : Bool

-- ---- tests on the tree
abbrev pub is_some : {A : Type 0} → Option A → Bool
is_some None = false
is_some (Some a) = true

abbrev pub is_group : ImportGroup → Bool
is_group no_group = false
is_group (group s is) = true

abbrev pub type_span : TypeExpr → Span
type_span (type s f) = s

abbrev pub import_span : Import → Span
import_span (import s p q) = s

abbrev pub expr_span : Expr → Span
expr_span (expr s f) = s

abbrev pub stmt_span : Stmt → Span
stmt_span (stmt s f) = s

-- the span of the last of some types
unfoldable pub last_span : TypeExpr → Types → Span
last_span t no_types = type_span t
last_span t (u ∷ᵗ us) = last_span u us

abbrev pub none_of : Stmts → Bool
none_of no_stmts = true
none_of (x ∷ˢ ss) = false

-- a block with neither statements nor a last expression
abbrev pub is_empty : Stmts → MaybeExpr → Bool
is_empty ss no_expr = none_of ss
is_empty ss (some_expr e) = false

-- a block, which needs no `,` in an arm; and the five variants that need no `;` as a statement
abbrev pub is_block : Expr → Bool
is_block (expr s f) = eqb (form_kind f) BLOCK_EXPR

abbrev pub is_braced : Expr → Bool
is_braced (expr s f) =
    let k = form_kind f in
    eqb k BLOCK_EXPR || eqb k MATCH || eqb k IF_ELSE || eqb k WHILE || eqb k FOR

abbrev pub unless_empty : List Ident → Act → Act
unless_empty [] a = skip
unless_empty (i ∷ is) a = a

-- ---- pieces that read nothing of what is given
-- `separated`: the line or the space inside its brackets, and what comes before its elements
abbrev pub edge : WrapStyle → Act
edge Tight = push line
edge Spaced = push line_or_space
edge Wrap = push line

abbrev pub is_wrap : WrapStyle → Bool
is_wrap Tight = false
is_wrap Spaced = false
is_wrap Wrap = true

unfoldable pub opens : String → WrapStyle → Act
opens start style = when (is_wrap style) (push wrap_parent) ⨟ says start ⨟ edge style

-- `binop`: no operator is on the stack; and what it lays after its first loop
abbrev pub leftmost : Act → Operands
leftmost a = record { left = a; ops = skip; first = true }

unfoldable pub binop : Operands → Act
binop c = grouped (λ id. c.left ⨟ push line_or_space ⨟ indented c.ops)

-- the parts of an f-string: a text of the source, and a value
abbrev pub text_part : Span → Act
text_part s = push (ascii (content s))

unfoldable pub placeholder : Act → Act
placeholder a = says "{" ⨟ a ⨟ says "}"

-- the condition of `if`, `while` and `for`, after its word, and the block
unfoldable pub clause : String → Act → Act → Act
clause w a b = says w ⨟ grouped (λ id. indented a) ⨟ says " " ⨟ b

-- how a block starts
unfoldable pub block_start : Bool → Act
block_start empty = says "{" ⨟ push line ⨟ when (not empty) (push wrap_parent)

module _ (g : Given) where
  -- `pop_whitespace` where what it returns isn't looked at
  abbrev pub gap : ℕ → Bool → Bool → Bool → Act
  gap position a b c = step_alone (pop_whitespace g position a b c)

  -- `Node::str`, of the image's texts: so many of its bytes, with the width that it supplies for them
  abbrev pub image_str : ℕ → ℕ → ℕ → Act
  image_str width start size =
      let text : Text = record { origin = 1; start = start; size = size } in
      push (str (g.columns width text) text)

  -- `Node::ident`
  abbrev pub ident : Ident → Act
  ident i = image_str i.width i.start i.size

  -- ---- `separated`
  -- what comes before an element
  unfoldable pub before_elem : String → Bool → ℕ → Act
  before_elem separator first position =
      when (not first && not (eqt separator "")) (says separator)
      ⨟ gap position true true false
      ⨟ when (not first) (push line_or_space)

  -- the loop over the elements
  unfoldable pub elements : String → Bool → List Elem → Act
  elements separator first [] = skip
  elements separator first (e ∷ es) = before_elem separator first e.start ⨟ e.act ⨟ elements separator false es

  -- what comes after the elements
  unfoldable pub ends : String → ℕ → Span → Act
  ends separator id span =
      when (not (eqt separator "")) (push (if_wrap id (ascii (word separator)) (ascii (word "")))) ⨟ gap span.end true false false

  -- in the group with the number id
  unfoldable pub inside : String → String → String → List Elem → Span → WrapStyle → ℕ → Act
  inside start end separator [] span style id =
      says start ⨟ push line ⨟ indented (gap span.end false false false) ⨟ push line ⨟ says end ⨟ pop_trailing_comment g
  inside start end separator (e ∷ es) span style id =
      opens start style
      ⨟ indented (elements separator true (e ∷ es) ⨟ ends separator id span)
      ⨟ edge style
      ⨟ says end
      ⨟ pop_trailing_comment g

  unfoldable pub separated : String → String → String → List Elem → Span → WrapStyle → Act
  separated start end separator es span style = grouped (λ id. inside start end separator es span style id)

  -- `params`, `type_params`, `record_type`, `function_args` and `record`, over what the closure of each makes of the elements
  abbrev pub params : List Elem → Span → Act
  params es span = separated "(" ")" "," es span Tight

  abbrev pub type_params : List Elem → Span → Act
  type_params es span = separated "[" "]" "," es span Tight

  abbrev pub record_type_rule : List Elem → Span → WrapStyle → Act
  record_type_rule es span style = separated "{" "}" "," es span style

  abbrev pub function_args : List Elem → Span → Act
  function_args es span = separated "(" ")" "," es span Tight

  abbrev pub record_rule : List Elem → Span → Act
  record_rule es span = separated "{" "}" "," es span Spaced

  -- ---- `path`
  -- an identifier after the first, and all of them
  unfoldable pub path_next : Bool → Ident → Act
  path_next allow_line_breaks i = when allow_line_breaks (push line) ⨟ gap i.span.end false false false ⨟ says "." ⨟ ident i

  unfoldable pub path_more : Bool → List Ident → Act
  path_more allow_line_breaks [] = skip
  path_more allow_line_breaks (i ∷ is) = path_next allow_line_breaks i ⨟ path_more allow_line_breaks is

  unfoldable pub path_rule : Path → Bool → Bool → Act
  path_rule p true allow_line_breaks =
      grouped (λ id. ident p.first ⨟ indented (path_more allow_line_breaks p.more)) ⨟ pop_trailing_comment g
  path_rule p false allow_line_breaks = ident p.first ⨟ path_more allow_line_breaks p.more ⨟ pop_trailing_comment g

  -- identifiers as elements: `type_params`, and the fields of a pattern
  abbrev pub ident_elems : List Ident → List Elem
  ident_elems [] = []
  ident_elems (i ∷ is) = record { start = i.span.start; act = ident i } ∷ ident_elems is

  -- a name, and what it names
  abbrev pub named : Ident → Act → Act
  named i a = ident i ⨟ says ": " ⨟ a

  -- ---- `type_expr`
  unfoldable mutual
    pub type_expr : TypeExpr → Act
    type_expr (type s f) = type_form f

    pub type_form : TypeForm → Act
    type_form (option t) = type_expr t ⨟ says "?"
    type_form (type_path p a) = path_rule p true true ⨟ type_args a
    type_form never = says "!"
    type_form unit = says "()"
    type_form (record_type s fs) = record_type_rule (field_elems fs) s Tight

    pub type_args : TypeArgs → Act
    type_args no_args = skip
    type_args (args s ts) = separated "[" "]" "," (type_elems ts) s Tight

    pub type_elems : Types → List Elem
    type_elems no_types = []
    type_elems (t ∷ᵗ ts) = record { start = (type_span t).start; act = type_expr t } ∷ type_elems ts

    pub field_elems : Fields → List Elem
    field_elems no_fields = []
    field_elems (field s i t fs) = record { start = s.start; act = named i (type_expr t) } ∷ field_elems fs

  -- ---- `import_path`
  abbrev pub import_first : Option Path → Act
  import_first None = skip
  import_first (Some p) = path_rule p true false

  abbrev pub one_or : Imports → Act → Act → Act
  one_or no_imports one more = one
  one_or (i ∷ⁱ is) one more = more

  unfoldable mutual
    pub import_path : Import → Act
    import_path (import s p q) = import_first p ⨟ when (is_some p && is_group q) (says ".") ⨟ import_group q

    pub import_group : ImportGroup → Act
    import_group no_group = skip
    import_group (group s is) = import_items s is

    -- a group of one item loses its braces
    pub import_items : Span → Imports → Act
    import_items s no_imports = separated "{" "}" "," [] s Tight
    import_items s (i ∷ⁱ is) =
        one_or is (import_path i)
        (separated "{" "}" "," (record { start = (import_span i).start; act = import_path i } ∷ import_elems is) s Tight)

    pub import_elems : Imports → List Elem
    import_elems no_imports = []
    import_elems (i ∷ⁱ is) = record { start = (import_span i).start; act = import_path i } ∷ import_elems is

  -- ---- the pattern of a match arm
  unfoldable pub pattern : Pattern → Act
  pattern underscore = says "_"
  pattern (enum_variant i None) = ident i
  pattern (enum_variant i (Some fs)) = ident i ⨟ separated "(" ")" "," (ident_elems fs.elems) fs.span Tight

  -- ---- `binop`
  -- what comes before the right operand
  unfoldable pub operator : Bool → Span → ℕ → Act
  operator first s op =
      (pop_whitespace g s.start true true false ⨟? (λ gap. when (not first && not (whitespace gap)) (push line_or_space)))
      ⨟ says (symbol op)
      ⨟ says " "

  -- one more operator and its right operand
  abbrev pub popped : Operands → Span → ℕ → Act → Operands
  popped c s op right = record { left = c.left; ops = c.ops ⨟ operator c.first s op ⨟ right; first = false }

  -- `literal`, by its payload byte: 0 as it is in the source, then `Bool(true)`, `Bool(false)` and `Unit`
  unfoldable pub literal_rule : Span → ℕ → Act
  literal_rule s which =
      gap s.end true true false
      ⨟ get_or (push (ascii (content s)) ∷ says "true" ∷ says "false" ∷ says "()" ∷ []) which skip

  -- `access`: its field, and the whole
  abbrev pub field_name : Ident → Act
  field_name i = push line ⨟ says "." ⨟ ident i

  abbrev pub access_rule : Act → Ident → Act
  access_rule e i = e ⨟ field_name i

  -- `r#match`: its closure, with the arm's guard and body, and whether that is a block; and the whole
  abbrev pub arm_steps : Pattern → Act → Act → Bool → Act
  arm_steps p guard body ends = pattern p ⨟ guard ⨟ says " => " ⨟ body ⨟ when (not ends) (says ",")

  abbrev pub match_rule : Act → List Elem → Span → Act
  match_rule e arms span = says "match " ⨟ e ⨟ says " " ⨟ separated "{" "}" "" arms span Wrap

  -- what comes before a statement or the last expression of a block, and after a statement
  unfoldable pub before_stmt : Bool → ℕ → Act
  before_stmt first position = cond first (gap position false true false) (gap position true true true) ⨟ push line

  unfoldable pub after_stmt : ℕ → Act
  after_stmt position = gap position false false false ⨟ pop_trailing_comment g

  abbrev pub let_type : Option TypeExpr → Act
  let_type None = skip
  let_type (Some t) = says ": " ⨟ type_expr t

  -- ---- `expr_with_precedence`, `block` and `stmt`
  unfoldable mutual
    pub expr_with_precedence : Expr → ℕ → Act
    expr_with_precedence (expr s f) outer = expr_form s f outer ⨟ pop_trailing_comment g

    -- its `match`; where the Rust asks for `precedence > outer`, the form's own precedence is asked for
    pub expr_form : Span → Form → ℕ → Act
    expr_form s (return' kind e) outer = says (return_word kind) ⨟ maybe_expr " " e
    expr_form s (literal t which) outer = literal_rule t which
    expr_form s (block b) outer = block_rule b
    expr_form s (match' e t arms) outer = match_rule (expr_with_precedence e Bottom) (arm_elems arms) t
    expr_form s (function_call e t es) outer =
        cond (ltb outer (form_precedence (function_call e t es))) (called (expr_with_precedence e Chain) (function_args (expr_elems es) t))
        (expr_with_precedence e Chain ⨟ function_args (expr_elems es) t)
    expr_form s (access e i) outer =
        cond (ltb outer (form_precedence (access e i))) (grouped (λ id. indented_next (access_rule (expr_with_precedence e Chain) i)))
        (access_rule (expr_with_precedence e Chain) i)
    expr_form s (path p) outer = path_rule p (ltb outer (form_precedence (path p))) true
    expr_form s (record' t es) outer = record_rule (entry_elems es) t
    expr_form s (typed_record p t es) outer = path_rule p true true ⨟ says " " ⨟ record_rule (entry_elems es) t
    expr_form s (list es) outer = separated "[" "]" "," (grouped_elems es) s Tight
    expr_form s (not' e) outer = says "!" ⨟ expr_with_precedence e (form_precedence (not' e))
    expr_form s (assign p e) outer = path_rule p true true ⨟ says " = " ⨟ expr_with_precedence e Bottom
    expr_form s (compound_assign p op e) outer = path_rule p true true ⨟ says (assign_symbol op) ⨟ expr_with_precedence e Bottom
    expr_form s (bin_op l t op r) outer = binop (popped (operands (binop_precedence op) l) t op (expr_with_precedence r Bottom))
    expr_form s (negate e) outer = says "-" ⨟ expr_with_precedence e Bottom
    expr_form s (if_else c b e) outer = clause "if " (expr_with_precedence c Bottom) (block_rule b) ⨟ otherwise e
    expr_form s (while c b) outer = clause "while " (expr_with_precedence c Bottom) (block_rule b)
    expr_form s (for i e b) outer = says "for " ⨟ ident i ⨟ clause " in " (expr_with_precedence e Bottom) (block_rule b)
    expr_form s (question_mark e) outer = expr_with_precedence e outer ⨟ says "?"
    expr_form s (f_string ps) outer = gap s.start true true false ⨟ says "f\"" ⨟ parts_rule ps ⨟ says "\""
    expr_form s (parentheses e) outer = gap s.start true true false ⨟ says "(" ⨟ expr_with_precedence e Bottom ⨟ says ")"

    -- the first loop of `binop`, down the left operands: an operator of the same precedence goes onto the stack, and is popped after those
    -- to its left; anything else is the leftmost operand, and is laid as a whole (`whole` is its `expr_with_precedence`, written out since
    -- recursion is on parts)
    pub operands : ℕ → Expr → Operands
    operands precedence (expr s f) = operands_form precedence f (expr_form s f precedence ⨟ pop_trailing_comment g)

    pub operands_form : ℕ → Form → Act → Operands
    operands_form precedence (bin_op l t op r) whole =
        let longer = popped (operands precedence l) t op (expr_with_precedence r Bottom) in
        cond (eqb (form_precedence (bin_op l t op r)) precedence) longer (leftmost whole)
    operands_form precedence (return' kind e) whole = leftmost whole
    operands_form precedence (literal t which) whole = leftmost whole
    operands_form precedence (block b) whole = leftmost whole
    operands_form precedence (match' e t arms) whole = leftmost whole
    operands_form precedence (function_call e t es) whole = leftmost whole
    operands_form precedence (access e i) whole = leftmost whole
    operands_form precedence (path p) whole = leftmost whole
    operands_form precedence (record' t es) whole = leftmost whole
    operands_form precedence (typed_record p t es) whole = leftmost whole
    operands_form precedence (list es) whole = leftmost whole
    operands_form precedence (not' e) whole = leftmost whole
    operands_form precedence (assign p e) whole = leftmost whole
    operands_form precedence (compound_assign p op e) whole = leftmost whole
    operands_form precedence (negate e) whole = leftmost whole
    operands_form precedence (if_else c b e) whole = leftmost whole
    operands_form precedence (while c b) whole = leftmost whole
    operands_form precedence (for i e b) whole = leftmost whole
    operands_form precedence (question_mark e) whole = leftmost whole
    operands_form precedence (f_string ps) whole = leftmost whole
    operands_form precedence (parentheses e) whole = leftmost whole

    -- the value of a `return`, the guard of an arm
    pub maybe_expr : String → MaybeExpr → Act
    maybe_expr w no_expr = skip
    maybe_expr w (some_expr e) = says w ⨟ expr_with_precedence e Bottom

    -- the `else` of an `if`
    pub otherwise : MaybeBlock → Act
    otherwise no_block = skip
    otherwise (some_block b) = says " else " ⨟ block_rule b

    -- the closures of `function_args`, of a list, of `record` and of `r#match`
    pub expr_elems : Exprs → List Elem
    expr_elems no_exprs = []
    expr_elems (e ∷ᵉ es) = record { start = (expr_span e).start; act = expr_with_precedence e Bottom } ∷ expr_elems es

    pub grouped_elems : Exprs → List Elem
    grouped_elems no_exprs = []
    grouped_elems (e ∷ᵉ es) = record { start = (expr_span e).start; act = grouped (λ id. expr_with_precedence e Bottom) } ∷ grouped_elems es

    pub entry_elems : Entries → List Elem
    entry_elems no_entries = []
    entry_elems (entry s i e es) = record { start = s.start; act = named i (expr_with_precedence e Bottom) } ∷ entry_elems es

    pub arm_elems : Arms → List Elem
    arm_elems no_arms = []
    arm_elems (arm s p guard body arms) =
        record { start = s.start; act = arm_steps p (maybe_expr " if " guard) (expr_with_precedence body Bottom) (is_block body) } ∷ arm_elems arms

    -- the parts of an f-string
    pub parts_rule : Parts → Act
    parts_rule no_parts = skip
    parts_rule (string s ps) = text_part s ⨟ parts_rule ps
    parts_rule (value e ps) = placeholder (expr_with_precedence e Bottom) ⨟ parts_rule ps

    -- `block`. The Rust's `first` is an argument of `stmts_rule`, after the statements `none_of ss`, and after the last expression `is_empty ss last`.
    pub block_rule : Block → Act
    block_rule (braces s ss last) =
        grouped (λ id.
        block_start (is_empty ss last)
        ⨟ indented (stmts_rule ss true ⨟ last_rule last (none_of ss) ⨟ gap s.end (not (is_empty ss last)) false false)
        ⨟ push line
        ⨟ says "}")

    pub stmts_rule : Stmts → Bool → Act
    stmts_rule no_stmts first = skip
    stmts_rule (x ∷ˢ ss) first =
        before_stmt first (stmt_span x).start ⨟ stmt_rule x ⨟ after_stmt (stmt_span x).end ⨟ stmts_rule ss false

    pub last_rule : MaybeExpr → Bool → Act
    last_rule no_expr first = skip
    last_rule (some_expr e) first = before_stmt first (expr_span e).start ⨟ expr_with_precedence e Bottom ⨟ pop_trailing_comment g

    -- `stmt`
    pub stmt_rule : Stmt → Act
    stmt_rule (stmt s f) = stmt_form f

    pub stmt_form : StmtForm → Act
    stmt_form (let' i t e) = says "let " ⨟ ident i ⨟ let_type t ⨟ says " = " ⨟ expr_with_precedence e Bottom ⨟ says ";"
    stmt_form (import_stmt p) = says "import " ⨟ import_path p ⨟ says ";"
    stmt_form (does e) = grouped (λ id. expr_with_precedence e Bottom ⨟ when (not (is_braced e)) (says ";"))

  -- `expr`
  abbrev pub expr_rule : Expr → Act
  expr_rule e = expr_with_precedence e Bottom

  -- ---- `declaration`
  -- how each declaration begins: `first` is true of the file's first
  unfoldable pub opening : ℕ → Bool → Act
  opening position first =
      pop_whitespace g position (not first) true (not first) ⨟? (λ gap. when (not first && not (whitespace gap)) (push line))

  abbrev pub some_type_params : Option Idents → Act
  some_type_params None = skip
  some_type_params (Some is) = unless_empty is.elems (type_params (ident_elems is.elems) is.span)

  abbrev pub return_type : Option TypeExpr → Act
  return_type None = skip
  return_type (Some t) = says "-> " ⨟ type_expr t ⨟ says " "

  -- the types of a variant, in a list whose end is taken from the last of them
  abbrev pub variant_types : Types → Act
  variant_types no_types = skip
  variant_types (t ∷ᵗ ts) = separated "(" ")" "," (type_elems (t ∷ᵗ ts)) (last_span t ts) Tight

  -- the closure of an enum's variants, and the variants
  abbrev pub variant_steps : Ident → Types → Act
  variant_steps i ts = ident i ⨟ variant_types ts

  unfoldable pub variant_elems : Variants → List Elem
  variant_elems no_variants = []
  variant_elems (variant s i ts vs) = record { start = s.start; act = variant_steps i ts } ∷ variant_elems vs

  -- the start of each declaration but `import`: its word and its name
  unfoldable pub declares : String → Bool → Ident → Act
  declares w first i = opening i.span.start first ⨟ says w ⨟ ident i

  unfoldable pub declaration : Declaration → Bool → Act
  declaration (filter_map i s fs b) first = declares "filtermap " first i ⨟ params (field_elems fs) s ⨟ says " " ⨟ block_rule b
  declaration (const i t e) first = declares "const " first i ⨟ says ": " ⨟ type_expr t ⨟ says " = " ⨟ expr_rule e ⨟ says ";"
  declaration (record_decl i ps s fs) first = declares "record " first i ⨟ some_type_params ps ⨟ says " " ⨟ record_type_rule (field_elems fs) s Wrap
  declaration (enum_decl i ps s vs) first =
      declares "enum " first i ⨟ some_type_params ps ⨟ says " " ⨟ separated "{" "}" "," (variant_elems vs) s Wrap
  declaration (function i s fs t b) first = declares "fn " first i ⨟ params (field_elems fs) s ⨟ says " " ⨟ return_type t ⨟ block_rule b
  declaration (test i b) first = declares "test " first i ⨟ says " " ⨟ block_rule b
  declaration (import_decl p) first = opening (import_span p).start first ⨟ says "import " ⨟ import_path p ⨟ says ";"

  -- ---- `fmt_parsed`
  unfoldable pub shebang_rule : Option Ident → Act
  shebang_rule None = skip
  shebang_rule (Some i) =
      image_str i.width i.start (trim_end g.image i.start (i.start + i.size) - i.start) ⨟ push empty_line

  unfoldable pub declarations_rule : List Declaration → Bool → Act
  declarations_rule [] first = skip
  declarations_rule (d ∷ ds) first = declaration d first ⨟ declarations_rule ds false

  unfoldable pub fmt_parsed : SyntaxTree → Act
  fmt_parsed t = shebang_rule t.shebang ⨟ declarations_rule t.declarations true ⨟ push line
