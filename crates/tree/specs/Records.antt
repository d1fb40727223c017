-- The syntax tree of src/ast.rs that the records of an image are: a total function on the trees that the reader gives. Where the grammar
-- rules a tree out, what it gives does not matter.
use Rattle.std.specs.Prelude.{ℕ, ◌+◌, ◌-◌, List, [], ◌∷◌, Bool, true, false, cond, get_or, eqb, Option, None, Some}
use Rattle.image.specs.Read.{width_bytes, stored_width, Head, Tree, Trees, absent, node, nil, ◌▸◌}
use Rattle.image.specs.Kinds.{ACCESS, ASSIGN, BIN_OP, BLOCK_EXPR, COMPOUND_ASSIGN, CONST, ENUM, F_STRING, FILTER_MAP, FOR, FUNCTION}
use Rattle.image.specs.Kinds.{FUNCTION_CALL, IF_ELSE, IMPORT_STMT, LET, LIST_EXPR, LITERAL_EXPR, MATCH, NEGATE, NEVER, NOT, OPTION, PATH_EXPR}
use Rattle.image.specs.Kinds.{QUESTION_MARK, RECORD, RECORD_EXPR, RETURN, TEST, TEXT_PART, TYPE_PATH, TYPED_RECORD, UNDERSCORE, UNIT, WHILE}
use Rattle.ast.specs.Syntax.{Span, Ident, Path, Idents, TypeExpr, type, TypeForm, option, type_path, never, unit, record_type, TypeArgs, no_args}
use Rattle.ast.specs.Syntax.{args, Types, no_types, ◌∷ᵗ◌, Fields, no_fields, field, Import, import, ImportGroup, no_group, group, Imports}
use Rattle.ast.specs.Syntax.{no_imports, ◌∷ⁱ◌, Pattern, underscore, enum_variant, Expr, expr, Form, return', literal, block, match', function_call}
use Rattle.ast.specs.Syntax.{access, path, record', typed_record, list, not', assign, compound_assign, bin_op, negate, if_else, while, for}
use Rattle.ast.specs.Syntax.{question_mark, f_string, parentheses, Exprs, no_exprs, ◌∷ᵉ◌, MaybeExpr, no_expr, some_expr, Entries, no_entries, entry}
use Rattle.ast.specs.Syntax.{Arms, no_arms, arm, Parts, no_parts, string, value, Block, braces, MaybeBlock, no_block, some_block, Stmts, no_stmts}
use Rattle.ast.specs.Syntax.{◌∷ˢ◌, Stmt, stmt, StmtForm, let', import_stmt, does, Variants, no_variants, variant, Declaration, filter_map, const}
use Rattle.ast.specs.Syntax.{record_decl, enum_decl, function, test, import_decl, SyntaxTree}

-- A record, taken as each part of the syntax tree; its place says which of them it is. An element that has no type of its own is a
-- function of the elements after it.
pub record Views : Type 0 where
  pub there : Bool
  pub span : Span
  pub byte : ℕ
  pub ident : Ident  -- TEXT
  pub path : Path  -- PATH
  pub type : TypeExpr  -- any type
  pub field : Fields → Fields  -- NAME-AND-TYPE
  pub import : Import  -- IMPORT
  pub pattern : Pattern  -- any pattern
  pub expr : Expr  -- any expression
  pub entry : Entries → Entries  -- FIELD
  pub arm : Arms → Arms  -- ARM
  pub part : Parts → Parts  -- a part of an f-string
  pub block : Block  -- BLOCK
  pub stmt : Stmt  -- any statement
  pub variant : Variants → Variants  -- VARIANT
  pub declaration : Declaration  -- any declaration
  -- its children, as the elements of each list
  pub idents : List Ident
  pub types : Types
  pub fields : Fields
  pub imports : Imports
  pub exprs : Exprs
  pub entries : Entries
  pub arms : Arms
  pub parts : Parts
  pub stmts : Stmts
  pub variants : Variants

-- ---- no record
abbrev pub no_span : Span
no_span = record { start = 0; end = 0 }

abbrev pub no_ident : Ident
no_ident = record { span = no_span; width = 0; start = 0; size = 0 }

abbrev pub nothing : Views
nothing =
    let e = expr no_span (list no_exprs) in
    record {
      there = false;
      span = no_span;
      byte = 0;
      ident = no_ident;
      path = record { first = no_ident; more = [] };
      type = type no_span unit;
      field = λ more. more;
      import = import no_span None no_group;
      pattern = underscore;
      expr = e;
      entry = λ more. more;
      arm = λ more. more;
      part = λ more. more;
      block = braces no_span no_stmts no_expr;
      stmt = stmt no_span (does e);
      variant = λ more. more;
      declaration = import_decl (import no_span None no_group);
      idents = [];
      types = no_types;
      fields = no_fields;
      imports = no_imports;
      exprs = no_exprs;
      entries = no_entries;
      arms = no_arms;
      parts = no_parts;
      stmts = no_stmts;
      variants = no_variants;
    }

-- ---- children by their place
abbrev pub first : List Views → Views
first [] = nothing
first (x ∷ xs) = x

abbrev pub rest : List Views → List Views
rest [] = []
rest (x ∷ xs) = xs

abbrev pub second : List Views → Views
second xs = first (rest xs)

abbrev pub third : List Views → Views
third xs = second (rest xs)

abbrev pub fourth : List Views → Views
fourth xs = third (rest xs)

-- ---- a child that may be absent
abbrev pub maybe : {A : Type 0} → Bool → A → Option A
maybe true a = Some a
maybe false a = None

abbrev pub maybe_args : Bool → Span → Types → TypeArgs
maybe_args true s ts = args s ts
maybe_args false s ts = no_args

abbrev pub maybe_group : Bool → Span → Imports → ImportGroup
maybe_group true s is = group s is
maybe_group false s is = no_group

abbrev pub maybe_expr : Bool → Expr → MaybeExpr
maybe_expr true e = some_expr e
maybe_expr false e = no_expr

abbrev pub maybe_block : Bool → Block → MaybeBlock
maybe_block true k = some_block k
maybe_block false k = no_block

abbrev pub list_of : Views → Idents
list_of x = record { span = x.span; elems = x.idents }

-- ---- the elements of a list
abbrev pub idents : List Views → List Ident
idents [] = []
idents (x ∷ xs) = x.ident ∷ idents xs

abbrev pub types : List Views → Types
types [] = no_types
types (x ∷ xs) = x.type ∷ᵗ types xs

abbrev pub fields : List Views → Fields
fields [] = no_fields
fields (x ∷ xs) = x.field (fields xs)

abbrev pub imports : List Views → Imports
imports [] = no_imports
imports (x ∷ xs) = x.import ∷ⁱ imports xs

abbrev pub exprs : List Views → Exprs
exprs [] = no_exprs
exprs (x ∷ xs) = x.expr ∷ᵉ exprs xs

abbrev pub entries : List Views → Entries
entries [] = no_entries
entries (x ∷ xs) = x.entry (entries xs)

abbrev pub arms : List Views → Arms
arms [] = no_arms
arms (x ∷ xs) = x.arm (arms xs)

abbrev pub parts : List Views → Parts
parts [] = no_parts
parts (x ∷ xs) = x.part (parts xs)

abbrev pub stmts : List Views → Stmts
stmts [] = no_stmts
stmts (x ∷ xs) = x.stmt ∷ˢ stmts xs

abbrev pub variants : List Views → Variants
variants [] = no_variants
variants (x ∷ xs) = x.variant (variants xs)

abbrev pub declarations : List Views → List Declaration
declarations [] = []
declarations (x ∷ xs) = x.declaration ∷ declarations xs

-- ---- the forms of a part, by the record's kind, from its children in order: document 01, "Kinds and children"
-- `else` is the one kind left: RECORD-TYPE, ENUM-VARIANT, PARENTHESES, EXPR-PART, EXPR-STMT and IMPORT.
infixr 30 ◌⇒◌∣◌
pub data Forms (A : Type 0) : Type 0 where
  else : A → Forms A
  ◌⇒◌∣◌ : ℕ → A → Forms A → Forms A

abbrev pub form : {A : Type 0} → ℕ → Forms A → A
form k (else a) = a
form k (n ⇒ a ∣ fs) = cond (eqb k n) a (form k fs)

abbrev pub type_forms : List Views → Forms TypeForm
type_forms xs =
    OPTION ⇒ option (first xs).type ∣
    TYPE_PATH ⇒ type_path (first xs).path (maybe_args (second xs).there (second xs).span (second xs).types) ∣
    NEVER ⇒ never ∣
    UNIT ⇒ unit ∣
    else (record_type (first xs).span (first xs).fields)

abbrev pub patterns : List Views → Forms Pattern
patterns xs = UNDERSCORE ⇒ underscore ∣ else (enum_variant (first xs).ident (maybe (second xs).there (list_of (second xs))))

-- n is the payload byte of `return`
abbrev pub expr_forms : ℕ → List Views → Forms Form
expr_forms n xs =
    RETURN ⇒ return' n (maybe_expr (first xs).there (first xs).expr) ∣
    LITERAL_EXPR ⇒ literal (first xs).span (first xs).byte ∣
    BLOCK_EXPR ⇒ block (first xs).block ∣
    MATCH ⇒ match' (first xs).expr (second xs).span (second xs).arms ∣
    FUNCTION_CALL ⇒ function_call (first xs).expr (second xs).span (second xs).exprs ∣
    ACCESS ⇒ access (first xs).expr (second xs).ident ∣
    PATH_EXPR ⇒ path (first xs).path ∣
    RECORD_EXPR ⇒ record' (first xs).span (first xs).entries ∣
    TYPED_RECORD ⇒ typed_record (first xs).path (second xs).span (second xs).entries ∣
    LIST_EXPR ⇒ list (first xs).exprs ∣
    NOT ⇒ not' (first xs).expr ∣
    ASSIGN ⇒ assign (first xs).path (second xs).expr ∣
    COMPOUND_ASSIGN ⇒ compound_assign (first xs).path (second xs).byte (third xs).expr ∣
    BIN_OP ⇒ bin_op (first xs).expr (second xs).span (second xs).byte (third xs).expr ∣
    NEGATE ⇒ negate (first xs).expr ∣
    IF_ELSE ⇒ if_else (first xs).expr (second xs).block (maybe_block (third xs).there (third xs).block) ∣
    WHILE ⇒ while (first xs).expr (second xs).block ∣
    FOR ⇒ for (first xs).ident (second xs).expr (third xs).block ∣
    QUESTION_MARK ⇒ question_mark (first xs).expr ∣
    F_STRING ⇒ f_string (first xs).parts ∣
    else (parentheses (first xs).expr)

abbrev pub fstring_parts : Span → List Views → Forms (Parts → Parts)
fstring_parts s xs = TEXT_PART ⇒ (λ ps. string s ps) ∣ else (λ ps. value (first xs).expr ps)

abbrev pub stmt_forms : List Views → Forms StmtForm
stmt_forms xs =
    LET ⇒ let' (first xs).ident (maybe (second xs).there (second xs).type) (third xs).expr ∣
    IMPORT_STMT ⇒ import_stmt (first xs).import ∣
    else (does (first xs).expr)

abbrev pub import_of : Span → List Views → Import
import_of s xs = import s (maybe (first xs).there (first xs).path) (maybe_group (second xs).there (second xs).span (second xs).imports)

abbrev pub declaration_forms : Span → List Views → Forms Declaration
declaration_forms s xs =
    FILTER_MAP ⇒ filter_map (first xs).ident (second xs).span (second xs).fields (third xs).block ∣
    CONST ⇒ const (first xs).ident (second xs).type (third xs).expr ∣
    RECORD ⇒ record_decl (first xs).ident (maybe (second xs).there (list_of (second xs))) (third xs).span (third xs).fields ∣
    ENUM ⇒ enum_decl (first xs).ident (maybe (second xs).there (list_of (second xs))) (third xs).span (third xs).variants ∣
    FUNCTION ⇒ function (first xs).ident (second xs).span (second xs).fields (maybe (third xs).there (third xs).type) (fourth xs).block ∣
    TEST ⇒ test (first xs).ident (second xs).block ∣
    else (import_decl (import_of s xs))

-- ---- a record, and records one after the other
abbrev pub span_of : Head → Span
span_of h = record { start = h.from; end = h.to }

module _ (b : List ℕ) where
  abbrev pub byte_of : Head → ℕ
  byte_of h = get_or b (h.at + 13) 0

  -- a text: its width, then its bytes up to the record's end
  abbrev pub ident_of : Head → Ident
  ident_of h =
      let start = h.at + 13 + width_bytes b in
      record { span = span_of h; width = stored_width b h.at; start = start; size = h.stop - start }

  abbrev pub views_of : Head → List Views → Views
  views_of h xs =
      let s = span_of h in
      let k = h.kind in
      record {
        there = true;
        span = s;
        byte = byte_of h;
        ident = ident_of h;
        path = record { first = (first xs).ident; more = idents (rest xs) };
        type = type s (form k (type_forms xs));
        field = field s (first xs).ident (second xs).type;
        import = import_of s xs;
        pattern = form k (patterns xs);
        expr = expr s (form k (expr_forms (byte_of h) xs));
        entry = entry s (first xs).ident (second xs).expr;
        arm = arm s (first xs).pattern (maybe_expr (second xs).there (second xs).expr) (third xs).expr;
        part = form k (fstring_parts s xs);
        block = braces s (first xs).stmts (maybe_expr (second xs).there (second xs).expr);
        stmt = stmt s (form k (stmt_forms xs));
        variant = variant s (first xs).ident (second xs).types;
        declaration = form k (declaration_forms s xs);
        idents = idents xs;
        types = types xs;
        fields = fields xs;
        imports = imports xs;
        exprs = exprs xs;
        entries = entries xs;
        arms = arms xs;
        parts = parts xs;
        stmts = stmts xs;
        variants = variants xs;
      }

  unfoldable mutual
    pub views : Tree → Views
    views absent = nothing
    views (node h ts) = views_of h (each ts)

    pub each : Trees → List Views
    each nil = []
    each (t ▸ ts) = views t ∷ each ts

-- ---- the whole: the shebang, then the declarations
abbrev pub tree_of : List Views → SyntaxTree
tree_of xs = record { shebang = maybe (first xs).there (first xs).ident; declarations = declarations (rest xs) }

unfoldable pub syntax_tree : List ℕ → Tree → SyntaxTree
syntax_tree b absent = tree_of []
syntax_tree b (node h ts) = tree_of (each b ts)
