-- Which part of the syntax tree is at which offset of the image: what the contracts of layout's code rest on. An accepted image has its whole tree
-- at the tree's offset (proofs/Whole.antt).
use Rattle.std.specs.Prelude.{ℕ, ◌+◌, ◌≤◌, ◌<◌, ◌≡◌, true, false, List, [], ◌∷◌, length, get_or, Option, None, Some}
use Rattle.text.specs.Utf8.{well_formed, continues}
use Rattle.text.specs.Newlines.{is_range}
use Rattle.image.specs.Bytes.{be32, part}
use Rattle.image.specs.Read.{width_bytes, stored_width, stop_at, kind_at}
use Rattle.image.specs.Limits.{MAX_RECORDS_DEEP}
use Rattle.image.specs.Kinds.{ARM, BLOCK, CONST, ENUM, ENUM_VARIANT, EXPR_PART, FIELD, FILTER_MAP, FUNCTION, IMPORT, LIST, LITERAL, NAME_AND_TYPE}
use Rattle.image.specs.Kinds.{OPERATOR, PATH, RECORD, RECORD_FIELDS, TEST, TEXT, TEXT_PART, TREE, UNDERSCORE, VARIANT}
use Rattle.tree.specs.FormKinds.{form_kind, type_kind, stmt_kind}
use Rattle.ast.specs.Syntax.{Span, Ident, Path, Idents, TypeExpr, type, TypeForm, option, type_path, never, unit, record_type, TypeArgs, no_args}
use Rattle.ast.specs.Syntax.{args, Types, no_types, ◌∷ᵗ◌, Fields, no_fields, field, Import, import, ImportGroup, no_group, group, Imports}
use Rattle.ast.specs.Syntax.{no_imports, ◌∷ⁱ◌, Pattern, underscore, enum_variant, Expr, expr, Form, return', literal, block, match', function_call}
use Rattle.ast.specs.Syntax.{access, path, record', typed_record, list, not', assign, compound_assign, bin_op, negate, if_else, while, for}
use Rattle.ast.specs.Syntax.{question_mark, f_string, parentheses, Exprs, no_exprs, ◌∷ᵉ◌, MaybeExpr, no_expr, some_expr, Entries, no_entries, entry}
use Rattle.ast.specs.Syntax.{Arms, no_arms, arm, Parts, no_parts, string, value, Block, braces, MaybeBlock, no_block, some_block, Stmts, no_stmts}
use Rattle.ast.specs.Syntax.{◌∷ˢ◌, Stmt, stmt, StmtForm, let', import_stmt, does, Variants, no_variants, variant, Declaration, filter_map, const}
use Rattle.ast.specs.Syntax.{record_decl, enum_decl, function, test, import_decl, SyntaxTree}

-- the byte at `at` continues no character
pub record Clear (b : List ℕ) (at : ℕ) : Type 0 where
  pub starts : continues (get_or b at 0) ≡ false

-- A record of a kind at an offset, whole within the image, with its span, which is a range of the source.
pub record Head (s b : List ℕ) (kind : ℕ) (p : Span) (at : ℕ) : Type 0 where
  pub kinds : kind_at b at ≡ kind
  pub long : 9 ≤ be32 b at
  pub fits : stop_at b at ≤ length b
  pub start : be32 b (at + 5) ≡ p.start
  pub end : be32 b (at + 9) ≡ p.end
  pub range : is_range s p.start p.end ≡ true

-- The same where the span isn't read.
pub record Record (s b : List ℕ) (kind at : ℕ) : Type 0 where
  pub span : Span
  pub head : Head s b kind span at

-- a payload byte
pub record Payload (b : List ℕ) (n at : ℕ) : Type 0 where
  pub byte : get_or b (at + 13) 0 ≡ n

-- An absent child: length 0 alone.
pub record Absent (b : List ℕ) (at : ℕ) : Type 0 where
  pub zero : be32 b at ≡ 0
  pub fits : at + 4 ≤ length b

-- nothing more stands from `at` to `end`
pub record Done (at end : ℕ) : Type 0 where
  pub same : at ≡ end

-- one more record stands there, and ends by `end`
pub record Before (b : List ℕ) (at end : ℕ) : Type 0 where
  pub least : stop_at b at ≤ end

-- How many operators stand one in the other's left operand. Each is a record inside the other, and records are 64 deep at most (refusal 5), so
-- a stack of 64 places holds the operators of `binop`.
unfoldable mutual
  pub left_depth : Expr → ℕ
  left_depth (expr s f) = form_depth f

  pub form_depth : Form → ℕ
  form_depth (return' k e) = 0
  form_depth (literal s w) = 0
  form_depth (block b) = 0
  form_depth (match' e s a) = 0
  form_depth (function_call e s es) = 0
  form_depth (access e i) = 0
  form_depth (path p) = 0
  form_depth (record' s es) = 0
  form_depth (typed_record p s es) = 0
  form_depth (list es) = 0
  form_depth (not' e) = 0
  form_depth (assign p e) = 0
  form_depth (compound_assign p o e) = 0
  form_depth (bin_op l s o r) = 1 + left_depth l
  form_depth (negate e) = 0
  form_depth (if_else c b e) = 0
  form_depth (while c b) = 0
  form_depth (for i e b) = 0
  form_depth (question_mark e) = 0
  form_depth (f_string ps) = 0
  form_depth (parentheses e) = 0

module _ (s b : List ℕ) where
  -- where the record after the one at `at` starts
  abbrev pub past : ℕ → ℕ
  past = stop_at b

  -- where the children of a record without a payload stand: a head is 13 bytes, length, kind and span
  abbrev pub first_at : ℕ → ℕ
  first_at at = at + 13

  abbrev pub second_at : ℕ → ℕ
  second_at at = past (first_at at)

  abbrev pub third_at : ℕ → ℕ
  third_at at = past (second_at at)

  abbrev pub fourth_at : ℕ → ℕ
  fourth_at at = past (third_at at)

  -- the last child ends where its record does
  abbrev pub Ends : ℕ → ℕ → Type 0
  Ends last at = Done (past last) (past at)

  -- a text: its width, then its bytes to the record's end
  pub record IdentAt (i : Ident) (at : ℕ) : Type 0 where
    pub head : Head s b TEXT i.span at
    pub wide : stored_width b at ≡ i.width
    pub starts : at + 13 + width_bytes b ≡ i.start
    pub ends : i.start + i.size ≡ past at
    -- it is UTF-8, and what stands behind it continues no character of it
    pub formed : well_formed (part (at + 13 + width_bytes b) (past at) b) ≡ true
    pub clear : Clear b (past at)

  -- texts one after the other, up to `end`
  unfoldable pub IdentsAt : List Ident → ℕ → ℕ → Type 0
  IdentsAt [] at end = Done at end
  IdentsAt (i ∷ is) at end = IdentAt i at × Before b at end × IdentsAt is (past at) end

  -- 4: a text, and any number more
  pub record PathAt (p : Path) (at : ℕ) : Type 0 where
    pub head : Record s b PATH at
    pub first : IdentAt p.first (first_at at)
    pub inside : Before b (first_at at) (past at)
    pub more : IdentsAt p.more (second_at at) (past at)

  -- 3 of 2
  pub record ListAt (is : Idents) (at : ℕ) : Type 0 where
    pub head : Head s b LIST is.span at
    pub elems : IdentsAt is.elems (first_at at) (past at)

  -- an optional child
  unfoldable pub Maybe : {A : Type 0} → (A → ℕ → Type 0) → Option A → ℕ → Type 0
  Maybe P None at = Absent b at
  Maybe P (Some a) at = P a at

  -- ---- types
  unfoldable mutual
    pub TypeAt : TypeExpr → ℕ → Type 0
    TypeAt (type p f) at = Head s b (type_kind f) p at × TypeFormAt f at

    pub TypeFormAt : TypeForm → ℕ → Type 0
    TypeFormAt (option t) at = TypeAt t (first_at at) × Ends (first_at at) at
    TypeFormAt (type_path p a) at = PathAt p (first_at at) × TypeArgsAt a (second_at at) × Ends (second_at at) at
    TypeFormAt never at = Done (first_at at) (past at)
    TypeFormAt unit at = Done (first_at at) (past at)
    TypeFormAt (record_type p fs) at = Head s b LIST p (first_at at) × FieldsAt fs (first_at (first_at at)) (second_at at) × Ends (first_at at) at

    pub TypeArgsAt : TypeArgs → ℕ → Type 0
    TypeArgsAt no_args at = Absent b at
    TypeArgsAt (args p ts) at = Head s b LIST p at × TypesAt ts (first_at at) (past at)

    pub TypesAt : Types → ℕ → ℕ → Type 0
    TypesAt no_types at end = Done at end
    TypesAt (t ∷ᵗ ts) at end = TypeAt t at × Before b at end × TypesAt ts (past at) end

    -- 20, one after the other
    pub FieldsAt : Fields → ℕ → ℕ → Type 0
    FieldsAt no_fields at end = Done at end
    FieldsAt (field p i t fs) at end =
        Head s b NAME_AND_TYPE p at
        × IdentAt i (first_at at)
        × TypeAt t (second_at at)
        × Ends (second_at at) at
        × Before b at end
        × FieldsAt fs (past at) end

  -- ---- imports
  unfoldable mutual
    pub ImportAt : Import → ℕ → Type 0
    ImportAt (import p q g) at =
        Head s b IMPORT p at × Maybe PathAt q (first_at at) × ImportGroupAt g (second_at at) × Ends (second_at at) at

    pub ImportGroupAt : ImportGroup → ℕ → Type 0
    ImportGroupAt no_group at = Absent b at
    ImportGroupAt (group p is) at = Head s b LIST p at × ImportsAt is (first_at at) (past at)

    pub ImportsAt : Imports → ℕ → ℕ → Type 0
    ImportsAt no_imports at end = Done at end
    ImportsAt (i ∷ⁱ is) at end = ImportAt i at × Before b at end × ImportsAt is (past at) end

  -- ---- patterns: 82, 83
  unfoldable pub PatternAt : Pattern → ℕ → Type 0
  PatternAt underscore at = Record s b UNDERSCORE at × Done (first_at at) (past at)
  PatternAt (enum_variant i is) at =
      Record s b ENUM_VARIANT at × IdentAt i (first_at at) × Maybe ListAt is (second_at at) × Ends (second_at at) at

  -- 86 and 87: a payload byte and nothing more
  pub record ByteAt (kind : ℕ) (p : Span) (n at : ℕ) : Type 0 where
    pub head : Head s b kind p at
    pub which : Payload b n at
    pub ends : Done (at + 14) (past at)

  -- an operator whose span isn't read
  pub record OpAt (n at : ℕ) : Type 0 where
    pub span : Span
    pub op : ByteAt OPERATOR span n at

  -- ---- expressions, blocks and statements
  unfoldable mutual
    pub ExprAt : Expr → ℕ → Type 0
    ExprAt (expr p f) at = Head s b (form_kind f) p at × FormAt f at

    pub FormAt : Form → ℕ → Type 0
    FormAt (return' k e) at = Payload b k at × (k < 3) × MaybeExprAt e (at + 14) × Ends (at + 14) at
    FormAt (literal p w) at = ByteAt LITERAL p w (first_at at) × (w < 4) × Ends (first_at at) at
    FormAt (block k) at = BlockAt k (first_at at) × Ends (first_at at) at
    FormAt (match' e p a) at =
        ExprAt e (first_at at)
        × Head s b LIST p (second_at at)
        × ArmsAt a (first_at (second_at at)) (third_at at)
        × Ends (second_at at) at
    FormAt (function_call e p es) at =
        ExprAt e (first_at at)
        × Head s b LIST p (second_at at)
        × ExprsAt es (first_at (second_at at)) (third_at at)
        × Ends (second_at at) at
    FormAt (access e i) at = ExprAt e (first_at at) × IdentAt i (second_at at) × Ends (second_at at) at
    FormAt (path p) at = PathAt p (first_at at) × Ends (first_at at) at
    FormAt (record' p es) at = Head s b RECORD_FIELDS p (first_at at) × EntriesAt es (first_at (first_at at)) (second_at at) × Ends (first_at at) at
    FormAt (typed_record q p es) at =
        PathAt q (first_at at)
        × Head s b RECORD_FIELDS p (second_at at)
        × EntriesAt es (first_at (second_at at)) (third_at at)
        × Ends (second_at at) at
    FormAt (list es) at = Record s b LIST (first_at at) × ExprsAt es (first_at (first_at at)) (second_at at) × Ends (first_at at) at
    FormAt (not' e) at = ExprAt e (first_at at) × Ends (first_at at) at
    FormAt (assign p e) at = PathAt p (first_at at) × ExprAt e (second_at at) × Ends (second_at at) at
    FormAt (compound_assign p o e) at =
        PathAt p (first_at at)
        × OpAt o (second_at at)
        × (o < 5)
        × ExprAt e (third_at at)
        × Ends (third_at at) at
    FormAt (bin_op l p o r) at =
        ExprAt l (first_at at)
        × ByteAt OPERATOR p o (second_at at)
        × (o < 14)
        × ExprAt r (third_at at)
        × Ends (third_at at) at
        × (1 + left_depth l ≤ MAX_RECORDS_DEEP)
    FormAt (negate e) at = ExprAt e (first_at at) × Ends (first_at at) at
    FormAt (if_else c k e) at =
        ExprAt c (first_at at)
        × BlockAt k (second_at at)
        × MaybeBlockAt e (third_at at)
        × Ends (third_at at) at
    FormAt (while c k) at = ExprAt c (first_at at) × BlockAt k (second_at at) × Ends (second_at at) at
    FormAt (for i e k) at =
        IdentAt i (first_at at)
        × ExprAt e (second_at at)
        × BlockAt k (third_at at)
        × Ends (third_at at) at
    FormAt (question_mark e) at = ExprAt e (first_at at) × Ends (first_at at) at
    FormAt (f_string ps) at = Record s b LIST (first_at at) × PartsAt ps (first_at (first_at at)) (second_at at) × Ends (first_at at) at
    FormAt (parentheses e) at = ExprAt e (first_at at) × Ends (first_at at) at

    pub ExprsAt : Exprs → ℕ → ℕ → Type 0
    ExprsAt no_exprs at end = Done at end
    ExprsAt (e ∷ᵉ es) at end = ExprAt e at × Before b at end × ExprsAt es (past at) end

    pub MaybeExprAt : MaybeExpr → ℕ → Type 0
    MaybeExprAt no_expr at = Absent b at
    MaybeExprAt (some_expr e) at = ExprAt e at

    -- 22, one after the other
    pub EntriesAt : Entries → ℕ → ℕ → Type 0
    EntriesAt no_entries at end = Done at end
    EntriesAt (entry p i e es) at end =
        Head s b FIELD p at
        × IdentAt i (first_at at)
        × ExprAt e (second_at at)
        × Ends (second_at at) at
        × Before b at end
        × EntriesAt es (past at) end

    -- 81, one after the other
    pub ArmsAt : Arms → ℕ → ℕ → Type 0
    ArmsAt no_arms at end = Done at end
    ArmsAt (arm p q g e more) at end =
        Head s b ARM p at
        × PatternAt q (first_at at)
        × MaybeExprAt g (second_at at)
        × ExprAt e (third_at at)
        × Ends (third_at at) at
        × Before b at end
        × ArmsAt more (past at) end

    -- 84 and 85, one after the other
    pub PartsAt : Parts → ℕ → ℕ → Type 0
    PartsAt no_parts at end = Done at end
    PartsAt (string p ps) at end = Head s b TEXT_PART p at × Done (first_at at) (past at) × Before b at end × PartsAt ps (past at) end
    PartsAt (value e ps) at end =
        Record s b EXPR_PART at × ExprAt e (first_at at) × Ends (first_at at) at × Before b at end × PartsAt ps (past at) end

    pub BlockAt : Block → ℕ → Type 0
    BlockAt (braces p ss last) at =
        Head s b BLOCK p at
        × Record s b LIST (first_at at)
        × StmtsAt ss (first_at (first_at at)) (second_at at)
        × MaybeExprAt last (second_at at)
        × Ends (second_at at) at

    pub MaybeBlockAt : MaybeBlock → ℕ → Type 0
    MaybeBlockAt no_block at = Absent b at
    MaybeBlockAt (some_block k) at = BlockAt k at

    pub StmtsAt : Stmts → ℕ → ℕ → Type 0
    StmtsAt no_stmts at end = Done at end
    StmtsAt (x ∷ˢ ss) at end = StmtAt x at × Before b at end × StmtsAt ss (past at) end

    pub StmtAt : Stmt → ℕ → Type 0
    StmtAt (stmt p f) at = Head s b (stmt_kind f) p at × StmtFormAt f at

    pub StmtFormAt : StmtForm → ℕ → Type 0
    StmtFormAt (let' i t e) at =
        IdentAt i (first_at at)
        × Maybe TypeAt t (second_at at)
        × ExprAt e (third_at at)
        × Ends (third_at at) at
    StmtFormAt (import_stmt p) at = ImportAt p (first_at at) × Ends (first_at at) at
    StmtFormAt (does e) at = ExprAt e (first_at at) × Ends (first_at at) at

  -- ---- declarations
  -- 21, one after the other
  unfoldable pub VariantsAt : Variants → ℕ → ℕ → Type 0
  VariantsAt no_variants at end = Done at end
  VariantsAt (variant p i ts vs) at end =
      Head s b VARIANT p at
      × IdentAt i (first_at at)
      × Record s b LIST (second_at at)
      × TypesAt ts (first_at (second_at at)) (third_at at)
      × Ends (second_at at) at
      × Before b at end
      × VariantsAt vs (past at) end

  unfoldable pub DeclarationAt : Declaration → ℕ → Type 0
  DeclarationAt (filter_map i p fs k) at =
      Record s b FILTER_MAP at
      × IdentAt i (first_at at)
      × Head s b LIST p (second_at at)
      × FieldsAt fs (first_at (second_at at)) (third_at at)
      × BlockAt k (third_at at)
      × Ends (third_at at) at
  DeclarationAt (const i t e) at =
      Record s b CONST at
      × IdentAt i (first_at at)
      × TypeAt t (second_at at)
      × ExprAt e (third_at at)
      × Ends (third_at at) at
  DeclarationAt (record_decl i ps p fs) at =
      Record s b RECORD at
      × IdentAt i (first_at at)
      × Maybe ListAt ps (second_at at)
      × Head s b LIST p (third_at at)
      × FieldsAt fs (first_at (third_at at)) (fourth_at at)
      × Ends (third_at at) at
  DeclarationAt (enum_decl i ps p vs) at =
      Record s b ENUM at
      × IdentAt i (first_at at)
      × Maybe ListAt ps (second_at at)
      × Head s b LIST p (third_at at)
      × VariantsAt vs (first_at (third_at at)) (fourth_at at)
      × Ends (third_at at) at
  DeclarationAt (function i p fs t k) at =
      Record s b FUNCTION at
      × IdentAt i (first_at at)
      × Head s b LIST p (second_at at)
      × FieldsAt fs (first_at (second_at at)) (third_at at)
      × Maybe TypeAt t (third_at at)
      × BlockAt k (fourth_at at)
      × Ends (fourth_at at) at
  DeclarationAt (test i k) at =
      Record s b TEST at × IdentAt i (first_at at) × BlockAt k (second_at at) × Ends (second_at at) at
  DeclarationAt (import_decl p) at = ImportAt p at

  unfoldable pub DeclarationsAt : List Declaration → ℕ → ℕ → Type 0
  DeclarationsAt [] at end = Done at end
  DeclarationsAt (d ∷ ds) at end = DeclarationAt d at × Before b at end × DeclarationsAt ds (past at) end

  -- 1: the shebang or its absence, then the declarations, up to the image's end
  pub record TreeAt (t : SyntaxTree) (at : ℕ) : Type 0 where
    pub head : Record s b TREE at
    pub shebang : Maybe IdentAt t.shebang (first_at at)
    pub inside : Before b (first_at at) (past at)
    pub declarations : DeclarationsAt t.declarations (second_at at) (past at)
    pub end : past at ≡ length b
