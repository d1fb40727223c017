-- The contracts by forms: each form of types, expressions, statements and declarations at an offset of the image, and its rule.
use Rattle.std.specs.Prelude.{ℕ, not, ◌&&◌, ◌||◌, eqb, leb, ◌+◌, ◌≤◌, ◌<◌, ◌≡◌, Bool, List, length, Option}
use Rattle.image.specs.Kinds.{LIST, BLOCK_EXPR, MATCH, IF_ELSE, FOR, TEXT_PART, EXPR_PART, OPERATOR, LITERAL}
use Rattle.image.specs.Bytes.{be32}
use Rattle.image.specs.Read.{stop_at}
use Rattle.ast.specs.Syntax.{Span, Ident, Fields, Path, TypeExpr, type, TypeForm, Types, ◌∷ᵗ◌, Expr, expr, Form, MaybeExpr, Block, Stmts, stmt}
use Rattle.ast.specs.Syntax.{let', Idents, Declaration}
use Rattle.tree.specs.At.{Head, Record, Done, Ends, ByteAt, PathAt, Maybe, TypeAt, TypesAt, ExprAt, BlockAt, StmtAt, IdentAt, ListAt, FieldsAt}
use Rattle.tree.specs.At.{DeclarationAt}
use Rattle.rows.specs.Node.{ascii}
use Rattle.acts.specs.Spelling.{spelling}
use Rattle.acts.specs.declared.words.Word.{Word}
use Rattle.acts.specs.Act.{Given, Act, ◌⨟◌, when, says, push, content}
use Rattle.layout.specs.Layout as layout
use Rattle.layout.specs.Elems.{ListWith, params_rule}

-- a constructor of two or more arguments, as one of a tuple
abbrev pub two : {A B C : Type 0} → (A → B → C) → A × B → C
two f x = f x.0 x.1

abbrev pub three : {A B C D : Type 0} → (A → B → C → D) → A × B × C → D
three f x = f x.0 x.1 x.2

abbrev pub four : {A B C D E : Type 0} → (A → B → C → D → E) → A × B × C × D → E
four f x = f x.0 x.1 x.2 x.3

abbrev pub five : {A B C D E F : Type 0} → (A → B → C → D → E → F) → A × B × C × D × E → F
five f x = f x.0 x.1 x.2 x.3 x.4

-- ---- types
-- a type of one form, and its rule
abbrev pub OfType : {X : Type 0} → (X → TypeForm) → List ℕ → List ℕ → Span × X → ℕ → Type 0
OfType mk s b x at = TypeAt s b (type x.0 (mk x.1)) at

abbrev pub type_rule : {X : Type 0} → (X → TypeForm) → Given → Span × X → Act
type_rule mk g x = layout.type_form g (mk x.1)

-- the path of an import
abbrev pub MaybePathAt : List ℕ → List ℕ → Option Path → ℕ → Type 0
MaybePathAt s b = Maybe s b (PathAt s b)

-- at least one type from `from` up to `to`
pub record SomeTypesAt (b : List ℕ) (from to : ℕ) : Type 0 where
  pub source : List ℕ
  pub first : TypeExpr
  pub more : Types
  pub held : TypesAt source b (first ∷ᵗ more) from to
  pub inside : to ≤ length b

-- where the last of them ends
pub record LastEnd (b : List ℕ) (from to r : ℕ) : Type 0 where
  pub of : (s : List ℕ) (t : TypeExpr) (ts : Types) → TypesAt s b (t ∷ᵗ ts) from to → r ≡ (layout.last_span t ts).end

-- ---- expressions
-- an expression by the precedence around it, with the comment after it and without
abbrev pub expr_with : ℕ → Given → Expr → Act
expr_with outer g e = layout.expr_with_precedence g e outer

abbrev pub form_with : ℕ → Given → Expr → Act
form_with outer g (expr s f) = layout.expr_form g s f outer

-- an expression of one form, and its rule
abbrev pub Of : {X : Type 0} → (X → Form) → List ℕ → List ℕ → Span × X → ℕ → Type 0
Of mk s b x at = ExprAt s b (expr x.0 (mk x.1)) at

abbrev pub form_rule : {X : Type 0} → (X → Form) → ℕ → Given → Span × X → Act
form_rule mk outer g x = layout.expr_form g x.0 (mk x.1) outer

-- a word, and an expression
abbrev pub after_word : Word → ℕ → Given → Expr → Act
after_word k outer g e = says (spelling k) ⨟ expr_with outer g e

abbrev pub maybe_after : Word → Given → MaybeExpr → Act
maybe_after k g m = layout.maybe_expr g (spelling k) m

-- a condition and the block after it
abbrev pub ClauseAt : List ℕ → List ℕ → Expr × Block → ℕ → Type 0
ClauseAt s b x at = ExprAt s b x.0 at × BlockAt s b x.1 (stop_at b at)

abbrev pub clause_rule : Word → Given → Expr × Block → Act
clause_rule k g x = layout.clause (spelling k) (expr_with 0 g x.0) (layout.block_rule g x.1)

-- a record's span, and the source between its ends
abbrev pub SpanAt : List ℕ → List ℕ → Span → ℕ → Type 0
SpanAt s b p at = (k : ℕ) × Head s b k p at

abbrev pub content_rule : Given → Span → Act
content_rule g p = push (ascii (content p))

abbrev pub LiteralAt : List ℕ → List ℕ → Span × ℕ → ℕ → Type 0
LiteralAt s b x at = ByteAt s b LITERAL x.0 x.1 at × (x.1 < 4)

abbrev pub literal_of : Given → Span × ℕ → Act
literal_of g x = layout.literal_rule g x.0 x.1

abbrev pub OperatorAt : List ℕ → List ℕ → Span × ℕ → ℕ → Type 0
OperatorAt s b x at = ByteAt s b OPERATOR x.0 x.1 at × (x.1 < 14)

abbrev pub operator_rule : Bool → Given → Span × ℕ → Act
operator_rule first g x = layout.operator g first x.0 x.1

-- a part of an f-string
pub data Part : Type 0 where
  text : Span → Part
  value : Expr → Part

abbrev pub PartAt : List ℕ → List ℕ → Part → ℕ → Type 0
PartAt s b (text p) at = Head s b TEXT_PART p at × Done (at + 13) (stop_at b at)
PartAt s b (value e) at = Record s b EXPR_PART at × ExprAt s b e (at + 13) × Ends s b (at + 13) at

abbrev pub part_rule : Given → Part → Act
part_rule g (text p) = layout.text_part p
part_rule g (value e) = layout.placeholder (expr_with 0 g e)

-- the field of an access, after its dot
abbrev pub field_name : Given → Ident → Act
field_name g i = layout.field_name g i

-- ---- blocks and statements
-- the statements, of which the next is the first or not; and the last expression, before which there is a statement or not
abbrev pub stmts_from : Bool → Given → Stmts → Act
stmts_from first g ss = layout.stmts_rule g ss first

abbrev pub last_from : Bool → Given → MaybeExpr → Act
last_from first g m = layout.last_rule g m first

-- what the code tests of a block and of a list: whether the block has no statements, and no last expression either; whether the list has one element
abbrev pub no_stmts_at : List ℕ → ℕ → Bool
no_stmts_at b at = eqb (stop_at b (at + 13)) (at + 13 + 13)

abbrev pub is_empty_at : List ℕ → ℕ → Bool
is_empty_at b at = no_stmts_at b at && eqb (be32 b (stop_at b (at + 13))) 0

abbrev pub is_single_at : List ℕ → ℕ → Bool
is_single_at b at = not (eqb (stop_at b at) (at + 13)) && eqb (stop_at b (at + 13)) (stop_at b at)

-- expressions that end with a brace, by their kind: a block, `match`, `if`, `while` and `for`
abbrev pub is_braced : ℕ → Bool
is_braced kind = eqb kind BLOCK_EXPR || eqb kind MATCH || (leb IF_ELSE kind && leb kind FOR)

-- the comma after an arm, and the semicolon after an expression, by the kind of what is before it
abbrev pub arm_comma_rule : ℕ → Act
arm_comma_rule kind = when (not (eqb kind BLOCK_EXPR)) (says ",")

abbrev pub semicolon_rule : ℕ → Act
semicolon_rule kind = when (not (is_braced kind)) (says ";")

abbrev pub MaybeTypeAt : List ℕ → List ℕ → Option TypeExpr → ℕ → Type 0
MaybeTypeAt s b = Maybe s b (TypeAt s b)

abbrev pub LetAt : List ℕ → List ℕ → Span × Ident × Option TypeExpr × Expr → ℕ → Type 0
LetAt s b x at = StmtAt s b (stmt x.0 (let' x.1 x.2 x.3)) at

abbrev pub let_rule : Given → Span × Ident × Option TypeExpr × Expr → Act
let_rule g x = layout.stmt_form g (let' x.1 x.2 x.3)

-- ---- declarations
-- a declaration of one form, and its rule
abbrev pub OfDeclaration : {X : Type 0} → (X → Declaration) → List ℕ → List ℕ → X → ℕ → Type 0
OfDeclaration mk s b x at = DeclarationAt s b (mk x) at

abbrev pub declaration_rule : {X : Type 0} → (X → Declaration) → Bool → Given → X → Act
declaration_rule mk first g x = layout.declaration g (mk x) first

abbrev pub any_declaration : Declaration → Declaration
any_declaration d = d

-- a word, and the name
abbrev pub declares_at : Word → Bool → Given → Ident → Act
declares_at k first g i = layout.declares g (spelling k) first i

-- a declaration's name, and its type parameters or its parameters
abbrev pub TypeNameAt : List ℕ → List ℕ → Ident × Option Idents → ℕ → Type 0
TypeNameAt s b x at = IdentAt s b x.0 (at + 13) × Maybe s b (ListAt s b) x.1 (stop_at b (at + 13))

abbrev pub declares_type : Word → Bool → Given → Ident × Option Idents → Act
declares_type k first g x = (declares_at k first g x.0 ⨟ layout.some_type_params g x.1) ⨟ says " "

abbrev pub FunctionNameAt : List ℕ → List ℕ → Ident × (Span × Fields) → ℕ → Type 0
FunctionNameAt s b x at = IdentAt s b x.0 (at + 13) × ListWith LIST FieldsAt s b x.1 (stop_at b (at + 13))

abbrev pub declares_function : Word → Bool → Given → Ident × (Span × Fields) → Act
declares_function k first g x = (declares_at k first g x.0 ⨟ params_rule g x.1) ⨟ says " "

-- optional lists of type parameters
abbrev pub MaybeListAt : List ℕ → List ℕ → Option Idents → ℕ → Type 0
MaybeListAt s b = Maybe s b (ListAt s b)

-- the shebang
abbrev pub MaybeIdentAt : List ℕ → List ℕ → Option Ident → ℕ → Type 0
MaybeIdentAt s b = Maybe s b (IdentAt s b)

-- the declarations, of which the next is the first or not
abbrev pub declarations_from : Bool → Given → List Declaration → Act
declarations_from first g ds = layout.declarations_rule g ds first
