-- The syntax tree of src/ast.rs, as far as fmt.rs reads it. A `Meta` is its node with its span, where that span is read.
use Rattle.std.specs.Prelude.{ℕ, List, Option}

pub record Span : Type 0 where
  pub start : ℕ
  pub end : ℕ

-- `Meta<Identifier>`, and the shebang: a text of the image, with its width, where its bytes start in the image, and how many they are
pub record Ident : Type 0 where
  pub span : Span
  pub width : ℕ
  pub start : ℕ
  pub size : ℕ

-- `Meta<Path>`: its first identifier and those after it
pub record Path : Type 0 where
  pub first : Ident
  pub more : List Ident

-- `Meta<Vec<Meta<Identifier>>>`
pub record Idents : Type 0 where
  pub span : Span
  pub elems : List Ident

mutual
  -- `Meta<TypeExpr>`
  pub data TypeExpr : Type 0 where
    type : Span → TypeForm → TypeExpr

  pub data TypeForm : Type 0 where
    option : TypeExpr → TypeForm
    type_path : Path → TypeArgs → TypeForm
    never : TypeForm
    unit : TypeForm
    record_type : Span → Fields → TypeForm

  -- `Option<Meta<Vec<Meta<TypeExpr>>>>`
  pub data TypeArgs : Type 0 where
    no_args : TypeArgs
    args : Span → Types → TypeArgs

  -- `Vec<Meta<TypeExpr>>`
  pub data Types : Type 0 where
    no_types : Types
    ◌∷ᵗ◌ : TypeExpr → Types → Types

  -- `Vec<Meta<Param>>` and `Vec<Meta<RecordFieldType>>`: names with their types
  pub data Fields : Type 0 where
    no_fields : Fields
    field : Span → Ident → TypeExpr → Fields → Fields

mutual
  -- `Meta<ImportPath>`
  pub data Import : Type 0 where
    import : Span → Option Path → ImportGroup → Import

  -- `Option<Meta<Vec<Meta<ImportPath>>>>`
  pub data ImportGroup : Type 0 where
    no_group : ImportGroup
    group : Span → Imports → ImportGroup

  pub data Imports : Type 0 where
    no_imports : Imports
    ◌∷ⁱ◌ : Import → Imports → Imports

pub data Pattern : Type 0 where
  underscore : Pattern
  enum_variant : Ident → Option Idents → Pattern

mutual
  -- `Meta<Expr>`
  pub data Expr : Type 0 where
    expr : Span → Form → Expr

  -- The forms of `Expr`. A payload is a number: the place in `ReturnKind`, in `BinOp` or in `CompoundAssignOp`; of a literal 0 taken from
  -- the source, 1 true, 2 false, 3 unit.
  pub data Form : Type 0 where
    return' : ℕ → MaybeExpr → Form
    literal : Span → ℕ → Form
    block : Block → Form
    match' : Expr → Span → Arms → Form
    function_call : Expr → Span → Exprs → Form
    access : Expr → Ident → Form
    path : Path → Form
    record' : Span → Entries → Form
    typed_record : Path → Span → Entries → Form
    list : Exprs → Form
    not' : Expr → Form
    assign : Path → Expr → Form
    compound_assign : Path → ℕ → Expr → Form
    bin_op : Expr → Span → ℕ → Expr → Form
    negate : Expr → Form
    if_else : Expr → Block → MaybeBlock → Form
    while : Expr → Block → Form
    for : Ident → Expr → Block → Form
    question_mark : Expr → Form
    f_string : Parts → Form
    parentheses : Expr → Form

  -- `Vec<Meta<Expr>>`
  pub data Exprs : Type 0 where
    no_exprs : Exprs
    ◌∷ᵉ◌ : Expr → Exprs → Exprs

  pub data MaybeExpr : Type 0 where
    no_expr : MaybeExpr
    some_expr : Expr → MaybeExpr

  -- `Vec<Meta<RecordField>>`
  pub data Entries : Type 0 where
    no_entries : Entries
    entry : Span → Ident → Expr → Entries → Entries

  -- `Vec<Meta<MatchArm>>`: pattern, guard, body
  pub data Arms : Type 0 where
    no_arms : Arms
    arm : Span → Pattern → MaybeExpr → Expr → Arms → Arms

  -- `Vec<Meta<FStringPart>>`
  pub data Parts : Type 0 where
    no_parts : Parts
    string : Span → Parts → Parts
    value : Expr → Parts → Parts

  -- `Meta<Block>`
  pub data Block : Type 0 where
    braces : Span → Stmts → MaybeExpr → Block

  pub data MaybeBlock : Type 0 where
    no_block : MaybeBlock
    some_block : Block → MaybeBlock

  -- `Vec<Meta<Stmt>>`
  pub data Stmts : Type 0 where
    no_stmts : Stmts
    ◌∷ˢ◌ : Stmt → Stmts → Stmts

  -- `Meta<Stmt>`
  pub data Stmt : Type 0 where
    stmt : Span → StmtForm → Stmt

  pub data StmtForm : Type 0 where
    let' : Ident → Option TypeExpr → Expr → StmtForm
    import_stmt : Import → StmtForm
    does : Expr → StmtForm

infixr 40 ◌∷ᵗ◌ ◌∷ⁱ◌ ◌∷ᵉ◌ ◌∷ˢ◌
-- `Vec<Meta<Variant>>`
pub data Variants : Type 0 where
  no_variants : Variants
  variant : Span → Ident → Types → Variants → Variants

pub data Declaration : Type 0 where
  filter_map : Ident → Span → Fields → Block → Declaration
  const : Ident → TypeExpr → Expr → Declaration
  record_decl : Ident → Option Idents → Span → Fields → Declaration
  enum_decl : Ident → Option Idents → Span → Variants → Declaration
  function : Ident → Span → Fields → Option TypeExpr → Block → Declaration
  test : Ident → Block → Declaration
  import_decl : Import → Declaration

pub record SyntaxTree : Type 0 where
  pub shebang : Option Ident
  pub declarations : List Declaration
