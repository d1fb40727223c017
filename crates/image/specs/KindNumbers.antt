-- The number of each kind of record, and the kind of a number.
use Rattle.std.specs.Prelude.{List, [], ◌∷◌, cond, ℕ, eqb, Option, None, Some}
use Rattle.image.specs.declared.kinds.Kind.{Kind}
use Rattle.image.specs.declared.kinds.Kind.TheVariants as kind
use Rattle.image.specs.Kinds.{TREE, TEXT, LIST, PATH, FILTER_MAP, CONST, RECORD, ENUM, FUNCTION, TEST, IMPORT, NAME_AND_TYPE}
use Rattle.image.specs.Kinds.{VARIANT, FIELD, BLOCK, LET, IMPORT_STMT, EXPR_STMT, OPTION, TYPE_PATH, NEVER, UNIT, RECORD_TYPE, RETURN}
use Rattle.image.specs.Kinds.{LITERAL_EXPR, BLOCK_EXPR, MATCH, FUNCTION_CALL, ACCESS, PATH_EXPR, RECORD_EXPR, TYPED_RECORD}
use Rattle.image.specs.Kinds.{LIST_EXPR, NOT, ASSIGN, COMPOUND_ASSIGN}
use Rattle.image.specs.Kinds.{BIN_OP, NEGATE, IF_ELSE, WHILE, FOR, QUESTION_MARK, F_STRING, PARENTHESES, RECORD_FIELDS, ARM, UNDERSCORE, ENUM_VARIANT}
use Rattle.image.specs.Kinds.{TEXT_PART, EXPR_PART, OPERATOR, LITERAL}

abbrev pub kind_number : Kind → ℕ
kind_number kind.Tree = TREE
kind_number kind.Text = TEXT
kind_number kind.List = LIST
kind_number kind.Path = PATH
kind_number kind.FilterMap = FILTER_MAP
kind_number kind.Const = CONST
kind_number kind.Record = RECORD
kind_number kind.Enum = ENUM
kind_number kind.Function = FUNCTION
kind_number kind.Test = TEST
kind_number kind.Import = IMPORT
kind_number kind.NameAndType = NAME_AND_TYPE
kind_number kind.Variant = VARIANT
kind_number kind.Field = FIELD
kind_number kind.Block = BLOCK
kind_number kind.Let = LET
kind_number kind.ImportStmt = IMPORT_STMT
kind_number kind.ExprStmt = EXPR_STMT
kind_number kind.Option = OPTION
kind_number kind.TypePath = TYPE_PATH
kind_number kind.Never = NEVER
kind_number kind.Unit = UNIT
kind_number kind.RecordType = RECORD_TYPE
kind_number kind.Return = RETURN
kind_number kind.LiteralExpr = LITERAL_EXPR
kind_number kind.BlockExpr = BLOCK_EXPR
kind_number kind.Match = MATCH
kind_number kind.FunctionCall = FUNCTION_CALL
kind_number kind.Access = ACCESS
kind_number kind.PathExpr = PATH_EXPR
kind_number kind.RecordExpr = RECORD_EXPR
kind_number kind.TypedRecord = TYPED_RECORD
kind_number kind.ListExpr = LIST_EXPR
kind_number kind.Not = NOT
kind_number kind.Assign = ASSIGN
kind_number kind.CompoundAssign = COMPOUND_ASSIGN
kind_number kind.BinOp = BIN_OP
kind_number kind.Negate = NEGATE
kind_number kind.IfElse = IF_ELSE
kind_number kind.While = WHILE
kind_number kind.For = FOR
kind_number kind.QuestionMark = QUESTION_MARK
kind_number kind.FString = F_STRING
kind_number kind.Parentheses = PARENTHESES
kind_number kind.RecordFields = RECORD_FIELDS
kind_number kind.Arm = ARM
kind_number kind.Underscore = UNDERSCORE
kind_number kind.EnumVariant = ENUM_VARIANT
kind_number kind.TextPart = TEXT_PART
kind_number kind.ExprPart = EXPR_PART
kind_number kind.Operator = OPERATOR
kind_number kind.Literal = LITERAL

-- all of them
abbrev pub kinds : List Kind
kinds =
    kind.Tree ∷ kind.Text ∷ kind.List ∷ kind.Path ∷ kind.FilterMap ∷ kind.Const ∷ kind.Record ∷ kind.Enum ∷ kind.Function ∷ kind.Test ∷
    kind.Import ∷ kind.NameAndType ∷ kind.Variant ∷ kind.Field ∷ kind.Block ∷ kind.Let ∷ kind.ImportStmt ∷ kind.ExprStmt ∷ kind.Option ∷
    kind.TypePath ∷ kind.Never ∷ kind.Unit ∷ kind.RecordType ∷ kind.Return ∷ kind.LiteralExpr ∷ kind.BlockExpr ∷ kind.Match ∷
    kind.FunctionCall ∷ kind.Access ∷ kind.PathExpr ∷ kind.RecordExpr ∷ kind.TypedRecord ∷ kind.ListExpr ∷ kind.Not ∷ kind.Assign ∷
    kind.CompoundAssign ∷ kind.BinOp ∷ kind.Negate ∷ kind.IfElse ∷ kind.While ∷ kind.For ∷ kind.QuestionMark ∷ kind.FString ∷
    kind.Parentheses ∷ kind.RecordFields ∷ kind.Arm ∷ kind.Underscore ∷ kind.EnumVariant ∷ kind.TextPart ∷ kind.ExprPart ∷ kind.Operator ∷
    kind.Literal ∷ []

-- the first of some kinds that has the number n
abbrev pub kind_in : List Kind → ℕ → Option Kind
kind_in [] n = None
kind_in (k ∷ ks) n = cond (eqb n (kind_number k)) (Some k) (kind_in ks n)

-- the kind with the number n, if one has it
unfoldable pub kind_of : ℕ → Option Kind
kind_of n = kind_in kinds n
