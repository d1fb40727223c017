-- The kinds of records as numbers, for each enum that layout matches.
use Rattle.std.specs.Prelude.{ℕ, ◌≤◌, List}
use Rattle.image.specs.Read.{kind_at}
use Rattle.comments.specs.Record.{Whole}
use Rattle.layout.specs.declared.kinds.Declaration.{Declaration}
use Rattle.layout.specs.declared.kinds.Declaration.TheVariants as declarations
use Rattle.layout.specs.declared.kinds.Stmt.{Stmt}
use Rattle.layout.specs.declared.kinds.Stmt.TheVariants as stmts
use Rattle.layout.specs.declared.kinds.TypeExpr.{TypeExpr}
use Rattle.layout.specs.declared.kinds.TypeExpr.TheVariants as types
use Rattle.layout.specs.declared.kinds.Expr.{Expr}
use Rattle.layout.specs.declared.kinds.Expr.TheVariants as exprs
use Rattle.layout.specs.declared.kinds.Pattern.{Pattern}
use Rattle.layout.specs.declared.kinds.Pattern.TheVariants as patterns
use Rattle.layout.specs.declared.kinds.FStringPart.{FStringPart}
use Rattle.layout.specs.declared.kinds.FStringPart.TheVariants as parts

-- a record within the image, whose kind is one from `low` to `high`
pub record HasKind (low high : ℕ) (b : List ℕ) (at : ℕ) : Type 0 where
  pub whole : Whole b at
  pub least : low ≤ kind_at b at
  pub most : kind_at b at ≤ high

abbrev pub declaration_number : Declaration → ℕ
declaration_number declarations.FilterMap = 10
declaration_number declarations.Const = 11
declaration_number declarations.Record = 12
declaration_number declarations.Enum = 13
declaration_number declarations.Function = 14
declaration_number declarations.Test = 15
declaration_number declarations.Import = 16

abbrev pub stmt_number : Stmt → ℕ
stmt_number stmts.Let = 30
stmt_number stmts.Import = 31
stmt_number stmts.Expr = 32

abbrev pub type_number : TypeExpr → ℕ
type_number types.Option = 40
type_number types.Path = 41
type_number types.Never = 42
type_number types.Unit = 43
type_number types.Record = 44

abbrev pub expr_number : Expr → ℕ
expr_number exprs.Return = 50
expr_number exprs.Literal = 51
expr_number exprs.Block = 52
expr_number exprs.Match = 53
expr_number exprs.FunctionCall = 54
expr_number exprs.Access = 55
expr_number exprs.Path = 56
expr_number exprs.Record = 57
expr_number exprs.TypedRecord = 58
expr_number exprs.List = 59
expr_number exprs.Not = 60
expr_number exprs.Assign = 61
expr_number exprs.CompoundAssign = 62
expr_number exprs.BinOp = 63
expr_number exprs.Negate = 64
expr_number exprs.IfElse = 65
expr_number exprs.While = 66
expr_number exprs.For = 67
expr_number exprs.QuestionMark = 68
expr_number exprs.FString = 69
expr_number exprs.Parentheses = 70

abbrev pub pattern_number : Pattern → ℕ
pattern_number patterns.Underscore = 82
pattern_number patterns.EnumVariant = 83

abbrev pub part_number : FStringPart → ℕ
part_number parts.String = 84
part_number parts.Expr = 85
