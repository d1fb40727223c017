-- The precedences and the operators of the code, as the numbers of the rules.
use Rattle.std.specs.Prelude.{ℕ}
use Rattle.layout.specs.Layout as rules
use Rattle.layout.specs.declared.forms.Precedence.{Precedence}
use Rattle.layout.specs.declared.forms.Precedence.TheVariants as precedences
use Rattle.layout.specs.declared.operators.BinOp.{BinOp}
use Rattle.layout.specs.declared.operators.BinOp.TheVariants as operators

abbrev pub rank : Precedence → ℕ
rank precedences.Bottom = rules.Bottom
rank precedences.LogicalOr = rules.LogicalOr
rank precedences.LogicalAnd = rules.LogicalAnd
rank precedences.Comparison = rules.Comparison
rank precedences.AddSub = rules.AddSub
rank precedences.MulDiv = rules.MulDiv
rank precedences.Exp = rules.Exp
rank precedences.Not = rules.Not'
rank precedences.Chain = rules.Chain
rank precedences.Unit = rules.Unit'

abbrev pub operator_number : BinOp → ℕ
operator_number operators.And = 0
operator_number operators.Or = 1
operator_number operators.Eq = 2
operator_number operators.Ne = 3
operator_number operators.Lt = 4
operator_number operators.Le = 5
operator_number operators.Gt = 6
operator_number operators.Ge = 7
operator_number operators.Add = 8
operator_number operators.Sub = 9
operator_number operators.Mul = 10
operator_number operators.Div = 11
operator_number operators.Mod = 12
operator_number operators.Exp = 13
