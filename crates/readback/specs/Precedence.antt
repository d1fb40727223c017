-- src/parser/precedence.rs by its names.
use Rattle.std.specs.Prelude.{Bool, true, false, cond, List, [], ◌∷◌, ℕ, eqb, ltb}
use Rattle.readback.specs.declared.operators.BinOp.{BinOp}
use Rattle.readback.specs.declared.operators.BinOp.TheVariants as op
use Rattle.readback.specs.declared.operators.Precedence.{Precedence}
use Rattle.readback.specs.declared.operators.Precedence.TheVariants.{Logical, Comparison, AddSub, MulDiv, Exp}
use Rattle.readback.specs.declared.operators.Associativity.{Associativity}
use Rattle.readback.specs.declared.operators.Associativity.TheVariants.{Left, Right, Not}

-- an operator's number in the image is its place in `BinOp`
abbrev pub operator_number : BinOp → ℕ
operator_number op.And = 0
operator_number op.Or = 1
operator_number op.Eq = 2
operator_number op.Ne = 3
operator_number op.Lt = 4
operator_number op.Le = 5
operator_number op.Gt = 6
operator_number op.Ge = 7
operator_number op.Add = 8
operator_number op.Sub = 9
operator_number op.Mul = 10
operator_number op.Div = 11
operator_number op.Mod = 12
operator_number op.Exp = 13

abbrev operators : List BinOp
operators =
    op.And
    ∷ op.Or
    ∷ op.Eq
    ∷ op.Ne
    ∷ op.Lt
    ∷ op.Le
    ∷ op.Gt
    ∷ op.Ge
    ∷ op.Add
    ∷ op.Sub
    ∷ op.Mul
    ∷ op.Div
    ∷ op.Mod
    ∷ []

-- the operator with a number; the reader lets none past 13
abbrev pub operator_in : List BinOp → ℕ → BinOp
operator_in [] n = op.Exp
operator_in (x ∷ xs) n = cond (eqb n (operator_number x)) x (operator_in xs n)

unfoldable pub operator_of : ℕ → BinOp
operator_of n = operator_in operators n

-- `BinOp::precedence`
abbrev pub precedence : BinOp → Precedence
precedence op.Or = Logical
precedence op.And = Logical
precedence op.Eq = Comparison
precedence op.Ne = Comparison
precedence op.Lt = Comparison
precedence op.Le = Comparison
precedence op.Gt = Comparison
precedence op.Ge = Comparison
precedence op.Mul = MulDiv
precedence op.Div = MulDiv
precedence op.Mod = MulDiv
precedence op.Add = AddSub
precedence op.Sub = AddSub
precedence op.Exp = Exp

-- "The order of the variants of this enum is significant"
abbrev pub rank : Precedence → ℕ
rank Logical = 0
rank Comparison = 1
rank AddSub = 2
rank MulDiv = 3
rank Exp = 4

-- by the precedence, `BinOp::associativity`
abbrev pub associativity_at : Precedence → Associativity
associativity_at AddSub = Left
associativity_at MulDiv = Left
associativity_at Logical = Left
associativity_at Comparison = Not
associativity_at Exp = Right

abbrev pub associativity : BinOp → Associativity
associativity x = associativity_at (precedence x)

-- "Special case: we don't allow mixing `||` and `&&`."
abbrev pub is_mixed : BinOp → BinOp → Bool
is_mixed op.Or op.And = true
is_mixed op.And op.Or = true
is_mixed x y = false

-- `BinOp::relative_associativity`
unfoldable pub relative_associativity : BinOp → BinOp → Associativity
relative_associativity x y =
    cond (is_mixed x y) Not
    (cond (ltb (rank (precedence x)) (rank (precedence y))) Right
    (cond (ltb (rank (precedence y)) (rank (precedence x))) Left
    (associativity x)))

abbrev pub is_left : Associativity → Bool
is_left Left = true
is_left Right = false
is_left Not = false

abbrev pub is_right : Associativity → Bool
is_right Left = false
is_right Right = true
is_right Not = false
