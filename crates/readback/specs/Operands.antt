-- Document 02, 11/14, "Trees that would read back differently": the operands of a record that break a rule. A 63 has its left operand, its operator
-- and its right operand for children, a 60 or a 64 its operand alone.
use Rattle.std.specs.Prelude.{Bool, cond, not, ◌&&◌, ◌||◌, List, [], ◌∷◌, ◌++◌, ℕ, ◌+◌, eqb, get_or, Option, None, Some}
use Rattle.image.specs.Kinds.{BIN_OP, NOT, NEGATE}
use Rattle.image.specs.Read.{stop_at, kind_at}
use Rattle.readback.specs.declared.operators.BinOp.{BinOp}
use Rattle.readback.specs.Precedence.{operator_of, relative_associativity, is_left, is_right}

-- where these stand
abbrev pub left_at : ℕ → ℕ
left_at at = at + 13

abbrev pub operator_at : List ℕ → ℕ → ℕ
operator_at b at = stop_at b (left_at at)

abbrev pub right_at : List ℕ → ℕ → ℕ
right_at b at = stop_at b (operator_at b at)

abbrev pub operand_at : ℕ → ℕ
operand_at at = at + 13

-- "an operator", "a 63"
abbrev pub is_operator : List ℕ → ℕ → Bool
is_operator b at = eqb (kind_at b at) BIN_OP

-- the operator of the 63 at `at`
abbrev pub operator : List ℕ → ℕ → BinOp
operator b at = operator_of (get_or b (operator_at b at + 13) 0)

-- "an operator that is the left operand of another must give `Left` when asked for `relative_associativity` against its parent"
unfoldable pub left_breaks : List ℕ → ℕ → Bool
left_breaks b at = is_operator b (left_at at) && not (is_left (relative_associativity (operator b (left_at at)) (operator b at)))

-- "as right operand, the parent must give `Right` against it"
unfoldable pub right_breaks : List ℕ → ℕ → Bool
right_breaks b at = is_operator b (right_at b at) && not (is_right (relative_associativity (operator b at) (operator b (right_at b at))))

-- "Also no 60 or 64 directly over a 63."
abbrev pub operand_breaks : List ℕ → ℕ → Bool
operand_breaks b at = (eqb (kind_at b at) NOT || eqb (kind_at b at) NEGATE) && is_operator b (operand_at at)

-- the operand at `at`, if it breaks a rule
abbrev pub if_so : Bool → ℕ → List ℕ
if_so breaks at = cond breaks (at ∷ []) []

-- "What breaks a rule is the operand, a 63": those of the record at `at`
unfoldable pub broken : List ℕ → ℕ → List ℕ
broken b at =
    cond (is_operator b at)
    (if_so (left_breaks b at) (left_at at) ++ if_so (right_breaks b at) (right_at b at))
    (if_so (operand_breaks b at) (operand_at at))

-- the first of some numbers
abbrev pub first_of : List ℕ → Option ℕ
first_of [] = None
first_of (x ∷ xs) = Some x
