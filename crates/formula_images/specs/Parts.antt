-- What the code that takes a place apart answers, and what it puts.
use Rattle.std.specs.Prelude.{◌≡◌, List, ℕ, ◌+◌, ◌-◌, ◌≤◌, ◌<◌, length}
use Rattle.image.specs.Write.{Plain}
use Rattle.steps.specs.Steps.{list_bytes, tree_steps}
use Rattle.formulas.specs.Formulas.{Op, plus, times, Formula, path, binary, negation, parentheses, splits, formulas}
use Rattle.formulas.specs.Places.{at, formula_at}
use Rattle.formula_images.specs.declared.shapes.Spot.{Spot}
use Rattle.formula_images.specs.declared.shapes.Operator.{Operator}
use Rattle.formula_images.specs.declared.shapes.Operator.TheVariants.{Plus, Times}
use Rattle.formula_images.specs.declared.shapes.Shape.{Shape}
use Rattle.formula_images.specs.declared.shapes.Shape.TheVariants.{Path, Binary, Negation, Parentheses}
use Rattle.formula_images.specs.Images.{record_of, const_plain}

-- ---- places
-- the formula is there
pub record There (s : Spot) : Type 0 where
  pub least : 1 ≤ s.size
  pub most : s.size ≤ 7
  pub inside : s.place < length (formulas s.size)

abbrev pub formula_of : Spot → Formula
formula_of s = formula_at s.size s.place

abbrev pub op_of : Operator → Op
op_of Plus = plus
op_of Times = times

-- the operands of a formula of a size are there
pub record Both (size : ℕ) (left right : Spot) : Type 0 where
  pub first : There left
  pub second : There right
  pub sizes : 1 + (left.size + right.size) ≡ size

-- place p among the formulas of any one operator
pub record Splits (size p : ℕ) (r : Spot × Spot) : Type 0 where
  pub both : Both size r.0 r.1
  pub is : (o : Op) → at (splits o formulas 1 (size - 2)) p ≡ binary o (formula_of r.0) (formula_of r.1)

-- a formula of two operands, and of one
pub record Double (s : Spot) (o : Operator) (left right : Spot) : Type 0 where
  pub both : Both s.size left right
  pub is : formula_of s ≡ binary (op_of o) (formula_of left) (formula_of right)

pub record Single (s : Spot) (over : Formula → Formula) (inner : Spot) : Type 0 where
  pub there : There inner
  pub sizes : 1 + inner.size ≡ s.size
  pub is : formula_of s ≡ over (formula_of inner)

abbrev pub Comes : Spot → Shape → Type 0
Comes s Path = (s.size ≡ 1) × (formula_of s ≡ path)
Comes s (Binary o left right) = Double s o left right
Comes s (Negation inner) = Single s negation inner
Comes s (Parentheses inner) = Single s parentheses inner

-- ---- steps
-- those of a record, as bytes
abbrev pub steps_in : Plain → List ℕ
steps_in x = list_bytes (tree_steps x)

unfoldable pub formula_steps : Formula → List ℕ
formula_steps f = steps_in (record_of f)

unfoldable pub const_steps : Formula → List ℕ
const_steps f = steps_in (const_plain f)
