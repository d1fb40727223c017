-- Document 02, 14/14, "All small formulas": formulas, their order, and the list of those of one size.
use Rattle.std.specs.Prelude.{cond, List, [], ◌∷◌, ◌++◌, map, ℕ, zero, suc, ◌+◌, ltb, eqb}

-- "path `a` (56), negation (64), parentheses (70) and binary plus and times (63)"
pub data Op : Type 0 where
  plus : Op
  times : Op

pub data Formula : Type 0 where
  path : Formula
  binary : Op → Formula → Formula → Formula
  negation : Formula → Formula
  parentheses : Formula → Formula

-- the place in `BinOp`
abbrev pub place : Op → ℕ
place plus = 8
place times = 10

-- how many "such expression records" it has
unfoldable pub size : Formula → ℕ
size path = 1
size (binary o l r) = 1 + (size l + size r)
size (negation f) = 1 + size f
size (parentheses f) = 1 + size f

abbrev pub kind : Formula → ℕ
kind path = 56
kind (binary o l r) = 63
kind (negation f) = 64
kind (parentheses f) = 70

-- ---- the order
pub data Order : Type 0 where
  less : Order
  same : Order
  more : Order

abbrev pub compare : ℕ → ℕ → Order
compare x y = cond (ltb x y) less (cond (eqb x y) same more)

-- by one thing, and where that is the same by the next
infixr 50 ◌then◌
abbrev pub ◌then◌ : Order → Order → Order
less then o = less
same then o = o
more then o = more

-- "fewer records first, then kind number"
abbrev pub heads : Formula → Formula → Order
heads f g = compare (size f) (size g) then compare (kind f) (kind g)

-- "then operator place, then size of the left operand, then left, then right or only operand in this same order"
unfoldable pub order : Formula → Formula → Order
order path g = heads path g
order (binary o l r) (binary p m s) =
    heads (binary o l r) (binary p m s) then compare (place o) (place p) then compare (size l) (size m) then order l m then order r s
order (binary o l r) path = heads (binary o l r) path
order (binary o l r) (negation g) = heads (binary o l r) (negation g)
order (binary o l r) (parentheses g) = heads (binary o l r) (parentheses g)
order (negation f) (negation g) = heads (negation f) (negation g) then order f g
order (negation f) path = heads (negation f) path
order (negation f) (binary p m s) = heads (negation f) (binary p m s)
order (negation f) (parentheses g) = heads (negation f) (parentheses g)
order (parentheses f) (parentheses g) = heads (parentheses f) (parentheses g) then order f g
order (parentheses f) path = heads (parentheses f) path
order (parentheses f) (binary p m s) = heads (parentheses f) (binary p m s)
order (parentheses f) (negation g) = heads (parentheses f) (negation g)

-- ---- the list
-- each of ls with each of rs
unfoldable pub products : Op → List Formula → List Formula → List Formula
products o [] rs = []
products o (l ∷ ls) rs = map (binary o l) rs ++ products o ls rs

-- left operands of size k, k + 1 and so on, right ones of size n, n - 1 down to 1
unfoldable pub splits : Op → (ℕ → List Formula) → ℕ → ℕ → List Formula
splits o of k zero = []
splits o of k (suc n) = products o (of k) (of (suc n)) ++ splits o of (suc k) n

-- the formulas of a size, in order, from those of the sizes below it
unfoldable pub of_size : (ℕ → List Formula) → ℕ → List Formula
of_size of zero = []
of_size of (suc zero) = path ∷ []
of_size of (suc (suc n)) = splits plus of 1 n ++ (splits times of 1 n ++ (map negation (of (suc n)) ++ map parentheses (of (suc n))))

-- with so many sizes below it
unfoldable pub up_to : ℕ → ℕ → List Formula
up_to zero n = []
up_to (suc t) n = of_size (up_to t) n

-- all formulas of size n, in the document's order
abbrev pub formulas : ℕ → List Formula
formulas n = up_to n n
