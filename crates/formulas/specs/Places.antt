-- "Given a size and a place, from 0": the formula at a place, and how a place is taken apart.
use Rattle.std.specs.Prelude.{◌≡◌, List, ℕ, ◌+◌, ◌*◌, ◌<◌, length, get_or}
use Rattle.formulas.specs.Formulas.{Op, Formula, path, binary, size, products, formulas}

-- the formula at place p of a list; past its end none counts
abbrev pub at : List Formula → ℕ → Formula
at fs p = get_or fs p path

abbrev pub formula_at : ℕ → ℕ → Formula
formula_at n p = at (formulas n) p

-- places and formulas of a size go over into each other, both ways
pub record Exchanged (n : ℕ) : Type 0 where
  pub sized : (p : ℕ) → p < length (formulas n) → size (formula_at n p) ≡ n
  pub found : (f : Formula) → size f ≡ n → (p : ℕ) × (p < length (formulas n)) × (formula_at n p ≡ f)
  pub once : (p q : ℕ) → p < length (formulas n) → q < length (formulas n) → formula_at n p ≡ formula_at n q → p ≡ q

-- the left operand's place times the number of right ones, and the right operand's place
abbrev pub ProductAt : Type 0
ProductAt =
    (o : Op) (ls rs : List Formula) (i j : ℕ) → i < length ls → j < length rs
    → at (products o ls rs) (i * length rs + j) ≡ binary o (at ls i) (at rs j)
