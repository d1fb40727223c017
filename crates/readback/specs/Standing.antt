-- What the code goes by: a tree that stands in an image to its end, with the operands that its records must have.
use Rattle.std.specs.Prelude.{◌≡◌, true, ◌||◌, List, ℕ, ◌+◌, ◌≤◌, eqb, length}
use Rattle.image.specs.Kinds.{BIN_OP, NOT, NEGATE}
use Rattle.image.specs.Bytes.{be32}
use Rattle.image.specs.Read.{width_bytes, kind_at, Head, Tree, Trees, absent, node, nil, ◌▸◌}
use Rattle.image.specs.Standing.{Whole, Stands}
use Rattle.readback.specs.Operands.{left_at, operator_at, right_at, operand_at, is_operator}
use Rattle.readback.specs.Verdict.{offenders, least}

-- ---- by the grammar
-- a record is the first child
pub record First (ts : Trees) : Type 0 where
  pub head : Head
  pub inner : Trees
  pub others : Trees
  pub is : ts ≡ node head inner ▸ others

-- records are the first three
pub record Three (ts : Trees) : Type 0 where
  pub left : First ts
  pub operator : First (left.others)
  pub right : First (operator.others)

-- what the children of a record of kind k are
pub record Kin (k : ℕ) (ts : Trees) : Type 0 where
  pub binary : k ≡ BIN_OP → Three ts
  pub unary : eqb k NOT || eqb k NEGATE ≡ true → First ts

-- of all records of a tree
unfoldable mutual
  pub Grown : Tree → Type 0
  Grown absent = Unit
  Grown (node h ts) = Kin h.kind ts × GrownIn ts

  pub GrownIn : Trees → Type 0
  GrownIn nil = Unit
  GrownIn (t ▸ ts) = Grown t × GrownIn ts

-- ---- in the image
pub record There (b : List ℕ) (at : ℕ) (t : Tree) : Type 0 where
  pub stands : Stands b (width_bytes b) t at (length b)
  pub grown : Grown t

pub record TreeAt (b : List ℕ) (at : ℕ) : Type 0 where
  pub tree : Tree
  pub there : There b at tree
  pub short : length b ≤ 1048581

-- the least offset of an offender, or the image's length
abbrev pub FirstBroken : List ℕ → ℕ → ℕ → Type 0
FirstBroken b at r = (t : Tree) → There b at t → r ≡ least (length b) (offenders b t)

-- the record at `at` is whole, and has n bytes behind its length
pub record WholeAt (b : List ℕ) (at n : ℕ) : Type 0 where
  pub whole : Whole b (width_bytes b) at
  pub size : n ≡ be32 b at
  pub short : length b ≤ 1048581

-- the 63 at `at` has its operator, and its operands have their kinds
pub record Binary (b : List ℕ) (at : ℕ) : Type 0 where
  pub left : left_at at + 5 ≤ length b
  pub operator : operator_at b at + 14 ≤ length b
  pub right : right_at b at + 5 ≤ length b
  pub short : length b ≤ 1048581

-- so have its operands, if they are 63s
pub record Operands (b : List ℕ) (at : ℕ) : Type 0 where
  pub itself : Binary b at
  pub left : is_operator b (left_at at) ≡ true → Binary b (left_at at)
  pub right : is_operator b (right_at b at) ≡ true → Binary b (right_at b at)

-- any record has those that it must have
pub record OperandsAt (b : List ℕ) (at : ℕ) : Type 0 where
  pub binary : is_operator b at ≡ true → Operands b at
  pub unary : eqb (kind_at b at) NOT || eqb (kind_at b at) NEGATE ≡ true → operand_at at + 5 ≤ length b
  pub inside : at + 13 ≤ length b
  pub short : length b ≤ 1048581
