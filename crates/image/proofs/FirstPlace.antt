-- The first place of a row, as the code has it and as the row's number says.
-- Assumes nothing.
use mathlib.Core.Path.{◌≡◌, refl}
use mathlib.Core.List.{List, [], ◌∷◌}
use Prim.Native.Nat.{ℕ, ◌+◌, ◌*◌, ◌%◌, ◌≤◌, ◌<◌}
use native.Mathlib.Omega.{arith}
use Rattle.std.specs.Prelude.{None, Some}
use Rattle.std.specs.List.{slice_get}
use Rattle.image.specs.Grammar.{place}
use Rattle.image.specs.Places.{due_number, place_number, row_number}
use Rattle.image.specs.declared.grammar.Due.{Due}
use Rattle.image.specs.declared.grammar.Due.TheVariants as due
use Rattle.image.specs.declared.grammar.Place.{Place}
use Rattle.image.specs.declared.grammar.Place.TheVariants.{One, Optional, Many}

-- a number between its marks
low : (d : Due) → (1 ≤ due_number d) × (due_number d < 16384)
low due.Tree = (omega arith, omega arith)
low due.Text = (omega arith, omega arith)
low due.Path = (omega arith, omega arith)
low due.Import = (omega arith, omega arith)
low due.NameAndType = (omega arith, omega arith)
low due.Variant = (omega arith, omega arith)
low due.Field = (omega arith, omega arith)
low due.Block = (omega arith, omega arith)
low due.RecordFields = (omega arith, omega arith)
low due.Arm = (omega arith, omega arith)
low due.Operator = (omega arith, omega arith)
low due.AssignOperator = (omega arith, omega arith)
low due.Literal = (omega arith, omega arith)
low due.Declaration = (omega arith, omega arith)
low due.Statement = (omega arith, omega arith)
low due.Type = (omega arith, omega arith)
low due.Expr = (omega arith, omega arith)
low due.Pattern = (omega arith, omega arith)
low due.StringPart = (omega arith, omega arith)
low due.Texts = (omega arith, omega arith)
low due.Imports = (omega arith, omega arith)
low due.NamesAndTypes = (omega arith, omega arith)
low due.Variants = (omega arith, omega arith)
low due.Arms = (omega arith, omega arith)
low due.Statements = (omega arith, omega arith)
low due.Types = (omega arith, omega arith)
low due.Exprs = (omega arith, omega arith)
low due.StringParts = (omega arith, omega arith)

small : (p : Place) → (1 ≤ place_number p) × (place_number p < 65536)
small (One d) = let l = low d in (omega (arith, l.0), omega (arith, l.1))
small (Optional d) = let l = low d in (omega (arith, l.0), omega (arith, l.1))
small (Many d) = let l = low d in (omega (arith, l.0), omega (arith, l.1))

pub no_place : (row : List Place) → None ≡ slice_get row 0 → row_number row ≡ 0
no_place [] e = refl
no_place (p ∷ ps) e = cc

pub first_place : (row : List Place) (p : Place) → Some p ≡ slice_get row 0 → (¬ (row_number row ≡ 0)) × (place (row_number row) ≡ place_number p)
first_place [] p e = cc
first_place (q ∷ ps) p e =
    let same : p ≡ q = cc in
    let l = small q in
    let first = within (place_number q) (row_number ps) l.1 in
    (λ z. absurd (omega (arith, z, l.0)), rw same first)
  where
    within : (a b : ℕ) → a < 65536 → (a + 65536 * b) % 65536 ≡ a
    within a b h = omega arith
