-- Sums of widths of the rows from `from` up to `to`, as far as there is room.
use Rattle.std.specs.Prelude.{◌≡◌, ℕ, ◌+◌, ◌*◌, ◌≤◌, ◌<◌, min, true, List, Option, Some, None}
use Rattle.rows.specs.Kinds.{IF_WRAP}
use Rattle.rows.specs.Places.{KIND, NUMBER}
use Rattle.rows.specs.Limits.{CELL_LIMIT}
use Rattle.rows.specs.Node.{widths, wrapped, byte_columns}
use Rattle.rows.specs.declared.units.Columns.{Columns}
use Rattle.renderer.specs.Limits.{MEASURED_LIMIT}
use Rattle.rows.specs.View.{view_of, cell, nodes_at}
use Rattle.rows.specs.Nesting.{Nests}
use Rattle.renderer.specs.declared.measure.Measured.{Measured}
use Rattle.renderer.specs.declared.measure.Measured.TheVariants.{Width, Past, Wrapped}

-- `w` is the width of the rows, or one column more than there is room for; no row has added more than a place holds
pub record Measures (store marks : List ℕ) (from to room w : ℕ) : Type 0 where
  pub width : w ≡ min (room + 1) (widths byte_columns marks (nodes_at (view_of store) from to))
  pub cap : w + from * CELL_LIMIT ≤ to * CELL_LIMIT

-- The sum is under way, at `row`: with what is ahead it is the width of the rows; however deep they nest, so does what is ahead; and no row
-- has added more than a place holds.
pub record Passed (store marks : List ℕ) (from to row sum : ℕ) : Type 0 where
  pub width : sum + widths byte_columns marks (nodes_at (view_of store) row to) ≡ widths byte_columns marks (nodes_at (view_of store) from to)
  pub nests : (depth : ℕ) → Nests (view_of store) from to depth → Nests (view_of store) row to depth
  pub cap : sum + from * CELL_LIMIT ≤ row * CELL_LIMIT

-- a row is an `IfWrap` that has wrapped
abbrev pub IsWrapped : List ℕ → List ℕ → ℕ → Type 0
IsWrapped store marks row = (cell store row KIND ≡ IF_WRAP) × (wrapped marks (cell store row NUMBER) ≡ true)

-- what stopped a sum: the end of the rows or of the room, or an `IfWrap` before it
abbrev pub Stopped : List ℕ → List ℕ → ℕ → ℕ → ℕ → Measured → Type 0
Stopped store marks from to room (Width w) = Measures store marks from to room w.0 × (w.0 ≤ room)
Stopped store marks from to room Past = Measures store marks from to room (room + 1)
Stopped store marks from to room (Wrapped row w) = Passed store marks from to row w.0 × IsWrapped store marks row × (row < to) × (w.0 ≤ room)

-- the width of the rows, where there is room for it
abbrev pub MeasuresWithin : List ℕ → List ℕ → ℕ → ℕ → ℕ → Option Columns → Type 0
MeasuresWithin store marks from to room (Some w) = Measures store marks from to room w.0 × (w.0 ≤ room)
MeasuresWithin store marks from to room None = Measures store marks from to room (room + 1)

-- n, where there is room for it
abbrev pub Within : ℕ → ℕ → Option Columns → Type 0
Within n room (Some w) = (w.0 ≡ n) × (w.0 ≤ room) × (w.0 < MEASURED_LIMIT)
Within n room None = room < n
