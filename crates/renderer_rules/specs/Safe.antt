-- No rule rests on this file: it is why no sum of the code wraps. The machine's numbers are in range: `indent` and `next_indent` together are what
-- they were at first and the steps of the open rows, so that no step back goes under 0; the column and the bytes grow by less than 2 ^ 34 a row.
use Rattle.std.specs.Prelude.{ℕ, zero, suc, ◌+◌, ◌*◌, ◌≤◌, ◌<◌, ◌≡◌, Bool, true, false, ◌&&◌, ◌||◌, List, length, eqb}
use Rattle.rows.specs.Kinds.{INDENT, INDENT_NEXT, CALL}
use Rattle.rows.specs.Limits.{CELL_LIMIT}
use Rattle.renderer_rules.specs.Limits.{MAX_COLUMN, ROW_GROWTH}
use Rattle.rows.specs.View.{View}
use Rattle.renderer_rules.specs.declared.Frame.{Frame}
use Rattle.renderer_rules.specs.Renderer.{Page}
use Rattle.renderer_rules.specs.Frames.{frame_at}
use Rattle.renderer_rules.specs.Machine.{Machine}

-- a flag as a number
abbrev pub one_if : Bool → ℕ
one_if true = 1
one_if false = 0

-- the steps that the end of f takes back; those that went into `indent` at once
unfoldable pub steps_back : View → Frame → ℕ
steps_back v f =
    one_if
    ((eqb (v.kind f.row) INDENT && f.wrap) || ((eqb (v.kind f.row) INDENT_NEXT && f.wrap) || (eqb (v.kind f.row) CALL && f.deeper)))

unfoldable pub ins_of : View → Frame → ℕ
ins_of v f = one_if (eqb (v.kind f.row) INDENT && f.wrap)

unfoldable pub steps : View → List Frame → ℕ → ℕ
steps v fs zero = 0
steps v fs (suc d) = steps_back v (frame_at fs d) + steps v fs d

unfoldable pub ins : View → List Frame → ℕ → ℕ
ins v fs zero = 0
ins v fs (suc d) = ins_of v (frame_at fs d) + ins v fs d

-- texts and widths are below 2 ^ 32
pub record SmallTexts (v : View) (pg : Page) : Type 0 where
  pub bytes : (i : ℕ) → length (pg.bytes (v.text i)) < CELL_LIMIT
  pub columns : (i : ℕ) → pg.columns (v.text i) < CELL_LIMIT
  pub width : (i : ℕ) → v.width i < CELL_LIMIT

-- the numbers of a machine, which began with `indent` and `next_indent` at base together
pub record Safe (v : View) (base : ℕ) (m : Machine) : Type 0 where
  pub sum : m.state.pen.indent + m.state.pen.next_indent ≡ base + steps v m.frames m.depth
  pub low : ins v m.frames m.depth ≤ m.state.pen.indent
  pub column : m.state.pen.column.0 ≤ MAX_COLUMN + m.next * ROW_GROWTH
  pub bytes : length m.state.buf ≤ m.next * ROW_GROWTH
