-- No rule rests on this file: it is how the code renders. The open rows of a rendering, and what they keep: the rows ahead nest, in the part that
-- is open and behind each open row.
use Rattle.std.specs.Prelude.{ℕ, zero, suc, ◌≤◌, ◌<◌, ◌≡◌, Bool, true, false, cond, List, length, get_or}
use Rattle.rows.specs.Limits.{MAX_DEPTH}
use Rattle.rows.specs.View.{View}
use Rattle.rows.specs.Nesting.{Nests}
use Rattle.renderer_rules.specs.declared.Frame.{Frame}

-- what is read where no row is open
abbrev pub no_frame : Frame
no_frame = record { row = 0; wrap = false; first = false; deeper = false; made = false }

-- the open row of frame d
abbrev pub frame_at : List Frame → ℕ → Frame
frame_at fs d = get_or fs d no_frame

-- where the open part of f ends
unfoldable pub part_end : View → Frame → ℕ
part_end v f = cond f.first (v.second f.row) (v.after f.row)

-- whether the open part of the innermost of d open rows wraps
unfoldable pub wrap_at : List Frame → ℕ → Bool
wrap_at fs zero = true
wrap_at fs (suc d) = (frame_at fs d).wrap

-- an open row, and what is open of it, lie from row `from` on; and so the first d of some
pub record Lies (v : View) (from : ℕ) (f : Frame) : Type 0 where
  pub row : from ≤ f.row
  pub after : from ≤ v.after f.row
  pub part : f.first ≡ true → from ≤ v.second f.row

abbrev pub AllLie : View → ℕ → List Frame → ℕ → Type 0
AllLie v from fs d = (j : ℕ) → j < d → Lies v from (frame_at fs j)

module _ (v : View) (stop : ℕ) where
  -- where that part ends
  unfoldable pub part_limit : List Frame → ℕ → ℕ
  part_limit fs zero = stop
  part_limit fs (suc d) = part_end v (frame_at fs d)

  -- the row that frame d has open, with d rows around it
  pub record Open (fs : List Frame) (d : ℕ) : Type 0 where
    pub row : (frame_at fs d).row < stop
    pub later : Nests v (part_end v (frame_at fs d)) (v.after (frame_at fs d).row) (suc d)
    pub after : Nests v (v.after (frame_at fs d).row) (part_limit fs d) d
    pub low : part_limit fs d ≤ stop

  -- the rows that the first d frames have open
  unfoldable pub Under : List Frame → ℕ → Type 0
  Under fs zero = Unit {0}
  Under fs (suc d) = Open fs d × Under fs d

  -- with d rows open and row i next, the rows that are left nest
  pub record At (fs : List Frame) (d i : ℕ) : Type 0 where
    pub good : Nests v i (part_limit fs d) d
    pub under : Under fs d
    pub low : part_limit fs d ≤ stop
    pub size : length fs ≡ MAX_DEPTH
    pub deep : d ≤ MAX_DEPTH
