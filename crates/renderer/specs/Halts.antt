-- A run that goes on from a stop and may enter so many rows: where it halts, by the rules (renderer_rules/specs/Stops.antt).
use Rattle.std.specs.Prelude.{ℕ, zero, suc, ◌+◌, ◌*◌, ◌≤◌, ◌<◌, min, ◌≡◌, Bool, true, ◌||◌, List, [], length, get_or, ltb, Option, Some, None}
use Rattle.rows.specs.Kinds.{WRAP_PARENT, LINE_OR_SPACE, number_of}
use Rattle.rows.specs.declared.kinds.Kind.{Kind}
use Rattle.rows.specs.Places.{KIND, PLACES}
use Rattle.rows.specs.Limits.{MAX_ROWS, MAX_DEPTH}
use Rattle.rows.specs.View.{view_of, cell}
use Rattle.rows.specs.declared.texts.Rows.{Rows}
use Rattle.renderer_rules.specs.Limits.{START_MARGIN, MAX_COLUMN}
use Rattle.renderer_rules.specs.Page.{page_of}
use Rattle.renderer_rules.specs.Frames.{At, frame_at, part_limit, wrap_at}
use Rattle.renderer_rules.specs.Machine.{Machine, turn}
use Rattle.renderer_rules.specs.Safe.{steps, ins}
use Rattle.renderer_rules.specs.Stops.{Stop, stop_at, listed_rows, ahead, meaning}
use Rattle.renderer.specs.declared.run.Renderer.{Renderer as Held}
use Rattle.renderer.specs.Run.{run_of, state_of, Wrote, Ready, Turns, Lent}

-- a rendering may go on: the rows that are left nest, and the state's numbers are in range
pub record Resuming (store : List ℕ) (stop : ℕ) (r : Held) : Type 0 where
  pub room : stop * PLACES ≤ length store
  pub few : stop ≤ MAX_ROWS
  pub at : At (view_of store) stop r.frames.items r.frames.depth r.next
  pub base : ℕ
  pub low : base ≤ START_MARGIN
  pub sum : r.writing.pen.indent + r.writing.pen.next_indent ≡ base + steps (view_of store) r.frames.items r.frames.depth
  pub steps_in : ins (view_of store) r.frames.items r.frames.depth ≤ r.writing.pen.indent
  pub column : r.writing.pen.column.0 ≤ MAX_COLUMN
  pub nothing : r.writing.at.0 ≡ 0

-- the stops of the rules ahead of a run that wrote nothing yet, and where it would end
abbrev pub stops_of : List ℕ → List ℕ → List ℕ → ℕ → Held → List Stop
stops_of store source image stop r =
    ahead (view_of store) (page_of r.max.0 source image) stop r.frames.items r.frames.depth r.next (state_of r.writing r.marks.now [])

abbrev pub end_of : List ℕ → List ℕ → List ℕ → ℕ → Held → Stop
end_of store source image stop r =
    stop_at stop []
    (meaning (view_of store) (page_of r.max.0 source image) stop r.frames.items r.frames.depth r.next (state_of r.writing r.marks.now []))

-- where the run halted, and how many rows it entered: after as many as it might enter, or at the end
pub record Halted (store source image : List ℕ) (stop allotment : ℕ) (r q : Held) (n : ℕ) : Type 0 where
  pub text : List ℕ
  pub stops :
      stop_at q.next (listed_rows q.frames.items q.frames.depth) (state_of q.writing q.marks.now text)
      ≡ get_or (stops_of store source image stop r) allotment (end_of store source image stop r)
  pub count : n ≡ min allotment (length (stops_of store source image stop r))
  pub wrote : Wrote (length r.out.now) r.out.now q.out.now q.writing.at.0 text
  pub lent : Lent r q
  pub size : length q.frames.items ≡ MAX_DEPTH
  pub deep : q.frames.depth ≤ MAX_DEPTH
  pub rows : (j : ℕ) → j < q.frames.depth → (frame_at q.frames.items j).row < MAX_ROWS

-- ---- rows without parts, one after the other
-- a function done k times
unfoldable pub times : ℕ → (Machine → Machine) → Machine → Machine
times zero f m = m
times (suc k) f m = f (times k f m)

-- whether rows of a kind have parts
abbrev pub parts_in : ℕ → Bool
parts_in kind = ltb kind WRAP_PARENT || ltb LINE_OR_SPACE kind

-- rows without parts may be passed up to row `end` of the open part
pub record Passing (rows : Rows) (w : Bool) (end : ℕ) (r : Held) : Type 0 where
  pub stop : ℕ
  pub ready : Ready rows.store.now rows.source.now rows.image.now r.max.0 (length r.out.now) stop r.marks.now r.out.now (run_of r)
  pub wrap : w ≡ wrap_at r.frames.items r.frames.depth
  pub from : r.next ≤ end
  pub low : end ≤ part_limit (view_of rows.store.now) stop r.frames.items r.frames.depth

-- why no more are passed: row `end` is next, or a row with parts, of this kind
unfoldable pub PassedTo : List ℕ → ℕ → ℕ → Option Kind → Type 0
PassedTo store end next None = next ≡ end
PassedTo store end next (Some kind) = (next < end) × ((cell store next KIND ≡ number_of kind) × (parts_in (number_of kind) ≡ true))

-- so many are passed
pub record Passed (rows : Rows) (end : ℕ) (r q : Held) (kind : Option Kind) : Type 0 where
  pub count : ℕ
  pub turns : Turns (times count (turn (view_of rows.store.now) (page_of r.max.0 rows.source.now rows.image.now))) r q
  pub frames : q.frames ≡ r.frames
  pub next : q.next ≡ r.next + count
  pub leaves : (i : ℕ) → r.next ≤ i → i < q.next → (WRAP_PARENT ≤ cell rows.store.now i KIND) × (cell rows.store.now i KIND ≤ LINE_OR_SPACE)
  pub ends : PassedTo rows.store.now end q.next kind
