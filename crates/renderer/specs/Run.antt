-- The contracts of the rendering loop: the run of the code as the machine, and what each of its functions does.
use Rattle.std.specs.Prelude.{ℕ, ◌+◌, ◌*◌, ◌-◌, ◌≤◌, ◌<◌, ◌≡◌, Bool, true, false, cond, not, ◌&&◌, List, [], length, set}
use Rattle.rows.specs.Kinds.{INDENT, INDENT_NEXT, CALL}
use Rattle.rows.specs.Places.{KIND, NUMBER, SECOND_NUMBER, SECOND, AFTER, WIDTH, PLACES}
use Rattle.rows.specs.Limits.{MAX_ROWS, MAX_DEPTH}
use Rattle.renderer_rules.specs.Limits.{START_MARGIN, MAX_COLUMN}
use Rattle.renderer.specs.Limits.{MAX_MARGIN, BEFORE_ROW}
use Rattle.rows.specs.View.{view_of, cell, nodes_at}
use Rattle.rows.specs.Nesting.{Nested}
use Rattle.rows.specs.Node.{widths, byte_columns}
use Rattle.renderer_rules.specs.declared.Frame.{Frame}
use Rattle.renderer_rules.specs.declared.Pen.{Pen}
use Rattle.renderer_rules.specs.Renderer.{Renderer, fresh_renderer, with_buf, with_widest, render_nodes}
use Rattle.renderer_rules.specs.Renderer.{virtual_column, group_wraps, trailing_call, callee_wraps, next_indent_more}
use Rattle.renderer_rules.specs.Page.{page_of}
use Rattle.renderer_rules.specs.Frames.{part_limit, At}
use Rattle.renderer_rules.specs.Machine.{Machine, frame_of, call_frame, closes}
use Rattle.renderer_rules.specs.Safe.{Safe, SmallTexts}
use Rattle.renderer.specs.declared.writing.Writing.{Writing}
use Rattle.renderer.specs.declared.run.Renderer.{Renderer as Held}
use Rattle.renderer.specs.Output.{written_over}
use Rattle.renderer.specs.Writing.{set_pen}

-- a run with its open rows
pub record Running : Type 0 where
  pub frames : List Frame
  pub depth : ℕ
  pub next : ℕ
  pub writing : Writing

-- that of the code's `Renderer`
abbrev pub run_of : Held → Running
run_of r = record { frames = r.frames.items; depth = r.frames.depth; next = r.next; writing = r.writing }

-- the renderer that has written b so far
abbrev pub state_of : Writing → List ℕ → List ℕ → Renderer
state_of w marks b = with_widest w.widest.0 (with_buf b (fresh_renderer w.pen marks))

-- the machine of a run that has written b and entered n rows
unfoldable pub machine_of : Running → List ℕ → List ℕ → ℕ → Machine
machine_of r marks b n =
    record { frames = r.frames; depth = r.depth; next = r.next; state = state_of r.writing marks b; entered = n }

-- b is what is written, over an output that was o
pub record Wrote (limit : ℕ) (o out : List ℕ) (at : ℕ) (b : List ℕ) : Type 0 where
  pub bytes : at ≡ length b
  pub written : out ≡ written_over limit o 0 b

-- the run has become machine m
pub record Shows (limit : ℕ) (o marks out : List ℕ) (r : Running) (m : Machine) : Type 0 where
  pub same : m ≡ machine_of r marks m.state.buf m.entered
  pub wrote : Wrote limit o out r.writing.at.0 m.state.buf

-- from a run to the next as f turns the machine
pub record Follows (limit : ℕ) (f : Machine → Machine) (marks out : List ℕ) (r : Running) (marks2 out2 : List ℕ) (q : Running) : Type 0 where
  pub goes : (o b : List ℕ) (n : ℕ) → Wrote limit o out r.writing.at.0 b → Shows limit o marks2 out2 q (f (machine_of r marks b n))

-- the rows that are left nest, and the numbers are in range
pub record Ready (store source image : List ℕ) (max limit stop : ℕ) (marks out : List ℕ) (r : Running) : Type 0 where
  pub room : stop * PLACES ≤ length store
  pub few : stop ≤ MAX_ROWS
  pub fits : limit ≤ length out
  pub small : SmallTexts (view_of store) (page_of max source image)
  pub at : At (view_of store) stop r.frames r.depth r.next
  pub base : ℕ
  pub low : base ≤ START_MARGIN
  pub before : List ℕ
  pub text : List ℕ
  pub wrote : Wrote limit before out r.writing.at.0 text
  pub safe : Safe (view_of store) base (machine_of r marks text 0)

-- how a run goes on: a row is opened, with row k next; a row without parts is passed; the innermost row is f from here on
abbrev pub opened_run : Running → Frame → ℕ → Writing → Running
opened_run r f k w = record { frames = set r.frames r.depth f; depth = r.depth + 1; next = k; writing = w }

abbrev pub passed_run : Running → Writing → Running
passed_run r w = record { frames = r.frames; depth = r.depth; next = r.next + 1; writing = w }

abbrev pub reopened_run : Running → Frame → Running
reopened_run r f = record { frames = set r.frames (r.depth - 1) f; depth = r.depth; next = r.next; writing = r.writing }

-- the numbers of a run that enters a row
pub record Enters (store : List ℕ) (r : Running) : Type 0 where
  pub depth : r.depth < MAX_DEPTH
  pub row : r.next * PLACES + WIDTH < length store
  pub few : r.next < MAX_ROWS
  pub indent : r.writing.pen.indent + r.writing.pen.next_indent ≤ MAX_MARGIN
  pub column : r.writing.pen.column.0 < BEFORE_ROW

-- a row is ahead in the open part
pub record Entering (store source image : List ℕ) (max limit stop : ℕ) (marks out : List ℕ) (r : Running) : Type 0 where
  pub ready : Ready store source image max limit stop marks out r
  pub inside : r.next < part_limit (view_of store) stop r.frames r.depth

-- what a step of the code's `Renderer` leaves: the width, and which marks and which output are lent
pub record Lent (r q : Held) : Type 0 where
  pub max : q.max ≡ r.max
  pub marks : q.marks.ghost_name ≡ r.marks.ghost_name
  pub out : q.out.ghost_name ≡ r.out.ghost_name

-- a step that writes nothing, and one that marks nothing either
pub record Unwritten (r q : Held) : Type 0 where
  pub lent : Lent r q
  pub mark : q.mark ≡ r.mark
  pub out : q.out.now ≡ r.out.now

pub record Unmarked (r q : Held) : Type 0 where
  pub unwritten : Unwritten r q
  pub marks : q.marks.now ≡ r.marks.now

-- a step that turns the machine by f
pub record Turns (f : Machine → Machine) (r q : Held) : Type 0 where
  pub follows : Follows (length r.out.now) f r.marks.now r.out.now (run_of r) q.marks.now q.out.now (run_of q)
  pub lent : Lent r q
  pub mark : q.mark ≡ r.mark

-- a run that opens a row, which reads no text and writes none
pub record OpensRow (store : List ℕ) (max : ℕ) (marks : List ℕ) (r : Running) : Type 0 where
  pub source : List ℕ
  pub image : List ℕ
  pub out : List ℕ
  pub limit : ℕ
  pub stop : ℕ
  pub entering : Entering store source image max limit stop marks out r

-- the marks once group `number` wraps or not
abbrev pub inserted : Bool → ℕ → List ℕ → List ℕ
inserted wraps number marks = cond wraps (set marks number 1) marks

-- A `Group` is opened: whether it wraps, the run and the marks.
pub record GroupOpened (store : List ℕ) (max : ℕ) (marks : List ℕ) (r : Running) (marks2 : List ℕ) (q : Running) : Type 0 where
  pub wraps : Bool
  pub is_wraps :
      wraps ≡ group_wraps (page_of max [] []) (nodes_at (view_of store) (r.next + 1) (cell store r.next AFTER)) (fresh_renderer r.writing.pen marks)
  pub run : q ≡ opened_run r (frame_of r.next wraps false) (r.next + 1) r.writing
  pub marked : marks2 ≡ inserted wraps (cell store r.next NUMBER) marks

-- A `Call` is opened: which way it goes, whether its callee wraps, the run and the marks.
pub record CallOpened (store : List ℕ) (max : ℕ) (marks : List ℕ) (r : Running) (marks2 : List ℕ) (q : Running) : Type 0 where
  pub trails : Bool
  pub wraps : Bool
  pub is_trails :
      trails
      ≡ trailing_call (page_of max [] [])
      (nodes_at (view_of store) (r.next + 1) (cell store r.next SECOND))
      (nodes_at (view_of store) (cell store r.next SECOND) (cell store r.next AFTER))
      (fresh_renderer r.writing.pen marks)
  pub is_wraps :
      wraps
      ≡ callee_wraps (page_of max [] []) trails
      (nodes_at (view_of store) (r.next + 1) (cell store r.next SECOND))
      (nodes_at (view_of store) (cell store r.next SECOND) (cell store r.next AFTER))
      (fresh_renderer r.writing.pen marks)
  pub run :
      q
      ≡ opened_run r (call_frame r.next wraps true (not trails && wraps) (not trails)) (r.next + 1)
      (set_pen (next_indent_more (not trails && wraps) r.writing.pen) r.writing)
  pub marked : marks2 ≡ inserted wraps (cell store r.next NUMBER) marks

-- The arguments of the `Call` of frame f are opened.
pub record ArgumentsOpened (store : List ℕ) (max : ℕ) (marks : List ℕ) (r : Running) (f : Frame) (marks2 : List ℕ) (q : Running) : Type 0 where
  pub wraps : Bool
  pub is_wraps : wraps ≡ group_wraps (page_of max [] []) (nodes_at (view_of store) r.next (cell store f.row AFTER)) (fresh_renderer r.writing.pen marks)
  pub run : q ≡ reopened_run r (call_frame f.row wraps false f.deeper f.made)
  pub marked : marks2 ≡ inserted wraps (cell store f.row SECOND_NUMBER) marks

-- the step back that the end of a row takes is there
pub record Backs (kind : ℕ) (f : Frame) (p : Pen) : Type 0 where
  pub indent : kind ≡ INDENT → f.wrap ≡ true → 1 ≤ p.indent
  pub next : kind ≡ INDENT_NEXT → f.wrap ≡ true → 1 ≤ p.indent + p.next_indent
  pub call : kind ≡ CALL → f.deeper ≡ true → 1 ≤ p.indent + p.next_indent

-- the numbers of a run that leaves the innermost row, whose frame is f
pub record Leaves (store : List ℕ) (r : Running) (f : Frame) : Type 0 where
  pub pos : 0 < r.depth
  pub depth : r.depth ≤ MAX_DEPTH
  pub row : f.row * PLACES + WIDTH < length store
  pub few : f.row < MAX_ROWS
  pub indent : r.writing.pen.indent ≤ MAX_MARGIN
  pub column : r.writing.pen.column.0 < BEFORE_ROW
  pub backs : Backs (cell store f.row KIND) f r.writing.pen
  pub arguments : cell store f.row KIND ≡ CALL → f.first ≡ true → Nested store r.next (cell store f.row AFTER)

-- the run with its innermost row closed, row k next and another pen; and with the row of f closed
abbrev pub closed_at : Running → ℕ → Pen → Running
closed_at r k p = record { frames = r.frames; depth = r.depth - 1; next = k; writing = set_pen p r.writing }

abbrev pub closed_run : List ℕ → Running → Frame → Running
closed_run store r f = closed_at r (cell store f.row AFTER) (closes (cell store f.row KIND) f.wrap f.deeper r.writing.pen)

-- The innermost row is left: the arguments of a `Call` are opened, or the row is closed.
pub data Left (store : List ℕ) (max : ℕ) (marks : List ℕ) (r : Running) (f : Frame) (marks2 : List ℕ) (q : Running) : Type 0 where
  goes_on : cell store f.row KIND ≡ CALL → f.first ≡ true → ArgumentsOpened store max marks r f marks2 q → Left store max marks r f marks2 q
  ends : (cell store f.row KIND ≡ CALL → f.first ≡ false) → marks2 ≡ marks → q ≡ closed_run store r f → Left store max marks r f marks2 q

-- a rendering may start: the rows from a row up to the stop nest, and the state's numbers are in range
pub record Starting (store : List ℕ) (from stop : ℕ) (p : Writing) : Type 0 where
  pub nested : Nested store from stop
  pub margin : p.pen.indent + p.pen.next_indent ≤ START_MARGIN
  pub column : p.pen.column.0 ≤ MAX_COLUMN
  pub at : p.at.0 ≡ 0
  pub widest : p.widest.0 ≡ 0

-- what s has is what the writing, the marks and the output have become
pub record Ended (limit : ℕ) (s : Renderer) (out marks2 out2 : List ℕ) (q : Writing) : Type 0 where
  pub pen : q.pen ≡ s.pen
  pub bytes : q.at.0 ≡ length s.buf
  pub widest : q.widest.0 ≡ s.widest
  pub marks : marks2 ≡ s.marks
  pub written : out2 ≡ written_over limit out 0 s.buf

-- the renderer has no row open, and may render those up to the stop
pub record Unstarted (store : List ℕ) (stop : ℕ) (r : Held) : Type 0 where
  pub starting : Starting store r.next stop r.writing
  pub none : r.frames.depth ≡ 0
  pub places : length r.frames.items ≡ MAX_DEPTH

-- the renderer has rendered them
pub record Rendered (store source image : List ℕ) (stop : ℕ) (r q : Held) : Type 0 where
  pub ended :
      Ended (length r.out.now)
      (render_nodes (page_of r.max.0 source image) (nodes_at (view_of store) r.next stop) true (fresh_renderer r.writing.pen r.marks.now))
      r.out.now q.marks.now q.out.now q.writing
  pub lent : Lent r q

-- the pen stands where rows may be measured
abbrev pub HasMargin : Pen → Type 0
HasMargin p = (p.indent ≤ MAX_MARGIN) × (p.column.0 < BEFORE_ROW)

-- the column behind rows on one line; whether they wrap as a group; whether those up to `mid` and then up to `to` are a trailing call
abbrev pub column_behind : List ℕ → Held → ℕ → ℕ → ℕ
column_behind store r from to = virtual_column r.writing.pen + widths byte_columns r.marks.now (nodes_at (view_of store) from to)

abbrev pub rows_wrap : List ℕ → Held → ℕ → ℕ → Bool
rows_wrap store r from to = group_wraps (page_of r.max.0 [] []) (nodes_at (view_of store) from to) (fresh_renderer r.writing.pen r.marks.now)

abbrev pub rows_trail : List ℕ → Held → ℕ → ℕ → ℕ → Bool
rows_trail store r from mid to =
    trailing_call (page_of r.max.0 [] []) (nodes_at (view_of store) from mid) (nodes_at (view_of store) mid to)
    (fresh_renderer r.writing.pen r.marks.now)
