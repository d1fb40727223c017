-- What a rendering call answers and leaves. The store is lent so that a dry run can keep old marks in it; it is left as it was.
use Rattle.std.specs.Prelude.{◌≡◌, List, ◌++◌, map, ℕ, ◌+◌, ◌*◌, ◌-◌, ◌≤◌, ◌<◌, min, true, length, take, replicate, None, Result}
use Rattle.rows.specs.Limits.{MAX_ROWS, MAX_DEPTH}
use Rattle.rows.specs.Places.{PLACES}
use Rattle.rows.specs.View.{View, view_of, nodes_at}
use Rattle.rows.specs.Nesting.{Nests}
use Rattle.rows.specs.declared.units.Bytes.{Bytes}
use Rattle.renderer.specs.declared.writing.Writing.{Writing}
use Rattle.renderer.specs.Run.{state_of, Wrote, Lent}
use Rattle.renderer.specs.declared.run.Renderer.{Renderer as Held}
use Rattle.row_widths.specs.Passes.{Unturned}
use Rattle.renderer_rules.specs.declared.Frame.{Frame}
use Rattle.renderer_rules.specs.Frames.{no_frame, frame_at}
use Rattle.renderer_rules.specs.declared.Pen.{Pen}
use Rattle.renderer_rules.specs.Limits.{MAX_INDENT, MAX_COLUMN, START_MARGIN}
use Rattle.renderer_rules.specs.Listed.{resumed, listed_those, can_close_all}
use Rattle.renderer_rules.specs.Most.{nodes_most}
use Rattle.renderer_rules.specs.Stops.{stop_at, listed_rows}
use Rattle.listed_rows.specs.Numbers.{open_row, row_number}
use Rattle.cut_rule.specs.Entries.{render_gives, render_answer, render_marks, render_output}
use Rattle.cut_rule.specs.Run.{write_front}
use Rattle.cut_rule.specs.States as states
use Rattle.refusals.specs.Refusals.{unless}
use Rattle.refusals.specs.declared.Refused.{Refused}
use Rattle.marks.specs.Marks.{marks_needed}
use Rattle.rowcheck.specs.declared.needs.Needs.{Needs}
use Rattle.cut_rule.specs.Parts.{with_cleared, bytes_needed, read_from}
use Rattle.whole_run.specs.Parts.{parts_of, open_rows, still_entered, stopped, widest_drawn}
use Rattle.whole_run.specs.Demands.{rules_of}
use Rattle.render_call.specs.Calls.{goes_to, to_args, rendering_answer, rendering_of, widest_of, early_refusal, run_refusal}
use Rattle.render_call.specs.declared.RenderState.{RenderState}
use Rattle.render_call.specs.declared.RenderArgs.{RenderArgs}
use Rattle.render_call.specs.declared.Written.{Written}
use Rattle.render_call.specs.declared.Drawn.{Drawn}
use Rattle.render_call.specs.declared.run.Halt.{Halt}

-- the rows that an accepted call lists, over the front of the list; entries past them are untouched
abbrev pub render_listed : List ℕ → List ℕ → states.RenderState → RenderArgs → List ℕ → List ℕ → List ℕ → List ℕ → List ℕ
render_listed source image z args store marks out listed =
    unless ((rules_of source image).render_refusal (to_args args (length out)) z store marks) listed
    (write_front (map row_number (render_gives (rules_of source image) (to_args args (length out)) z store marks).state.listed) listed)

-- the answer, and store, marks, output and list at exit, for one source and image: what the caller's state, arguments, store, marks and output give
pub record RenderCalled (source image : List ℕ) (z : states.RenderState) (args : RenderArgs) (store marks out listed : List ℕ)
    (r : Result Written Refused) (store2 marks2 out2 listed2 : List ℕ) : Type 0 where
  pub answer : rendering_answer source image listed2 r ≡ render_answer (rules_of source image) (to_args args (length out)) z store marks
  pub store_left_of : store2 ≡ store
  pub marks_left_of : marks2 ≡ render_marks (rules_of source image) (to_args args (length out)) z store marks
  pub output_left_of : out2 ≡ render_output (rules_of source image) (to_args args (length out)) z store marks out
  pub list_left_of : listed2 ≡ render_listed source image z args store marks out listed

-- the greatest value that `column` is set to over the rows that a call enters, with the marks that it has
abbrev pub widest_due : List ℕ → List ℕ → states.RenderState → RenderArgs → List ℕ → List ℕ → ℕ
widest_due source image z args store marks =
    widest_drawn source image z (goes_to args) args.allotment
    (with_cleared (parts_of source image) (take z.in_use marks) (marks_needed (args.stop - read_from z) store (read_from z)))
    store

-- the same as a call, with the greatest column
pub record Draws (source image : List ℕ) (z : states.RenderState) (args : RenderArgs) (store marks out listed : List ℕ)
    (d : Result Drawn Refused) (store2 marks2 out2 listed2 : List ℕ) : Type 0 where
  pub called : RenderCalled source image z args store marks out listed (rendering_of d) store2 marks2 out2 listed2
  pub widest :
      widest_of d
      ≡ unless ((rules_of source image).render_refusal (to_args args (length out)) z store marks) 0
      (widest_due source image z args store marks)

-- the bytes that the text has, 10's place, with store and marks as they were
pub record Counted (source image : List ℕ) (z : states.RenderState) (args : RenderArgs) (store marks : List ℕ) (n : Bytes) (store2 marks2 : List ℕ)
    : Type 0 where
  pub bytes : n.0 ≡ bytes_needed (parts_of source image) (to_args args 0) z store marks
  pub store_left_of : store2 ≡ store
  pub marks_left_of : marks2 ≡ marks

-- 20, 1 to 3, 11, 12, 15, 22 and 23 do not refuse the call
pub record Checked (source image : List ℕ) (z : states.RenderState) (args : RenderArgs) (store marks : List ℕ) : Type 0 where
  pub passes : early_refusal source image args z store marks ≡ None

-- nothing refuses the call before its run
pub record Passing (source image : List ℕ) (z : states.RenderState) (args : RenderArgs) (store marks : List ℕ) : Type 0 where
  pub passes : run_refusal source image args z store marks ≡ None

-- and its text has room
pub record Fitting (source image : List ℕ) (z : states.RenderState) (args : RenderArgs) (store marks out : List ℕ) : Type 0 where
  pub passing : Passing source image z args store marks
  pub room : bytes_needed (parts_of source image) (to_args args (length out)) z store marks ≤ length out

-- the bytes that the rows give at most, with the start of the first line
abbrev pub most_of : states.RenderState → RenderArgs → List ℕ → ℕ
most_of z args store =
    let margin = z.pen.indent + z.pen.next_indent in
    4 * margin + nodes_most (nodes_at (view_of store) (read_from z) args.stop) margin

-- how many steps in the first line starts, where 12 lets the state pass
pub record MarginOf (p : Pen) (n : ℕ) : Type 0 where
  pub few : n ≤ START_MARGIN
  pub same : p.indent ≤ MAX_INDENT → p.next_indent ≤ MAX_INDENT → n ≡ p.indent + p.next_indent

-- the marks that the rows need, and the bytes that they give at most
pub record NeedsOfCall (source image : List ℕ) (z : states.RenderState) (args : RenderArgs) (store : List ℕ) (n : Needs) : Type 0 where
  pub marks : n.marks ≡ marks_needed (args.stop - read_from z) store (read_from z)
  pub bytes : n.bytes.0 ≡ most_of z args store

-- p has the state's pen, and wrote nothing yet
pub record Takes (state : RenderState) (p : Writing) : Type 0 where
  pub pen : p.pen ≡ state.pen
  pub at : p.at.0 ≡ 0
  pub widest : p.widest.0 ≡ 0

-- listed rows as open ones, with row n next, in a list of as many places as rows can be open
abbrev pub rows_open : View → ℕ → List ℕ → List Frame
rows_open v n numbers = map (resumed v n) (map open_row numbers) ++ replicate (MAX_DEPTH - length numbers) no_frame

-- the rows of a store may be rendered from a state on
pub record Runnable (source image : List ℕ) (z : states.RenderState) (args : RenderArgs) (store : List ℕ) : Type 0 where
  pub room : args.stop * PLACES ≤ length store
  pub few : args.stop ≤ MAX_ROWS
  pub nests : Nests (view_of store) (read_from z) args.stop 0
  pub ahead : z.row ≤ args.stop
  pub indent : z.pen.indent ≤ MAX_INDENT
  pub next_indent : z.pen.next_indent ≤ MAX_INDENT
  pub column : z.pen.column.0 ≤ MAX_COLUMN
  pub few_listed : length z.listed ≤ MAX_DEPTH
  pub those : listed_those (view_of store) z.listed z.row ≡ true
  pub closable : can_close_all (view_of store) z.listed z.pen ≡ true
  pub unturned : Unturned store (read_from z) args.stop

-- where a run halts, over these marks, by the rules, and what it leaves of store, marks and output
pub record Halts (source image : List ℕ) (z : states.RenderState) (args : RenderArgs) (store marks out : List ℕ) (h : Halt)
    (store2 marks2 out2 : List ℕ) : Type 0 where
  pub text : List ℕ
  pub stops :
      stop_at h.next (listed_rows h.frames.items h.frames.depth) (state_of h.writing marks2 text)
      ≡ stopped source image z (goes_to args) args.allotment marks store
  pub count : h.entered ≡ min args.allotment (length (still_entered source image z (goes_to args) marks store))
  pub wrote : Wrote (length out) out out2 h.writing.at.0 text
  pub store_left_of : store2 ≡ store
  pub size : length h.frames.items ≡ MAX_DEPTH
  pub deep : h.frames.depth ≤ MAX_DEPTH
  pub rows : (j : ℕ) → j < h.frames.depth → (frame_at h.frames.items j).row < MAX_ROWS

-- a renderer is made of a state, and has written nothing yet
pub record Made (source image : List ℕ) (z : states.RenderState) (args : RenderArgs) (store : List ℕ) (r : Held) : Type 0 where
  pub depth : r.frames.depth ≡ length z.listed
  pub items : r.frames.items ≡ open_rows (view_of store) z
  pub next : r.next ≡ z.row
  pub pen : r.writing.pen ≡ z.pen
  pub nothing : r.writing.at.0 ≡ 0
  pub widest : r.writing.widest.0 ≡ 0
  pub max : r.max.0 ≡ args.width.0

-- what it has become
abbrev pub halt_of : Held → ℕ → Halt
halt_of q n = record { writing = q.writing; frames = q.frames; next = q.next; entered = n }

pub record HaltsOn (source image : List ℕ) (z : states.RenderState) (args : RenderArgs) (store : List ℕ) (r : Held) (n : ℕ) (store2 : List ℕ) (q : Held)
    : Type 0 where
  pub halts : Halts source image z args store r.marks.now r.out.now (halt_of q n) store2 q.marks.now q.out.now
  pub lent : Lent r q
