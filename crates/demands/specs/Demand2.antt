-- Demand 2: for an accepted tree the rows, marks, text and comments left equal what `fmt_parsed` builds and renders. proofs/Demand2.antt proves it.
--
-- Of the two calls and of a whole file, by what they promise. What `fmt_parsed` builds: `fmt_parsed` (crates/layout/specs/Layout.antt), what it has
-- when its loop reaches a declaration: `up_to` (crates/layout/specs/Closing.antt); what `Renderer` makes of it: `render_nodes`
-- (crates/renderer_rules/specs/Renderer.antt), for a whole document `drawn_due` (crates/whole_run/specs/Built.antt), in each mode and at every width
-- that is accepted, by each rule of width. The old mode is the Rust's; of the new one it is said what closing adds, and that no comment is left.
-- What a rule changes in the rows: `laid_nodes` (crates/node_widths/specs/Summed.antt), the sum in each `Str`.
-- That the Rust's own choices give what there was before one could be made is `ReferenceHolds` (crates/whole_run/specs/Reference.antt).
use Rattle.std.specs.Prelude.{◌≡◌, Bool, true, false, List, [], ℕ, ◌-◌, ◌≤◌, length, take, replicate, Ok}
use Rattle.rows.specs.Rows.{sizes, rows}
use Rattle.rows.specs.View.{view_of}
use Rattle.rows.specs.declared.units.Bytes.{Bytes}
use Rattle.acts.specs.Act.{Out}
use Rattle.tree.specs.CommentList.{comments_of}
use Rattle.comments.specs.Listed.{given}
use Rattle.layout.specs.Layout.{fmt_parsed}
use Rattle.node_widths.specs.Summed.{laid_nodes}
use Rattle.layout.specs.Closing.{fresh, up_to, whole_rule}
use Rattle.renderer_rules.specs.Stops.{entered}
use Rattle.cut_rule.specs.Run.{write_front}
use Rattle.cut_rule.specs.States.{render_fresh, OLD_MODE, NEW_MODE}
use Rattle.whole_run.specs.Parts.{renderer_of, page}
use Rattle.whole_run.specs.Demands.{LaidWithinLimits}
use Rattle.whole_run.specs.Reference.{ReferenceHolds}
use Rattle.whole_run.specs.File.{OldModeIsFmtParsed, NewModeLeavesNone}
use Rattle.whole_run.specs.Built.{FileChoice, render_choice, built, laid, marks_due, drawn_due, tree, declared}
use Rattle.layout_call.specs.declared.LayoutState.{LayoutState}
use Rattle.layout_call.specs.Whole.{LayoutCalled}
use Rattle.render_call.specs.declared.RenderState.{RenderState}
use Rattle.render_call.specs.Calls as render
use Rattle.render_call.specs.Whole.{RenderCalled}
use Rattle.file.specs.Whole.{Formats}
use Rattle.demands.specs.Fresh.{fresh_layout, fresh_render}

-- ---- layout
-- the rows in the store, with the sums of the rule, the numbers of the state and the comments left are those of o; behind the rows the store is
-- as it was
pub record LaidOutAs (rule : ℕ) (s b : List ℕ) (o : Out) (store : List ℕ) (t : LayoutState) (left : ℕ) (store2 : List ℕ) : Type 0 where
  pub rows_due_of : store2 ≡ write_front (rows (laid_nodes rule s b o.nodes) 0) store
  pub row_due : t.row ≡ sizes o.nodes
  pub number_due : t.number ≡ o.taken
  pub position_due : t.position ≡ o.pos
  pub placed_due : t.placed ≡ o.placed
  pub left_due_of : left ≡ length (comments_of b) - o.placed

-- a layout call from fresh up to declaration n, by either entry, in either mode: "those `fmt_parsed` has when its loop reaches that declaration"
abbrev pub AtStopDue : Type 0
AtStopDue = (archive : Bool) (s b store : List ℕ) (mode rule n : ℕ) (t : LayoutState) (left : ℕ) (store2 : List ℕ)
    → LayoutCalled s b fresh_layout (record { stop = n; close = false; mode = mode; rule = rule; archive = archive }) store
    (Ok (record { state = t; left = left })) store2
    → LaidOutAs rule s b (up_to (given s b) (tree s b) (take n (declared s b)) fresh) store t left store2

-- and closing in the old mode: those that it has in the end
abbrev pub ClosedDue : Type 0
ClosedDue = (archive : Bool) (s b store : List ℕ) (rule : ℕ) (t : LayoutState) (left : ℕ) (store2 : List ℕ)
    → LayoutCalled s b fresh_layout (record { stop = length (declared s b); close = true; mode = OLD_MODE; rule = rule; archive = archive }) store
    (Ok (record { state = t; left = left })) store2
    → LaidOutAs rule s b (fmt_parsed (given s b) (tree s b) fresh) store t left store2

-- and in the new mode: the same, with every comment that waits before the final `Line`; "0 left"
abbrev pub ClosedKeepingDue : Type 0
ClosedKeepingDue = (archive : Bool) (s b store : List ℕ) (rule : ℕ) (t : LayoutState) (left : ℕ) (store2 : List ℕ)
    → LayoutCalled s b fresh_layout (record { stop = length (declared s b); close = true; mode = NEW_MODE; rule = rule; archive = archive }) store
    (Ok (record { state = t; left = left })) store2
    → LaidOutAs rule s b (whole_rule (given s b) (tree s b) true fresh) store t left store2 × (left ≡ 0)

-- ---- rendering
-- "The count returned equals the rows entered in the definition: one for each row rendered": those that `render_nodes` enters of the whole document,
-- from where `drawn_due` begins (crates/renderer_rules/specs/Stops.antt)
abbrev pub entered_due : List ℕ → List ℕ → FileChoice → ℕ
entered_due s b c =
    let all = laid s b c in
    length
    (entered (view_of (rows all 0)) (page (render_choice c) s b) all 0 [] true (renderer_of render_fresh.pen (replicate (marks_due s b c) 0)))

-- the marks, and the text at the start of the output; behind them both are as they were; and how many rows were entered
pub record DrawnAs (s b : List ℕ) (c : FileChoice) (marks out : List ℕ) (bytes count : ℕ) (marks2 out2 : List ℕ) : Type 0 where
  pub marks_due_of : marks2 ≡ write_front (drawn_due s b c).marks marks
  pub bytes_due : bytes ≡ length (drawn_due s b c).text
  pub text_due : out2 ≡ write_front (drawn_due s b c).text out
  pub count_due : count ≡ entered_due s b c

-- a rendering call from fresh over all rows that such a layout call, by either entry, left, in the mode, at the width and by the rule that the two
-- chose. Its allotment is as many rows as there are, or more. The list lent with a fresh state may hold anything.
abbrev pub RenderedDue : Type 0
RenderedDue = (archive : Bool) (s b store : List ℕ) (mode rule : ℕ) (t : LayoutState) (left : ℕ) (store2 : List ℕ)
    → LayoutCalled s b fresh_layout (record { stop = length (declared s b); close = true; mode = mode; rule = rule; archive = archive }) store
    (Ok (record { state = t; left = left })) store2
    → (width allotment : ℕ) → t.row ≤ allotment
    → (marks out listed : List ℕ) (u : RenderState) (n : Bytes) (count : ℕ) (store3 marks2 out2 listed2 : List ℕ)
    → RenderCalled s b (render.to_state fresh_render listed)
    (record { stop = t.row; allotment = allotment; width = record { 0 = width }; rule = rule }) store2 marks out listed
    (Ok (record { state = u; bytes = n; entered = count })) store3 marks2 out2 listed2
    → DrawnAs s b (record { width = width; mode = mode; rule = rule }) marks out n.0 count marks2 out2

-- ---- a whole file
pub record FileAs (s b : List ℕ) (c : FileChoice) (out : List ℕ) (bytes left count numbers : ℕ) (out2 : List ℕ) : Type 0 where
  pub text_due : out2 ≡ write_front (drawn_due s b c).text out
  pub bytes_due : bytes ≡ length (drawn_due s b c).text
  pub left_due_of : left ≡ length (comments_of b) - (built s b c).placed
  pub rows_due_of : count ≡ sizes (built s b c).nodes
  pub numbers_due : numbers ≡ (built s b c).taken

abbrev pub FileDue : Type 0
FileDue = (s b : List ℕ) (c : FileChoice) (out : List ℕ) (n : Bytes) (left count numbers : ℕ) (out2 : List ℕ)
    → Formats s b c out (Ok (record { bytes = n; left = left; rows = count; numbers = numbers })) out2
    → FileAs s b c out n.0 left count numbers out2

-- ---- the demand
pub record Demand2 : Type 0 where
  pub at_stop : AtStopDue
  pub closed : ClosedDue
  pub closed_keeping : ClosedKeepingDue
  pub rendered : RenderedDue
  pub file : FileDue
  -- what a file's run builds: "equality with the Rust in the old" mode, "0 left" in the new
  pub file_old : OldModeIsFmtParsed
  pub file_new : NewModeLeavesNone
  -- "That no accepted tree yields deeper rows is proved."
  pub within_limits : LaidWithinLimits
  -- "80 is the reference", the old mode, and supplied widths: "stay equal to the Rust"
  pub reference : ReferenceHolds
