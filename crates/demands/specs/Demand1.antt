-- Demand 1: a tree image with its source, comments, carried states and lent buffers of any size is laid out and rendered, or refused under a
-- number of document 01; a refusal gives a number and a place and changes no lent buffer. proofs/Demand1.antt proves it.
--
-- Of each entry, by what it promises and nothing else. None of the entries requires anything of its caller, and each of them is total: a function
-- of Rattle is proved to end, and not to trap, whatever it is called with. The entries for other languages are in Linked.antt.
use Rattle.std.specs.Prelude.{◌≡◌, true, List, [], ◌∷◌, ◌++◌, ℕ, length, take, drop, Option, None, Some, Result}
use Rattle.refusals.specs.Refusals.{Refusal, is_one_of}
use Rattle.refusals.specs.Reasons.{refusal_in}
use Rattle.refusals.specs.declared.Refused.{Refused}
use Rattle.image.specs.Read.{read_all, read_refusal, reader_numbers, Checks}
use Rattle.image.specs.declared.Document.{Document}
use Rattle.whole_run.specs.Demands.{rules_of}
use Rattle.whole_run.specs.Built.{FileChoice, reference_choice, drawn_due}
use Rattle.whole_run.specs.File.{file_refusal}
use Rattle.layout_call.specs.declared.LayoutState.{LayoutState}
use Rattle.layout_call.specs.declared.LayoutArgs.{LayoutArgs}
use Rattle.layout_call.specs.declared.Laid.{Laid}
use Rattle.layout_call.specs.Calls as layout
use Rattle.layout_call.specs.Whole.{LayoutCalled}
use Rattle.render_call.specs.declared.RenderState.{RenderState}
use Rattle.render_call.specs.declared.RenderArgs.{RenderArgs}
use Rattle.render_call.specs.declared.Written.{Written}
use Rattle.render_call.specs.Calls as render
use Rattle.render_call.specs.Whole.{RenderCalled}
use Rattle.file.specs.declared.Text.{Text}
use Rattle.file.specs.Whole.{Formats, FormatsFrame, source_of, image_of, frame_table}
use Rattle.file.specs.Reply.{program_refusal, Replies}
use Rattle.lines.specs.Lines.{refused_line}
use Rattle.tallies.specs.declared.Tallies.{Tallies}
use Rattle.figures.specs.declared.Counted.{Counted}
use Rattle.figures.specs.Figures as count

-- ---- the numbers of each entry, in the table's order
-- "Layout uses 1 to 7, 12, 8", and 20 "before 1"
abbrev pub layout_numbers : List ℕ
layout_numbers = 20 ∷ (reader_numbers ++ (12 ∷ 8 ∷ []))

-- "rendering 1, 3 by the same tests, then 11, 12, 9, 10", 15 "directly after 12", 20 "before 1", "under the new rule .. 2 as well", and 22 and 23
-- "both after 15"
abbrev pub render_numbers : List ℕ
render_numbers = 20 ∷ 1 ∷ 2 ∷ 3 ∷ 11 ∷ 12 ∷ 15 ∷ 22 ∷ 23 ∷ 9 ∷ 10 ∷ []

-- a whole file, which is laid out and rendered from fresh, so that 12 refuses the mode alone, and 22 and 23 nothing
abbrev pub file_numbers : List ℕ
file_numbers = 20 ∷ (reader_numbers ++ (12 ∷ 15 ∷ 8 ∷ 9 ∷ 10 ∷ []))

-- the same in the old mode at 80 with supplied widths, which neither 12 nor 15 refuses, and 20 only of version 2
abbrev pub reference_numbers : List ℕ
reference_numbers = 20 ∷ (reader_numbers ++ (8 ∷ 9 ∷ 10 ∷ []))

-- the program's frame: 13, "tested before all else"
abbrev pub frame_numbers : List ℕ
frame_numbers = 13 ∷ reference_numbers

-- a file that is counted: 14, "after all of 01's"
abbrev pub count_numbers : List ℕ
count_numbers = reference_numbers ++ (14 ∷ [])

-- ---- the demand
-- an entry that refuses under these numbers, for arguments of which the table says `table`, answered with `refusal` or none; `Kept` says that its
-- buffers are as they were
pub record Answered (numbers : List ℕ) (table refusal : Option Refusal) (Kept : Type 0) : Type 0 where
  -- "No other cause refuses, and each listed one does": accepted, or refused with the table's number and place
  pub as_table : refusal ≡ table
  pub listed : (r : Refusal) → refusal ≡ Some r → is_one_of r.number numbers ≡ true
  -- the table's column "Left as it was": all
  pub kept : (r : Refusal) → refusal ≡ Some r → Kept

-- `image::check`, which is lent nothing to change
abbrev pub CheckAnswered : Type 0
CheckAnswered = (s b : List ℕ) (r : Result Document Refused) → Checks s b r
    → Answered reader_numbers (read_refusal (read_all s b)) (refusal_in r) (Unit {0})

-- `layout_call::layout_call`
abbrev pub LayoutAnswered : Type 0
LayoutAnswered = (s b : List ℕ) (state : LayoutState) (args : LayoutArgs) (store : List ℕ) (r : Result Laid Refused) (store2 : List ℕ)
    → LayoutCalled s b state args store r store2
    → Answered layout_numbers ((rules_of s b).layout_refusal (layout.to_args args) (layout.to_state state) store) (refusal_in r)
    (store2 ≡ store)

-- `render_call::render_call`, which is lent the list of open rows beside its state
abbrev pub RenderAnswered : Type 0
RenderAnswered = (s b : List ℕ) (state : RenderState) (args : RenderArgs) (store marks out listed : List ℕ) (r : Result Written Refused)
    (store2 marks2 out2 listed2 : List ℕ)
    → RenderCalled s b (render.to_state state listed) args store marks out listed r store2 marks2 out2 listed2
    → Answered render_numbers ((rules_of s b).render_refusal (render.to_args args (length out)) (render.to_state state listed) store marks)
    (refusal_in r)
    ((store2 ≡ store) × (marks2 ≡ marks) × (out2 ≡ out) × (listed2 ≡ listed))

-- `file::format_file`, whatever its caller chose
abbrev pub FileAnswered : Type 0
FileAnswered = (s b : List ℕ) (c : FileChoice) (out : List ℕ) (r : Result Text Refused) (out2 : List ℕ) → Formats s b c out r out2
    → Answered file_numbers (file_refusal s b c (length out)) (refusal_in r) (out2 ≡ out)

-- `file::format_frame`
abbrev pub FrameAnswered : Type 0
FrameAnswered = (frame out : List ℕ) (r : Result Text Refused) (out2 : List ℕ) → FormatsFrame frame out r out2
    → Answered frame_numbers (frame_table frame (length out)) (refusal_in r) (out2 ≡ out)

-- `file::reply::reply`, which is lent the output: the n bytes that the program writes for a frame are the line of its refusal, with a number
-- of the list, or the text of the frame's file; behind them the output is as it was
pub record ProgramWrote (frame out : List ℕ) (n : ℕ) (out2 : List ℕ) : Type 0 where
  pub refused : (r : Refusal) → program_refusal frame ≡ Some r → (take n out2 ≡ refused_line r) × (is_one_of r.number frame_numbers ≡ true)
  pub accepted : program_refusal frame ≡ None → take n out2 ≡ (drawn_due (source_of frame) (image_of frame) reference_choice).text
  pub behind : drop n out2 ≡ drop n out

abbrev pub ProgramAnswered : Type 0
ProgramAnswered = (frame out : List ℕ) (n : ℕ) (out2 : List ℕ) → Replies frame out n out2 → ProgramWrote frame out n out2

-- `figures::count_file`, which is lent nothing to change
abbrev pub CountAnswered : Type 0
CountAnswered = (s b : List ℕ) (t : Tallies) (r : Result Counted Refused) → count.Counts s b t r
    → Answered count_numbers (count.count_refusal s b t) (refusal_in r) (Unit {0})

pub record Demand1 : Type 0 where
  pub check : CheckAnswered
  pub layout : LayoutAnswered
  pub render : RenderAnswered
  pub file : FileAnswered
  pub frame : FrameAnswered
  pub program : ProgramAnswered
  pub count : CountAnswered
