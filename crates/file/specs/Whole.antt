-- What the run of one file, or of one frame, answers and leaves: rows and marks are its own, the output is lent. Below it stands the run in
-- rows and marks that are lent too.
use Rattle.std.specs.Prelude.{◌≡◌, Bool, not, ◌&&◌, List, [], ◌∷◌, ℕ, ◌+◌, leb, length, take, drop, Option, Result, Ok, Err}
use Rattle.std.proofs.lemmas.List.Edits.{sets}
use Rattle.rows.specs.Rows.{rows}
use Rattle.image.specs.Bytes.{be32}
use Rattle.refusals.specs.Refusals.{Refusal, unless, first, refuse_if}
use Rattle.refusals.specs.Answers.{Answer, answer_by}
use Rattle.refusals.specs.Reasons.{answer_of}
use Rattle.refusals.specs.declared.Refused.{Refused}
use Rattle.cut_rule.specs.Run.{write_front}
use Rattle.cut_rule.specs.Tests.{rows_in}
use Rattle.whole_run.specs.Built as plain
use Rattle.whole_run.specs.Built.{reference_choice, drawn_due, column_due}
use Rattle.whole_run.specs.File.{file_before_rows, file_rows_line, FileResult, file_result, answer_in, file_answer, file_refusal, file_output, refusal_in}
use Rattle.whole_run.specs.File.{store_left, marks_left, output_left}
use Rattle.file.specs.declared.FileChoice.{FileChoice}
use Rattle.file.specs.declared.Text.{Text}
use Rattle.file.specs.declared.Run.{Run}

-- "other entries over whole files take their caller's choice"
abbrev pub to_choice : FileChoice → plain.FileChoice
to_choice c = record { width = c.width.0; mode = c.mode; rule = c.rule }

-- An answer: the bytes written, the comments left, the rows and the group numbers; "Number and place are all that comes back."
abbrev pub to_result : Text → FileResult
to_result t = record { bytes = t.bytes.0; left = t.left; rows = t.rows; numbers = t.numbers }

abbrev pub formatted_answer : Result Text Refused → Answer FileResult
formatted_answer = answer_of to_result

-- A run with its greatest column: the answer of the entries above it, which refuse where it stops; and that column, 0 where it stops.
abbrev pub formatted_of : Result Run Refused → Result Text Refused
formatted_of (Ok r) = Ok r.text
formatted_of (Err r) = Err r

abbrev pub widest_of : Result Run Refused → ℕ
widest_of (Ok r) = r.widest.0
widest_of (Err r) = 0

-- The store at exit: where a line before 8 refuses, as it was; where 8 does, the rows that have room stand in it, before the sums of the rule are put
-- into them; else all rows.
abbrev pub store_by : List ℕ → List ℕ → plain.FileChoice → List ℕ → Option Refusal → Option Refusal → List ℕ
store_by source image choice store before eight =
    unless before
    store
    (unless eight (sets store 0 (rows (plain.built source image choice).nodes 0)) (store_left source image choice store))

abbrev pub store_run : List ℕ → List ℕ → plain.FileChoice → List ℕ → List ℕ
store_run source image choice store =
    store_by source image choice store (first (file_before_rows source image choice)) (first (file_rows_line source image choice (rows_in store)))

-- the answer with the greatest column, and store, marks and output at exit, for one source and image and what the caller chose
pub record RunsFile (source image : List ℕ) (choice : plain.FileChoice) (store marks out : List ℕ) (r : Result Run Refused)
    (store2 marks2 out2 : List ℕ) : Type 0 where
  pub answer : formatted_answer (formatted_of r) ≡ answer_in source image choice (rows_in store) (length marks) (length out)
  pub widest : widest_of r ≡ unless (refusal_in source image choice (rows_in store) (length marks) (length out)) 0 (column_due source image choice)
  pub store_left_of : store2 ≡ store_run source image choice store
  pub marks_left_of : marks2 ≡ marks_left source image choice store marks out
  pub output_left_of : out2 ≡ output_left source image choice store marks out

-- the answer, and the output at exit, for one source and image and what the caller chose, with rows and marks of its own
pub record Formats (source image : List ℕ) (choice : plain.FileChoice) (out : List ℕ) (r : Result Text Refused) (out2 : List ℕ) : Type 0 where
  pub answer : formatted_answer r ≡ file_answer source image choice (length out)
  pub output_left_of : out2 ≡ file_output source image choice out

-- the same with rows and marks that are lent, and what they hold at exit
pub record FormatsLent (source image : List ℕ) (choice : plain.FileChoice) (store marks out : List ℕ) (r : Result Text Refused)
    (store2 marks2 out2 : List ℕ) : Type 0 where
  pub formats : Formats source image choice out r out2
  pub store_left_of : store2 ≡ store_run source image choice store
  pub marks_left_of : marks2 ≡ marks_left source image choice store marks out

-- a frame: "four bytes source length, source, image"
abbrev pub source_of : List ℕ → List ℕ
source_of frame = take (be32 frame 0) (drop 4 frame)

abbrev pub image_of : List ℕ → List ℕ
image_of frame = drop (4 + be32 frame 0) frame

-- 13: "the program's frame over 32,768 bytes, under 4, or shorter than its source length says"
abbrev pub frame_fits : List ℕ → Bool
frame_fits frame = leb (length frame) 32768 && leb 4 (length frame) && leb (4 + be32 frame 0) (length frame)

abbrev pub frame_refusal : List ℕ → Option Refusal
frame_refusal frame = refuse_if (not (frame_fits frame)) 13 0

-- "tested before all else"; then what refuses the frame's file: "The program .. keep 80 and, in every later choice, what equals the Rust"
abbrev pub frame_table : List ℕ → ℕ → Option Refusal
frame_table frame room = first (frame_refusal frame ∷ file_refusal (source_of frame) (image_of frame) reference_choice room ∷ [])

-- the answer, and the output at exit, for one frame
abbrev pub frame_answer : List ℕ → ℕ → Answer FileResult
frame_answer frame room = answer_by (frame_table frame room) (file_result (source_of frame) (image_of frame) reference_choice)

abbrev pub frame_output : List ℕ → List ℕ → List ℕ
frame_output frame out =
    unless (frame_table frame (length out)) out (write_front (drawn_due (source_of frame) (image_of frame) reference_choice).text out)

pub record FormatsFrame (frame out : List ℕ) (r : Result Text Refused) (out2 : List ℕ) : Type 0 where
  pub answer : formatted_answer r ≡ frame_answer frame (length out)
  pub output_left_of : out2 ≡ frame_output frame out
