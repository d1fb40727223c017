-- What the batch's code answers and leaves, by the definitions of Batch.antt.
use Rattle.std.specs.Prelude.{◌≡◌, List, [], ◌∷◌, ℕ, ◌^◌, ◌<◌, ◌≤◌, length, MatchOption, Option, None, Result}
use Rattle.refusals.specs.Answers.{Answer, refused, accepted}
use Rattle.refusals.specs.Reasons.{answer_of}
use Rattle.refusals.specs.declared.Refused.{Refused}
use Rattle.image.specs.Read.{Read, got, bad, read_refusal}
use Rattle.cut_rule.specs.Run.{write_front}
use Rattle.whole_run.specs.Built.{FileChoice}
use Rattle.batch.specs.Batch.{Save, frame_end, save_at, all_saves, saves_by, row_of, text_by, rendered, single, BatchResult}
use Rattle.batch.specs.Batch.{batch_answer, table_due, texts_due, table_left, texts_left}
use Rattle.batch.specs.declared.Batch.{Batch}
use Rattle.batch.specs.declared.frames.Frame.{Frame}
use Rattle.batch.specs.declared.frames.Frames.{Frames}
use Rattle.batch.specs.declared.writing.Row.{Row}

-- An answer of the code's.
abbrev pub batched_answer : Result Batch Refused → Answer BatchResult
batched_answer = answer_of (λ b. record { files = b.files; bytes = b.bytes })

-- the answer, and table and output at exit, for a buffer of frames and what the caller chose
pub record Batches (f : List ℕ) (c : FileChoice) (table out : List ℕ) (r : Result Batch Refused) (table2 out2 : List ℕ) : Type 0 where
  pub answer : batched_answer r ≡ batch_answer c f (length table) (length out)
  pub table_left_of : table2 ≡ table_left c f table out
  pub texts_left_of : out2 ≡ texts_left c f table out

-- ---- the code's answers to a part
-- the file that a frame holds
abbrev pub saved : Frame → Save
saved x = record { source = x.source.now; image = x.image.now }

-- the frame at a place of a buffer, which has all of it
pub record IsFrame (f : List ℕ) (at : ℕ) (x : Frame) : Type 0 where
  pub inside : frame_end f at ≤ length f
  pub end : x.end ≡ frame_end f at
  pub file : saved x ≡ save_at f at

-- what `Frames` gives: the frame at its place, where that ends in the buffer, and goes on behind it
pub record GivesFrame (s : Frames) (r : Option Frame) (t : Frames) : Type 0 where
  pub buffer : t.frames.now ≡ s.frames.now
  pub frame : MatchOption r (length s.frames.now < frame_end s.frames.now s.at) (λ x. IsFrame s.frames.now s.at x × (t.at ≡ x.end))

-- how many frames there are, or the refusal of the first at fault
abbrev pub frames_by : Read (List Save) → Answer ℕ
frames_by (got xs end) = accepted (length xs)
frames_by (bad n p) = refused (record { number = n; place = p })

-- a buffer that 18 lets pass, of so many files
pub record Framed (f : List ℕ) (files : ℕ) : Type 0 where
  pub passes : read_refusal (all_saves f) ≡ None
  pub count : files ≡ length (saves_by (all_saves f))

-- the text that a file adds
abbrev pub text_of : FileChoice → Save → List ℕ
text_of c x = text_by (single c x) (rendered c x)

-- a row's numbers, which a u32 holds
abbrev pub cells : Row → List ℕ
cells r = r.number ∷ r.place ∷ r.bytes ∷ []

pub record Small (r : Row) : Type 0 where
  pub place : r.place < 2 ^ 32
  pub bytes : r.bytes < 2 ^ 32

-- the row of one file, and the output at exit, where its text has room
pub record Saved (c : FileChoice) (x : Save) (out : List ℕ) (r : Row) (out2 : List ℕ) : Type 0 where
  pub row : cells r ≡ row_of (single c x)
  pub text_left : out2 ≡ write_front (text_of c x) out

-- table and output have room for the rows and the texts of all files
pub record Room (c : FileChoice) (f table out : List ℕ) : Type 0 where
  pub passes : read_refusal (all_saves f) ≡ None
  pub rows : length (table_due c f) ≤ length table
  pub texts : length (texts_due c f) ≤ length out

-- and hold them at exit
pub record Written (c : FileChoice) (f table out table2 out2 : List ℕ) : Type 0 where
  pub rows : table2 ≡ write_front (table_due c f) table
  pub texts : out2 ≡ write_front (texts_due c f) out
