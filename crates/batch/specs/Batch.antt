-- Document 02, 7/14, "A night's saves in one call": the files of a buffer, what each gives by itself, and what the batch answers and leaves.
use Rattle.std.specs.Prelude.{cond, List, [], ◌∷◌, ◌++◌, ℕ, zero, suc, ◌+◌, ltb, leb, length, Option}
use Rattle.refusals.specs.Refusals.{Refusal, first, refuse_if, unless}
use Rattle.refusals.specs.Answers.{Answer, refused, accepted, answer_by}
use Rattle.image.specs.Bytes.{be32, part}
use Rattle.image.specs.Read.{Read, got, bad, bind, read_refusal}
use Rattle.cut_rule.specs.Run.{write_front}
use Rattle.whole_run.specs.Built.{FileChoice, drawn_due}
use Rattle.whole_run.specs.File.{FileResult, file_answer}

-- "The repository hook formats up to 256 files."
abbrev pub MAX_SAVES : ℕ
MAX_SAVES = 256

-- one of them
pub record Save : Type 0 where
  pub source : List ℕ
  pub image : List ℕ

-- ---- the buffer
-- "each led by two four-byte lengths, of source and image": where the frame at `at` ends, and the file that it holds
abbrev pub frame_end : List ℕ → ℕ → ℕ
frame_end f at = at + 8 + be32 f at + be32 f (at + 4)

abbrev pub save_at : List ℕ → ℕ → Save
save_at f at = record { source = part (at + 8) (at + 8 + be32 f at) f; image = part (at + 8 + be32 f at) (frame_end f at) f }

-- the files from `at` on, of which n more are allowed; "18, a frame running past the buffer or a 257th, with its offset"
unfoldable pub saves_from : List ℕ → ℕ → ℕ → Read (List Save)
saves_from f zero at = cond (ltb at (length f)) (bad 18 at) (got [] at)
saves_from f (suc n) at =
    let more = bind (saves_from f n (frame_end f at)) (λ xs end. got (save_at f at ∷ xs) end) in
    cond (ltb at (length f)) (cond (leb (frame_end f at) (length f)) more (bad 18 at)) (got [] at)

abbrev pub all_saves : List ℕ → Read (List Save)
all_saves f = saves_from f MAX_SAVES 0

abbrev pub saves_by : Read (List Save) → List Save
saves_by (got xs end) = xs
saves_by (bad n p) = []

-- ---- single calls, "each with 1,800 rows and 1,800 marks of its own and output enough"
-- three numbers a file: "refusal number or 0, place or 0, text length"
abbrev pub row_of : Answer FileResult → List ℕ
row_of (refused r) = r.number ∷ r.place ∷ 0 ∷ []
row_of (accepted x) = 0 ∷ 0 ∷ x.bytes ∷ []

-- "a refused file adds no text"
abbrev pub text_by : Answer FileResult → List ℕ → List ℕ
text_by (refused r) t = []
text_by (accepted x) t = t

module _ (c : FileChoice) where
  -- what `Renderer` makes of the file
  abbrev pub rendered : Save → List ℕ
  rendered x = (drawn_due x.source x.image c).text

  -- the single call's answer, with as much output as that has
  abbrev pub single : Save → Answer FileResult
  single x = file_answer x.source x.image c (length (rendered x))

  -- "The result is that of single calls in the same order": their rows one after the other, and their texts
  unfoldable pub table_of : List Save → List ℕ
  table_of [] = []
  table_of (x ∷ xs) = row_of (single x) ++ table_of xs

  unfoldable pub texts_of : List Save → List ℕ
  texts_of [] = []
  texts_of (x ∷ xs) = text_by (single x) (rendered x) ++ texts_of xs

-- ---- the batch
abbrev pub table_due : FileChoice → List ℕ → List ℕ
table_due c f = table_of c (saves_by (all_saves f))

abbrev pub texts_due : FileChoice → List ℕ → List ℕ
texts_due c f = texts_of c (saves_by (all_saves f))

-- 18; "19, table, then output, too small for all, with the u32s or bytes needed; both before anything is written"
abbrev pub batch_refusal : FileChoice → List ℕ → ℕ → ℕ → Option Refusal
batch_refusal c f cells room =
    first
    (read_refusal (all_saves f)
    ∷ refuse_if (ltb cells (length (table_due c f))) 19 (length (table_due c f))
    ∷ refuse_if (ltb room (length (texts_due c f))) 19 (length (texts_due c f))
    ∷ [])

-- what a batch gives: how many files there are, and the bytes of their texts
pub record BatchResult : Type 0 where
  pub files : ℕ
  pub bytes : ℕ

abbrev pub batch_result : FileChoice → List ℕ → BatchResult
batch_result c f = record { files = length (saves_by (all_saves f)); bytes = length (texts_due c f) }

abbrev pub batch_answer : FileChoice → List ℕ → ℕ → ℕ → Answer BatchResult
batch_answer c f cells room = answer_by (batch_refusal c f cells room) (batch_result c f)

-- table and output at exit: what is behind the rows and the texts is as it was
abbrev pub table_left : FileChoice → List ℕ → List ℕ → List ℕ → List ℕ
table_left c f table out = unless (batch_refusal c f (length table) (length out)) table (write_front (table_due c f) table)

abbrev pub texts_left : FileChoice → List ℕ → List ℕ → List ℕ → List ℕ
texts_left c f table out = unless (batch_refusal c f (length table) (length out)) out (write_front (texts_due c f) out)
