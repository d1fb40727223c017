-- "The result is that of single calls in the same order, each with 1,800 rows and 1,800 marks of its own and output enough; a refused file adds
-- no text and changes no neighbour": of single calls by what `format_file` promises. proofs/Singles.antt proves it.
use Rattle.std.specs.Prelude.{◌≡◌, List, [], ◌∷◌, ◌++◌, map, ℕ, ◌≤◌, ltb, length, take, Option, Result}
use Rattle.refusals.specs.Refusals.{Refusal, first, refuse_if, unless}
use Rattle.refusals.specs.Answers.{Answer, refused, accepted, answer_by}
use Rattle.image.specs.Read.{read_refusal}
use Rattle.cut_rule.specs.Run.{write_front}
use Rattle.whole_run.specs.Built.{FileChoice}
use Rattle.whole_run.specs.File.{FileResult}
use Rattle.file.specs.Whole.{formatted_answer, Formats}
use Rattle.refusals.specs.declared.Refused.{Refused}
use Rattle.file.specs.declared.Text.{Text}
use Rattle.batch.specs.Batch.{Save, all_saves, saves_by, row_of}
use Rattle.batch.specs.Whole.{batched_answer, Batches, text_of}
use Rattle.batch.specs.declared.Batch.{Batch}

-- a single call that was made: the file, the output that was lent, whatever it held, the answer, and the output at exit
pub record Made : Type 0 where
  pub file : Save
  pub out : List ℕ
  pub answer : Result Text Refused
  pub out2 : List ℕ

-- what `format_file` promises, with output enough: room for the text that the file gives, which a refused one has none of
pub record Single (c : FileChoice) (m : Made) : Type 0 where
  pub promised : Formats m.file.source m.file.image c m.out m.answer m.out2
  pub enough : length (text_of c m.file) ≤ length m.out

unfoldable pub AllSingle : FileChoice → List Made → Type 0
AllSingle c [] = Unit {0}
AllSingle c (m ∷ ms) = Single c m × AllSingle c ms

-- the bytes that it wrote: as many as it says, from the front of its output; none where it refused
abbrev pub wrote_by : Answer FileResult → List ℕ → List ℕ
wrote_by (refused r) out2 = []
wrote_by (accepted x) out2 = take x.bytes out2

-- the rows of the calls joined, and their texts
unfoldable pub rows_made : List Made → List ℕ
rows_made [] = []
rows_made (m ∷ ms) = row_of (formatted_answer m.answer) ++ rows_made ms

unfoldable pub texts_made : List Made → List ℕ
texts_made [] = []
texts_made (m ∷ ms) = wrote_by (formatted_answer m.answer) m.out2 ++ texts_made ms

-- what refuses a batch whose single calls were these: 18, or too little room for their rows or their texts
abbrev pub refusal_by : List ℕ → List Made → ℕ → ℕ → Option Refusal
refusal_by f ms cells room =
    first
    (read_refusal (all_saves f)
    ∷ refuse_if (ltb cells (length (rows_made ms))) 19 (length (rows_made ms))
    ∷ refuse_if (ltb room (length (texts_made ms))) 19 (length (texts_made ms))
    ∷ [])

-- the batch answers and leaves what single calls do, one for each file in order
pub record SameAsSingles (f : List ℕ) (ms : List Made) (table out : List ℕ) (r : Result Batch Refused) (table2 out2 : List ℕ) : Type 0 where
  pub answer : batched_answer r ≡ answer_by (refusal_by f ms (length table) (length out)) (record { files = length ms; bytes = length (texts_made ms) })
  pub table_left_of : table2 ≡ unless (refusal_by f ms (length table) (length out)) table (write_front (rows_made ms) table)
  pub texts_left_of : out2 ≡ unless (refusal_by f ms (length table) (length out)) out (write_front (texts_made ms) out)

abbrev pub AsSingles : Type 0
AsSingles =
    (c : FileChoice) (f : List ℕ) (ms : List Made) → AllSingle c ms → map (λ m. m.file) ms ≡ saves_by (all_saves f)
    → (table out : List ℕ) (r : Result Batch Refused) (table2 out2 : List ℕ)
    → Batches f c table out r table2 out2
    → SameAsSingles f ms table out r table2 out2
