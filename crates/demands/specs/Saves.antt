-- Document 02, 7/14, of the batch's entry, `batch::format_batch`, by what it promises and nothing else: demand 1, and the request's sentence on single calls.
-- proofs/Saves.antt proves it.
use Rattle.std.specs.Prelude.{◌≡◌, true, List, [], ◌∷◌, ◌++◌, ℕ, length, Result}
use Rattle.refusals.specs.Refusals.{Refusal, is_one_of}
use Rattle.refusals.specs.Answers.{refused}
use Rattle.refusals.specs.Reasons.{refusal_in}
use Rattle.refusals.specs.declared.Refused.{Refused}
use Rattle.image.specs.Read.{reader_numbers}
use Rattle.whole_run.specs.Built.{FileChoice}
use Rattle.batch.specs.Batch.{Save, single, batch_refusal}
use Rattle.batch.specs.Whole.{Batches}
use Rattle.batch.specs.Singles.{AsSingles}
use Rattle.batch.specs.declared.Batch.{Batch}
use Rattle.demands.specs.Demand1.{Answered}

-- "18 .. 19, table, then output"
abbrev pub batch_numbers : List ℕ
batch_numbers = 18 ∷ 19 ∷ []

-- those of a row of the table: a whole file's, but for 10, since it has "output enough"
abbrev pub row_numbers : List ℕ
row_numbers = 20 ∷ (reader_numbers ++ (12 ∷ 15 ∷ 8 ∷ 9 ∷ []))

pub record Saves1 : Type 0 where
  pub batch : (f : List ℕ) (c : FileChoice) (table out : List ℕ) (r : Result Batch Refused) (table2 out2 : List ℕ) → Batches f c table out r table2 out2
      → Answered batch_numbers (batch_refusal c f (length table) (length out)) (refusal_in r) ((table2 ≡ table) × (out2 ≡ out))
  -- a file of the batch that is refused, in its row of the table
  pub row : (c : FileChoice) (x : Save) (r : Refusal) → single c x ≡ refused r → is_one_of r.number row_numbers ≡ true
  -- "The result is that of single calls in the same order"
  pub singles : AsSingles
