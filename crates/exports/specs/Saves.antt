-- Request 7: what a batch of files leaves in each slice that it is lent.
use Rattle.std.specs.Prelude.{◌≡◌, ℕ, List, [], ◌∷◌, length}
use Rattle.refusals.specs.Answers.{numbers_of}
use Rattle.file.specs.Whole as whole
use Rattle.batch.specs.Batch.{BatchResult, batch_answer, table_left, texts_left}
use Rattle.exports.specs.Numbers.{file_choice}

-- the number of files and the bytes of their texts
abbrev pub told_batch : BatchResult → List ℕ
told_batch x = x.files ∷ x.bytes ∷ []

-- the table, the output, and the answer's numbers
pub record FormatsBatch (f choice table output out table2 output2 out2 : List ℕ) : Type 0 where
  pub table_left_of : table2 ≡ table_left (whole.to_choice (file_choice choice)) f table output
  pub texts_left_of : output2 ≡ texts_left (whole.to_choice (file_choice choice)) f table output
  pub told_as : out2 ≡ numbers_of told_batch (batch_answer (whole.to_choice (file_choice choice)) f (length table) (length output)) out
