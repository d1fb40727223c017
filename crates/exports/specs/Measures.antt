-- Request 8: the number that the columns of a text leave.
use Rattle.std.specs.Prelude.{◌≡◌, ℕ, List, [], ◌∷◌}
use Rattle.refusals.specs.Answers.{numbers_of}
use Rattle.choices.specs.Columns.{columns_answer}

abbrev pub told_columns : ℕ → List ℕ
told_columns n = n ∷ []

abbrev pub MeasuresText : List ℕ → ℕ → ℕ → List ℕ → List ℕ → Type 0
MeasuresText text rule supplied out out2 = out2 ≡ numbers_of told_columns (columns_answer rule supplied text) out
