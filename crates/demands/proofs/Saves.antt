-- The batch's entries refuse by their table, each file by a whole file's without 10, and the batch is what single calls give.
-- Assumes nothing.
use mathlib.Core.Path.{refl, sym, ap, ◌∙◌}
use mathlib.Core.List.{List, [], ◌∷◌, ◌++◌}
use Prim.Native.Nat.{ℕ}
use lib.Dec.{ltb}
use lib.ListN.{length}
use Rattle.refusals.specs.Refusals.{refuse_if, is_one_of}
use Rattle.refusals.specs.Answers.{refusal_of}
use Rattle.refusals.proofs.Answers.{by_table, refused_by}
use Rattle.image.specs.Read.{read_all, read_refusal, reader_numbers}
use Rattle.whole_run.specs.Built.{FileChoice}
use Rattle.whole_run.specs.File.{file_rows, file_marks, file_before_text}
use Rattle.batch.specs.Batch.{MAX_SAVES, Save, all_saves, table_due, texts_due, batch_refusal}
use Rattle.batch.proofs.Buffer.{cut_number}
use Rattle.batch.proofs.Rooms.{early, single_by}
use Rattle.batch.proofs.Singles.{as_singles}
use Rattle.demands.specs.Saves.{batch_numbers, row_numbers, Saves1}
use Rattle.demands.proofs.Demand1.{Under, under_if, under_first, under_read, under_more, under_before, read_under, before_under, early_under}
use Rattle.demands.proofs.Demand1.{answered, left_same, as_answer}

-- ---- the batch's table
frames_under : (f : List ℕ) → Under batch_numbers (read_refusal (all_saves f))
frames_under f = under_read batch_numbers (all_saves f) (λ n p e. ap (λ (k : ℕ). is_one_of k batch_numbers) (cut_number f MAX_SAVES 0 n p e))

pub batch_under : (c : FileChoice) (f : List ℕ) (cells room : ℕ) → Under batch_numbers (batch_refusal c f cells room)
batch_under c f cells room =
    let rows = length (table_due c f) in
    let bytes = length (texts_due c f) in
    under_first batch_numbers (read_refusal (all_saves f) ∷ refuse_if (ltb cells rows) 19 rows ∷ refuse_if (ltb room bytes) 19 bytes ∷ []) (
      frames_under f,
      (under_if batch_numbers (ltb cells rows) 19 rows refl, (under_if batch_numbers (ltb room bytes) 19 bytes refl, tt)),
    )

-- ---- a file's row
-- what refuses a file that has room for its text
row_under : (c : FileChoice) (x : Save) → Under row_numbers (early c x)
row_under c x =
    let s = x.source in
    let b = x.image in
    let later = reader_numbers ++ (12 ∷ 15 ∷ 8 ∷ 9 ∷ []) in
    let read =
    under_before 20 later (read_refusal (read_all s b))
    (under_more reader_numbers (12 ∷ 15 ∷ 8 ∷ 9 ∷ []) (read_refusal (read_all s b)) (read_under s b)) in
    under_first row_numbers (file_before_text s b c file_rows file_marks)
    (early_under s b row_numbers refl refl c (before_under s b row_numbers refl refl refl read c))

pub saves_1 : Saves1
saves_1 = record {
  batch =
      λ f c table out r table2 out2 p.
      let o = batch_refusal c f (length table) (length out) in
      answered (as_answer _ r ∙ ap refusal_of p.answer ∙ by_table o _) (batch_under c f (length table) (length out))
      (λ q g. (p.table_left_of ∙ left_same o q table _ g, p.texts_left_of ∙ left_same o q out _ g));
  row = λ c x r e. (row_under c x).of r (refused_by (early c x) _ r (sym e ∙ single_by c x));
  singles = as_singles;
}
