-- The table and the texts of a batch are those of single calls with output enough.
-- Assumes nothing.
use mathlib.Core.Path.{◌≡◌, refl, sym, ap, ap₂, ◌∙◌}
use Rattle.std.specs.Prelude.{Option, None, Some}
use mathlib.Core.List.{List, [], ◌∷◌, ◌++◌, map}
use Prim.Native.Nat.{ℕ}
use lib.Dec.{ltb}
use lib.ListN.{length, length-map}
use Rattle.refusals.specs.Refusals.{Refusal, first, refuse_if, unless}
use Rattle.refusals.specs.Answers.{Answer, answer_by}
use Rattle.image.specs.Read.{read_refusal}
use Rattle.cut_rule.specs.Run.{write_front}
use Rattle.cut_rule.proofs.Memory.{take_front}
use Rattle.whole_run.specs.Built.{FileChoice}
use Rattle.whole_run.specs.File.{FileResult}
use Rattle.file.specs.Whole.{formatted_answer}
use Rattle.batch.specs.Batch.{all_saves, saves_by, row_of, single, table_of, texts_of, table_due, texts_due, batch_refusal}
use Rattle.batch.specs.Whole.{text_of}
use Rattle.batch.specs.Singles.{Made, Single, AllSingle, wrote_by, rows_made, texts_made, refusal_by, AsSingles}
use Rattle.batch.proofs.Rooms.{early, needed, no_text, all_text, single_refused, single_accepted, answer_roomy, output_roomy}

module _ (c : FileChoice) where
  -- ---- one call
  module _ (m : Made) (h : Single c m) where
    answered : formatted_answer m.answer ≡ single c m.file
    answered = h.promised.answer ∙ answer_roomy c m.file (length m.out) h.enough

    left : m.out2 ≡ write_front (text_of c m.file) m.out
    left = h.promised.output_left_of ∙ output_roomy c m.file m.out h.enough

    wrote : wrote_by (formatted_answer m.answer) m.out2 ≡ text_of c m.file
    wrote = ap₂ wrote_by answered left ∙ go (early c m.file) refl
      where
        go : (o : Option Refusal) → early c m.file ≡ o → wrote_by (single c m.file) (write_front (text_of c m.file) m.out) ≡ text_of c m.file
        go (Some r) e =
            ap (λ (a : Answer FileResult). wrote_by a (write_front (text_of c m.file) m.out)) (single_refused c m.file r e)
            ∙ sym (no_text c m.file r e)
        go None e =
            ap (λ (a : Answer FileResult). wrote_by a (write_front (text_of c m.file) m.out)) (single_accepted c m.file e)
            ∙ take_front (needed c m.file) (text_of c m.file) m.out (sym (ap length (all_text c m.file e)))

  -- ---- all of them
  rows_made_lem : (ms : List Made) → AllSingle c ms → rows_made ms ≡ table_of c (map (λ m. m.file) ms)
  unfolding AllSingle rows_made table_of
  rows_made_lem [] k = refl
  rows_made_lem (m ∷ ms) k = ap₂ (λ (x y : List ℕ). x ++ y) (ap row_of (answered m k.0)) (rows_made_lem ms k.1)

  texts_made_lem : (ms : List Made) → AllSingle c ms → texts_made ms ≡ texts_of c (map (λ m. m.file) ms)
  unfolding AllSingle texts_made texts_of
  texts_made_lem [] k = refl
  texts_made_lem (m ∷ ms) k = ap₂ (λ (x y : List ℕ). x ++ y) (wrote m k.0) (texts_made_lem ms k.1)

pub as_singles : AsSingles
as_singles c f ms k e table out r table2 out2 b =
    let rows : table_due c f ≡ rows_made ms = sym (rows_made_lem c ms k ∙ ap (table_of c) e) in
    let texts : texts_due c f ≡ texts_made ms = sym (texts_made_lem c ms k ∙ ap (texts_of c) e) in
    let files : length (saves_by (all_saves f)) ≡ length ms = sym (ap length e) ∙ length-map ms (λ m. m.file) in
    let refusal : batch_refusal c f (length table) (length out) ≡ refusal_by f ms (length table) (length out) =
    λ t.
    first
    (read_refusal (all_saves f)
    ∷ refuse_if (ltb (length table) (length (rows t))) 19 (length (rows t))
    ∷ refuse_if (ltb (length out) (length (texts t))) 19 (length (texts t))
    ∷ [])
    in
    record {
      answer = b.answer ∙ (λ t. answer_by (refusal t) (record { files = files t; bytes = length (texts t) }));
      table_left_of = b.table_left_of ∙ (λ t. unless (refusal t) table (write_front (rows t) table));
      texts_left_of = b.texts_left_of ∙ (λ t. unless (refusal t) out (write_front (texts t) out));
    }
