-- From what the calls ensure to what the batch answers and leaves.
-- Assumes nothing.
use mathlib.Core.Path.{◌≡◌, refl, sym, ap, ◌∙◌}
use mathlib.Core.Bool.{Bool, true, false}
use Rattle.std.specs.Prelude.{Option, None, Some, Result, Ok, Err}
use mathlib.Core.List.{List, [], ◌∷◌}
use Prim.Native.Nat.{ℕ, ◌*◌, ◌≤◌, ◌<◌}
use native.Mathlib.Omega.{arith}
use lib.Dec.{ltb}
use lib.ListN.{length}
use borrow.Author.Tests.{lt-ltb, le-ltb}
use Rattle.refusals.specs.Refusals.{Refusal, first, refuse_if, unless}
use Rattle.refusals.specs.Answers.{accepted, answer_by}
use Rattle.image.specs.Read.{read_refusal}
use Rattle.cut_rule.specs.Run.{write_front}
use Rattle.whole_run.specs.File.{file_answer}
use Rattle.whole_run.specs.Built.{FileChoice}
use Rattle.file.specs.Whole.{formatted_answer, FormatsLent}
use Rattle.file.specs.declared.Text.{Text}
use Rattle.refusals.specs.Reasons.{number_of, refusal as refusal_lem}
use Rattle.refusals.specs.declared.Refused.{Refused}
use Rattle.refusals.specs.declared.Reason.{Reason}
use Rattle.refusals.specs.declared.Reason.TheVariants as reason
use Rattle.batch.specs.Batch.{MAX_SAVES, Save, all_saves, saves_by, row_of, single, table_due, texts_due, batch_refusal, batch_result}
use Rattle.batch.specs.Whole.{text_of, Framed, Batches, Saved, Room, Written}
use Rattle.batch.proofs.Buffer.{listed}
use Rattle.batch.proofs.Rooms.{answer_roomy, output_roomy, bare_text, bare_ten}
use Rattle.batch.proofs.Bounds.{early_fine}
use Rattle.batch.proofs.Texts.{table_size}

-- ---- one file
module _ (x : Save) (c : FileChoice) (store marks out : List ℕ) (r : Result Text Refused) (store2 marks2 out2 : List ℕ)
    (h : FormatsLent x.source x.image c store marks out r store2 marks2 out2) where
  -- without an output
  module _ (bare : length out ≡ 0) where
    answered : formatted_answer r ≡ file_answer x.source x.image c 0
    answered = h.formats.answer ∙ ap (file_answer x.source x.image c) bare

    pub size_text : (t : Text) → r ≡ Ok t → t.bytes.0 ≡ length (text_of c x)
    size_text t q = bare_text c x _ (ap formatted_answer (sym q) ∙ answered)

    pub size_ten : (w : Refused) → r ≡ Err w → w.reason ≡ reason.BytesNeeded → w.place ≡ length (text_of c x)
    size_ten w q t =
        bare_ten c x (λ o g. (early_fine c x o g).not_ten) w.place
        (ap (λ (y : Reason). formatted_answer (Err (record { reason = y; place = w.place }))) (sym t) ∙ ap formatted_answer (sym q) ∙ answered)

  -- with room for its text
  module _ (fits : length (text_of c x) ≤ length out) where
    row_same : row_of (formatted_answer r) ≡ row_of (single c x)
    row_same = ap row_of (h.formats.answer ∙ answer_roomy c x (length out) fits)

    left : out2 ≡ write_front (text_of c x) out
    left = h.formats.output_left_of ∙ output_roomy c x out fits

    pub saved_text : (t : Text) → r ≡ Ok t → Saved c x out (record { number = 0; place = 0; bytes = t.bytes.0 }) out2
    saved_text t q = record { row = ap (λ (z : Result Text Refused). row_of (formatted_answer z)) (sym q) ∙ row_same; text_left = left }

    pub saved_refused : (w : Refused) → r ≡ Err w → Saved c x out (record { number = number_of w.reason; place = w.place; bytes = 0 }) out2
    saved_refused w q = record { row = ap (λ (z : Result Text Refused). row_of (formatted_answer z)) (sym q) ∙ row_same; text_left = left }

-- ---- the batch
pub files_few : (f : List ℕ) (k : ℕ) → Framed f k → k ≤ MAX_SAVES
files_few f k w = let h = (listed f MAX_SAVES 0 w.passes).few in omega (arith, w.count)

module _ (f : List ℕ) (c : FileChoice) (table out : List ℕ) where
  abbrev refusal : Option Refusal
  refusal = batch_refusal c f (length table) (length out)

  refuses : (r : Refused) → refusal ≡ Some (refusal_lem r) → Batches f c table out (Err r) table out
  refuses r e =
      record {
        answer = sym (ap (λ (o : Option Refusal). answer_by o (batch_result c f)) e);
        table_left_of = sym (ap (λ (o : Option Refusal). unless o table (write_front (table_due c f) table)) e);
        texts_left_of = sym (ap (λ (o : Option Refusal). unless o out (write_front (texts_due c f) out)) e);
      }

  -- 18
  pub refuses_frames : (r : Refused) → read_refusal (all_saves f) ≡ Some (refusal_lem r) → Batches f c table out (Err r) table out
  refuses_frames r e =
      refuses r
      (ap (λ (o : Option Refusal).
      first
      (o
      ∷ refuse_if (ltb (length table) (length (table_due c f))) 19 (length (table_due c f))
      ∷ refuse_if (ltb (length out) (length (texts_due c f))) 19 (length (texts_due c f))
      ∷ []))
      e)

  module _ (k : ℕ) (w : Framed f k) where
    cells_needed : k * 3 ≡ length (table_due c f)
    cells_needed = ap (λ (n : ℕ). n * 3) w.count ∙ sym (table_size c (saves_by (all_saves f)))

    by_rooms : (x y : Bool) → ltb (length table) (length (table_due c f)) ≡ x → ltb (length out) (length (texts_due c f)) ≡ y
        → refusal ≡ first (refuse_if x 19 (length (table_due c f)) ∷ refuse_if y 19 (length (texts_due c f)) ∷ [])
    by_rooms x y p q =
        λ t. first (w.passes t ∷ refuse_if (p t) 19 (length (table_due c f)) ∷ refuse_if (q t) 19 (length (texts_due c f)) ∷ [])

    -- 19, the table
    pub refuses_table : length table < k * 3 → Batches f c table out (Err (record { reason = reason.BatchNeeds; place = k * 3 })) table out
    refuses_table h =
        refuses (record { reason = reason.BatchNeeds; place = k * 3 })
        (by_rooms true (ltb (length out) (length (texts_due c f))) (lt-ltb (length table) (length (table_due c f)) (omega (arith, cells_needed))) refl
        ∙ ap (λ (n : ℕ). Some (record { number = 19; place = n })) (sym cells_needed))

    module _ (roomy : k * 3 ≤ length table) (bytes : ℕ) (counted : bytes ≡ length (texts_due c f)) where
      table_fits : ltb (length table) (length (table_due c f)) ≡ false
      table_fits = le-ltb (length table) (length (table_due c f)) (omega (arith, cells_needed))

      -- 19, the output
      pub refuses_output : length out < bytes → Batches f c table out (Err (record { reason = reason.BatchNeeds; place = bytes })) table out
      refuses_output h =
          refuses (record { reason = reason.BatchNeeds; place = bytes })
          (by_rooms false true table_fits (lt-ltb (length out) (length (texts_due c f)) (omega arith))
          ∙ ap (λ (n : ℕ). Some (record { number = 19; place = n })) (sym counted))

      module _ (wide : bytes ≤ length out) where
        pub has_room : Room c f table out
        has_room = record { passes = w.passes; rows = omega (arith, cells_needed); texts = omega arith }

        pub done : (table2 out2 : List ℕ) → Written c f table out table2 out2
            → Batches f c table out (Ok (record { files = k; bytes = bytes })) table2 out2
        done table2 out2 z =
            let e : refusal ≡ None = by_rooms false false table_fits (le-ltb (length out) (length (texts_due c f)) (omega arith)) in
            record {
              answer =
                  (λ t. accepted (record { files = w.count t; bytes = counted t }))
                  ∙ sym (ap (λ (o : Option Refusal). answer_by o (batch_result c f)) e);
              table_left_of = z.rows ∙ sym (ap (λ (o : Option Refusal). unless o table (write_front (table_due c f) table)) e);
              texts_left_of = z.texts ∙ sym (ap (λ (o : Option Refusal). unless o out (write_front (texts_due c f) out)) e);
            }
