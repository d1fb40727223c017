-- What the table and the sums hold fits: places, and the bytes of texts.
-- Assumes nothing.
use mathlib.Core.Path.{◌≡◌, refl, sym, ap, ◌∙◌}
use mathlib.Core.Bool.{Bool, true, false}
use Rattle.std.specs.Prelude.{Option, None, Some}
use mathlib.Core.List.{List, [], ◌∷◌}
use Prim.Native.Nat.{ℕ, ◌*◌, ◌≤◌, ◌<◌, ◌^◌}
use native.Mathlib.Omega.{arith}
use lib.Dec.{ltb}
use lib.ListN.{length, length-append}
use Rattle.laws.proofs.Options.{never}
use Rattle.refusals.specs.Refusals.{Refusal, refuse_if, or_else, first, any, is_one_of}
use Rattle.refusals.proofs.Groups.{passes_left}
use Rattle.image.proofs.Earlier.{none_earlier}
use Rattle.image.specs.Read.{Read, got, bad, Image, read_all, reader_numbers, read_refusal}
use Rattle.image.proofs.Numbers.{read_numbers}
use Rattle.rows.specs.Limits.{MAX_ROWS}
use Rattle.layout_facts.proofs.Limits.{closed_within}
use Rattle.cut_rule.specs.States.{layout_fresh, render_fresh}
use Rattle.cut_rule.specs.Tests.{mode_tests, width_tests, chosen_tests}
use Rattle.cut_rule.specs.Parts.{rule_line, width_line}
use Rattle.whole_run.specs.Parts.{other_rule, keeps_waiting}
use Rattle.whole_run.specs.File.{mode_line, file_rows, file_marks, file_before_marks, file_marks_line, file_before_text}
use Rattle.whole_run.specs.FileLimits.{FILE_TEXT}
use Rattle.whole_run.specs.Built.{layout_choice, render_choice, FileChoice, rows_due, marks_due}
use Rattle.whole_run.proofs.Limits.{stood}
use Rattle.whole_run.proofs.FileLimits.{file_text_limited}
use Rattle.batch.specs.Batch.{Save, row_of, single, texts_of}
use Rattle.batch.specs.Whole.{text_of, Small, cells}
use Rattle.batch.specs.declared.writing.Row.{Row}
use Rattle.batch.proofs.Places.{read_places}
use Rattle.batch.proofs.Marks.{marks_few}
use Rattle.batch.proofs.Rooms.{early, needed, no_text, all_text, single_refused, single_accepted}

-- ---- refusals that don't depend on the output: none of them is 10, and their places are small
pub record Fine (r : Refusal) : Type 0 where
  pub not_ten : r.number ≡ 10 → ⊥
  pub place : r.place < 2 ^ 32

abbrev Fines : Option Refusal → Type 0
Fines o = (r : Refusal) → o ≡ Some r → Fine r

fine_none : Fines None
fine_none r e = absurd (never r (sym e))

fine_at : (n p : ℕ) → (n ≡ 10 → ⊥) → p < 2 ^ 32 → Fines (Some (record { number = n; place = p }))
fine_at n p h k r e =
    let f : ◌≡◌ {A = Refusal} (record { number = n; place = p }) r = cc in
    let g = ap (λ (x : Refusal). x.number) f in
    let l = ap (λ (x : Refusal). x.place) f in
    record { not_ten = λ t. h (g ∙ t); place = omega arith }

fine_if : (t : Bool) (n p : ℕ) → (n ≡ 10 → ⊥) → p < 2 ^ 32 → Fines (refuse_if t n p)
fine_if true n p h k = fine_at n p h k
fine_if false n p h k = fine_none

-- one line, and the others where it lets pass
fine_or : (o p : Option Refusal) → Fines o → (o ≡ None → Fines p) → Fines (or_else o p)
fine_or (Some q) p f g = f
fine_or None p f g = g refl

none_ten : (n : ℕ) → is_one_of n reader_numbers ≡ true → n ≡ 10 → ⊥
none_ten n h e =
    let f : is_one_of 10 reader_numbers ≡ true = ap (λ (k : ℕ). is_one_of k reader_numbers) (sym e) ∙ h in
    let z : ◌≡◌ {A = ℕ} 0 1 = cc in
    omega arith

module _ (s b : List ℕ) where
  read_fine : Fines (read_refusal (read_all s b))
  read_fine = go (read_all s b) refl
    where
      go : (x : Read Image) → read_all s b ≡ x → Fines (read_refusal x)
      go (got i end) e = fine_none
      go (bad n p) e = fine_at n p (none_ten n (read_numbers false s b n p e)) (let h = read_places s b n p e in omega arith)

  module _ (c : FileChoice) where
    rows_few : read_refusal (read_all s b) ≡ None → rows_due s b c ≤ MAX_ROWS
    rows_few h = omega (arith, (closed_within (stood s b (none_earlier s b h)).stood (keeps_waiting c.mode)).rows)

    early_lines : Fines (first (file_before_text s b c file_rows file_marks))
    early_lines =
        fine_or (rule_line (other_rule b c.rule) c.rule) _ (fine_if (any (chosen_tests (other_rule b c.rule) c.rule)) 20 0 (λ e. omega arith) (omega arith))
        (λ r.
        fine_or (read_refusal (read_all s b)) _ read_fine
        (λ h.
        fine_or (mode_line c) _ (fine_if (any (mode_tests (layout_choice c) layout_fresh)) 12 0 (λ e. omega arith) (omega arith))
        (λ f.
        fine_or (width_line (render_choice c) render_fresh) _ (fine_if (any (width_tests c.width 0)) 15 0 (λ e. omega arith) (omega arith))
        (λ g.
        fine_or (refuse_if (ltb file_rows (rows_due s b c)) 8 (rows_due s b c)) _
        (fine_if (ltb file_rows (rows_due s b c)) 8 (rows_due s b c) (λ e. omega arith) (let k = rows_few h in omega arith))
        (λ k.
        fine_or (refuse_if (ltb file_marks (marks_due s b c)) 9 (marks_due s b c)) None
        (fine_if (ltb file_marks (marks_due s b c)) 9 (marks_due s b c) (λ e. omega arith) (let l = marks_few s b c (none_earlier s b h) in omega arith))
        (λ l. fine_none))))))

pub early_fine : (c : FileChoice) (x : Save) → Fines (early c x)
early_fine c x = early_lines x.source x.image c

-- ---- texts
module _ (c : FileChoice) where
  pub text_limited : (x : Save) → length (text_of c x) ≤ FILE_TEXT
  text_limited x = go (early c x) refl
    where
      go : (o : Option Refusal) → early c x ≡ o → length (text_of c x) ≤ FILE_TEXT
      go (Some r) e = omega (arith, ap length (no_text c x r e))
      go None e =
          let s = x.source in
          let b = x.image in
          let h = file_text_limited s b c (passes_left (file_before_marks s b c file_rows) (file_marks_line s b c file_marks) e) in
          omega (arith, ap length (all_text c x e))

  pub texts_limited : (xs : List Save) → length (texts_of c xs) ≤ length xs * FILE_TEXT
  unfolding texts_of
  texts_limited [] = omega arith
  texts_limited (x ∷ xs) =
      let h = texts_limited xs in
      let k = text_limited x in
      omega (arith, length-append (text_of c x) (texts_of c xs))

  -- ---- a row
  pub row_text : (x : Save) (a p n : ℕ) → a ∷ p ∷ n ∷ [] ≡ row_of (single c x) → n ≡ length (text_of c x)
  row_text x a p n h = go (early c x) refl
    where
      go : (o : Option Refusal) → early c x ≡ o → n ≡ length (text_of c x)
      go (Some r) e =
          let g = ap row_of (single_refused c x r e) in
          let q : n ≡ 0 = cc in
          q ∙ sym (ap length (no_text c x r e))
      go None e =
          let g = ap row_of (single_accepted c x e) in
          let q : n ≡ needed c x = cc in
          q ∙ sym (ap length (all_text c x e))

  pub row_small : (x : Save) (w : Row) → cells w ≡ row_of (single c x) → Small w
  row_small x w h = record { place = go (early c x) refl; bytes = let k = text_limited x in omega (arith, row_text x w.number w.place w.bytes h) }
    where
      go : (o : Option Refusal) → early c x ≡ o → w.place < 2 ^ 32
      go (Some r) e =
          let g = ap row_of (single_refused c x r e) in
          let q : w.place ≡ r.place = cc in
          omega (arith, (early_fine c x r e).place)
      go None e =
          let g = ap row_of (single_accepted c x e) in
          let q : w.place ≡ 0 = cc in
          omega arith
