-- From what the run of a file ensures to what counting it answers.
-- Assumes nothing.
use mathlib.Core.Path.{◌≡◌, refl, sym, ap, subst, ◌∙◌}
use mathlib.Core.Bool.{Bool, true, false, not}
use Rattle.std.specs.Prelude.{Option, None, Some, Result, Ok, Err}
use mathlib.Core.List.{List, [], ◌∷◌, ◌++◌}
use Prim.Native.Nat.{ℕ, ◌+◌, ◌*◌, ◌-◌, ◌/◌, ◌≤◌}
use native.Mathlib.Nat.{add-zero}
use native.Mathlib.Omega.{arith}
use lib.ListN.{length, take, drop, replicate, length-replicate}
use lib.Seq.{take_at}
use Rattle.image.specs.Read.{read_all, read_refusal, outcome, Accepts}
use Rattle.image.specs.declared.Document.{Document}
use Rattle.image.proofs.Answers.{read_refusal_lem}
use Rattle.rows.specs.Places.{PLACES}
use Rattle.tree.specs.CommentList.{comments_of}
use Rattle.refusals.specs.Refusals.{Refusal, any, unless, or_else, first, refuse_if}
use Rattle.refusals.specs.Answers.{Answer, refused, accepted, answer_by, refusal_of}
use Rattle.refusals.proofs.Answers.{refused_by, AcceptedBy, accepted_by}
use Rattle.cut_rule.specs.Run.{write_front}
use Rattle.whole_run.specs.Built.{reference_choice, built, drawn_due, column_due}
use Rattle.widths.specs.Rules.{SUPPLIED}
use Rattle.cut_rule.specs.Parts.{rule_line}
use Rattle.whole_run.specs.Parts.{other_rule}
use Rattle.layout_call.specs.Steps.{RuleFits}
use Rattle.whole_run.specs.File.{file_before_rows, file_rows, file_marks, refusal_in, file_refusal, FileResult, file_result, file_answer}
use Rattle.whole_run.proofs.FileTable.{stops_laid, stops_whole}
use Rattle.layout_call.proofs.Standing.{stands, comments_count}
use Rattle.file.specs.Whole.{RunsFile, to_result, formatted_answer, formatted_of, widest_of}
use Rattle.file.specs.declared.Run.{Run}
use Rattle.refusals.specs.Reasons.{refusal}
use Rattle.refusals.specs.declared.Refused.{Refused}
use Rattle.refusals.specs.declared.Reason.TheVariants as reason
use Rattle.tallies.specs.declared.Figures.{Figures}
use Rattle.tallies.specs.declared.Tallies.{Tallies}
use Rattle.tallies.specs.declared.Fraction.{Fraction}
use Rattle.tallies.specs.Tallies.{Within, added, tally_tests, tally_refusal}
use Rattle.tallies.specs.Fraction.{reduced}
use Rattle.figures.specs.Figures.{FILE_OUTPUT, occurs, figures_of, CountResult, count_result, count_answer, counted_answer}
use Rattle.figures.proofs.Occurring.{occurs_append, occurs_cleared}
use Rattle.figures.proofs.Bounds.{placed_in, within}

-- ---- 14
pub tallies_refused : (t : Tallies) (f : Figures) (x : Bool) → x ≡ not (any (tally_tests t)) → not x ≡ true
    → counted_answer (Err (record { reason = reason.Tallies; place = 0 })) ≡ answer_by (tally_refusal t) (count_result f t)
tallies_refused t f x e h = sym (ap (λ (b : Bool). answer_by (refuse_if b 14 0) (count_result f t)) (go (any (tally_tests t)) x e h))
  where
    go : (b x : Bool) → x ≡ not b → not x ≡ true → b ≡ true
    go true x e h = refl
    go false x e h = sym (ap not e) ∙ h

pub tallies_pass : (t : Tallies) (x : Bool) → x ≡ not (any (tally_tests t)) → not x ≡ false → any (tally_tests t) ≡ false
tallies_pass t x e h = go (any (tally_tests t)) x e h
  where
    go : (b x : Bool) → x ≡ not b → not x ≡ false → b ≡ false
    go true x e h = sym (ap not e) ∙ h
    go false x e h = refl

pub figures_counted : (t new : Tallies) (f : Figures) (q : Fraction) → any (tally_tests t) ≡ false → new ≡ added f t
    → q ≡ reduced new.all.wrapped new.all.given
    → counted_answer (Ok (record { figures = f; tallies = new; wrapped = q })) ≡ answer_by (tally_refusal t) (count_result f t)
figures_counted t new f q e g h =
    (λ i. accepted (record { figures = f; tallies = g i; fraction = h i }))
    ∙ (λ i. accepted (record { figures = f; tallies = added f t; fraction = reduced (g i).all.wrapped (g i).all.given }))
    ∙ sym (ap (λ (b : Bool). answer_by (refuse_if b 14 0) (count_result f t)) e)

or_nothing : (o : Option Refusal) → or_else o None ≡ o
or_nothing (Some r) = refl
or_nothing None = refl

module _ (s b : List ℕ) where
  abbrev left_due : ℕ
  left_due = length (comments_of b) - (built s b reference_choice).placed

  abbrev text_due_lem : ℕ
  text_due_lem = length (drawn_due s b reference_choice).text

  -- a file that document 01 refuses is not counted, whatever the tallies are
  file_refused : (t : Tallies) (r : Refused) → file_refusal s b reference_choice FILE_OUTPUT ≡ Some (refusal r) → counted_answer (Err r) ≡ count_answer s b t
  file_refused t r e = sym (ap (λ (x : Option Refusal). answer_by (first (x ∷ tally_refusal t ∷ [])) (count_result (figures_of s b) t)) e)

  -- refused by the first lines
  stops_first : (t : Tallies) (w : Refused) → first (file_before_rows s b reference_choice) ≡ Some (refusal w) → counted_answer (Err w) ≡ count_answer s b t
  stops_first t w e =
      file_refused t w
      (stops_whole s b reference_choice (refusal w) file_rows file_marks FILE_OUTPUT (stops_laid s b reference_choice (refusal w) file_rows e))

  -- 20
  pub rule_refused : (t : Tallies) (w : Refused) → Some (refusal w) ≡ rule_line (other_rule b SUPPLIED) SUPPLIED → counted_answer (Err w) ≡ count_answer s b t
  rule_refused t w e = stops_first t w (ap (λ (x : Option Refusal). first (x ∷ read_refusal (read_all s b) ∷ [])) (sym e))

  -- 1 to 7
  pub check_refused : RuleFits s b SUPPLIED → (t : Tallies) (w : Refused) → outcome (read_all s b) ≡ refused (refusal w)
      → counted_answer (Err w) ≡ count_answer s b t
  check_refused ruled t w e =
      let unread : read_refusal (read_all s b) ≡ Some (refusal w) = sym (read_refusal_lem (read_all s b)) ∙ ap refusal_of e in
      stops_first t w (λ i. first (ruled i ∷ unread i ∷ []))

  -- ---- the run in cleared rows and marks
  module _ (store marks out : List ℕ) (rowed : store ≡ replicate (file_rows * PLACES) 0) (marked : marks ≡ replicate file_marks 0)
      (room : FILE_OUTPUT ≡ length out)
      (r : Result Run Refused) (store2 marks2 out2 : List ℕ) (ran : RunsFile s b reference_choice store marks out r store2 marks2 out2) where
    marks_many : length marks ≡ file_marks
    marks_many = ap length marked ∙ length-replicate {A = ℕ} file_marks 0

    rows_many : length store / PLACES ≡ file_rows
    rows_many = ap (λ (l : List ℕ). length l / PLACES) rowed ∙ ap (λ (n : ℕ). n / PLACES) (length-replicate {A = ℕ} (file_rows * PLACES) 0)

    table_same : refusal_in s b reference_choice (length store / PLACES) (length marks) (length out) ≡ file_refusal s b reference_choice FILE_OUTPUT
    table_same = λ i. refusal_in s b reference_choice (rows_many i) (marks_many i) (sym room i)

    answered : formatted_answer (formatted_of r) ≡ file_answer s b reference_choice FILE_OUTPUT
    answered = ran.answer ∙ ap (λ (o : Option Refusal). answer_by o (file_result s b reference_choice)) table_same

    -- 8 to 10
    pub run_refused : (t : Tallies) (w : Refused) → r ≡ Err w → counted_answer (Err w) ≡ count_answer s b t
    run_refused t w e =
        file_refused t w
        (refused_by (file_refusal s b reference_choice FILE_OUTPUT) _ (refusal w)
        (ap (λ (x : Result Run Refused). formatted_answer (formatted_of x)) (sym e) ∙ answered))

    module _ (u : Run) (is : r ≡ Ok u) where
      known : AcceptedBy (file_refusal s b reference_choice FILE_OUTPUT) (to_result u.text)
          (file_result s b reference_choice)
      known =
          accepted_by (file_refusal s b reference_choice FILE_OUTPUT) _ (file_result s b reference_choice)
          (ap (λ (x : Result Run Refused). formatted_answer (formatted_of x)) (sym is) ∙ answered)

      bytes_due : u.text.bytes.0 ≡ text_due_lem
      bytes_due = ap (λ (x : FileResult). x.bytes) known.is

      left_due_of : u.text.left ≡ left_due
      left_due_of = ap (λ (x : FileResult). x.left) known.is

      numbers_due : u.text.numbers ≡ (built s b reference_choice).taken
      numbers_due = ap (λ (x : FileResult). x.numbers) known.is

      -- nothing refuses
      passes_in : {A : Type 0} (f : Option Refusal → A) → f (file_refusal s b reference_choice FILE_OUTPUT) ≡ f None
      passes_in f = ap f known.passes

      widest_due : u.widest.0 ≡ column_due s b reference_choice
      widest_due =
          ap widest_of (sym is)
          ∙ ran.widest
          ∙ ap (λ (o : Option Refusal). unless o 0 (column_due s b reference_choice)) table_same
          ∙ passes_in (λ o. unless o 0 (column_due s b reference_choice))

      -- ---- what marks and output hold
      output_due : out2 ≡ write_front (drawn_due s b reference_choice).text out
      output_due =
          ran.output_left_of
          ∙ ap (λ (o : Option Refusal). unless o out (write_front (drawn_due s b reference_choice).text out)) table_same
          ∙ passes_in (λ o. unless o out (write_front (drawn_due s b reference_choice).text out))

      text_due : take u.text.bytes.0 out2 ≡ (drawn_due s b reference_choice).text
      text_due = ap (take u.text.bytes.0) output_due ∙ take_at (drawn_due s b reference_choice).text (drop text_due_lem out) u.text.bytes.0 (sym bytes_due)

      wrapped_due : occurs 1 marks2 ≡ occurs 1 (drawn_due s b reference_choice).marks
      wrapped_due =
          let m = (drawn_due s b reference_choice).marks in
          ap (occurs 1)
          (ran.marks_left_of
          ∙ ap (λ (o : Option Refusal). unless o marks (write_front m marks)) table_same
          ∙ passes_in (λ o. unless o marks (write_front m marks))
          ∙ ap (λ (l : List ℕ). m ++ drop (length m) l) marked)
          ∙ occurs_append 1 m (drop (length m) (replicate file_marks 0))
          ∙ ap (λ (n : ℕ). occurs 1 m + n) (occurs_cleared file_marks (length m))
          ∙ add-zero (occurs 1 m)

      -- ---- counted
      module _ (d : Document) (a : Accepts s b d) where
        pub left_fits : u.text.left ≤ d.comments
        left_fits = omega (arith, left_due_of, comments_count a)

        module _ (newlines wrapped : ℕ) (n : newlines ≡ occurs 0x0A (take u.text.bytes.0 out2)) (w : wrapped ≡ occurs 1 marks2) where
          abbrev figures : Figures
          figures = record {
            bytes = u.text.bytes.0;
            newlines = newlines;
            column = u.widest.0;
            given = u.text.numbers;
            wrapped = wrapped;
            placed = d.comments - u.text.left;
            left = u.text.left;
          }

          figures_due : figures ≡ figures_of s b
          figures_due =
              let e = n ∙ ap (occurs 0x0A) text_due in
              let g = w ∙ wrapped_due in
              let h : d.comments - u.text.left ≡ (built s b reference_choice).placed =
              omega (arith, left_due_of, comments_count a, placed_in s b d.tree (stands a)) in
              λ i.
              record {
                bytes = bytes_due i;
                newlines = e i;
                column = widest_due i;
                given = numbers_due i;
                wrapped = g i;
                placed = h i;
                left = left_due_of i;
              }

          pub figures_within : Within figures
          figures_within = subst Within (sym figures_due) (within s b d.tree (stands a) known.passes)

          pub file_counted : (t : Tallies) (x : Answer CountResult) → x ≡ answer_by (tally_refusal t) (count_result figures t) → x ≡ count_answer s b t
          file_counted t x h =
              h
              ∙ ap (λ (g : Figures). answer_by (tally_refusal t) (count_result g t)) figures_due
              ∙ ap (λ (o : Option Refusal). answer_by o (count_result (figures_of s b) t)) (sym (or_nothing (tally_refusal t)))
              ∙ sym (passes_in (λ o. answer_by (first (o ∷ tally_refusal t ∷ [])) (count_result (figures_of s b) t)))
