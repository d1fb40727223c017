-- The lines of a whole file's table taken apart: what a file has passed that a part of them lets pass. Where a line comes in, `FilePassed` and
-- `file_passed` get it, and no other proof here.
-- Assumes nothing.
use mathlib.Core.Path.{◌≡◌, sym, ap, ◌∙◌}
use Rattle.std.specs.Prelude.{Option, None, Some}
use mathlib.Core.List.{List, [], ◌∷◌, ◌++◌}
use Prim.Native.Nat.{ℕ, ◌≤◌}
use lib.Dec.{ltb}
use lib.ListN.{length}
use borrow.Author.Tests.{ltb-false}
use Rattle.refusals.specs.Refusals.{Refusal, or_else, first}
use Rattle.refusals.proofs.Groups.{first_append, refuses_left, left_to, passes_left, passes_right, passes_line, passes_others, not_if}
use Rattle.image.specs.Read.{read_all, read_earlier, read_refusal}
use Rattle.image.proofs.Earlier.{none_earlier}
use Rattle.cut_rule.specs.States.{render_fresh}
use Rattle.cut_rule.specs.Parts.{rule_line, width_line}
use Rattle.whole_run.specs.Parts.{other_rule}
use Rattle.whole_run.specs.Built.{FileChoice, render_choice, rows_due, marks_due, drawn_due}
use Rattle.whole_run.specs.File.{mode_line, file_before_rows, file_rows_line, file_marks_line, file_text_line}
use Rattle.whole_run.specs.File.{file_before_marks, file_before_text, laid_refusal, refusal_in}

-- lines that let pass leave it to the two parts behind them
pub left_to_two : (os ps qs : List (Option Refusal)) → first os ≡ None → first (os ++ ps ++ qs) ≡ first (ps ++ qs)
left_to_two os ps qs e =
    first_append (os ++ ps) qs ∙ ap (λ (o : Option Refusal). or_else o (first qs)) (left_to os ps e) ∙ sym (first_append ps qs)

-- 20, 1 to 7, 12 and 15
pub record FilePassed (s b : List ℕ) (c : FileChoice) : Type 0 where
  pub chosen : rule_line (other_rule b c.rule) c.rule ≡ None
  pub read : read_refusal (read_all s b) ≡ None
  pub earlier : read_refusal (read_earlier s b) ≡ None
  pub moded : mode_line c ≡ None
  pub legal : width_line (render_choice c) render_fresh ≡ None

module _ (s b : List ℕ) (c : FileChoice) where
  pub file_passed : first (file_before_rows s b c) ≡ None → FilePassed s b c
  file_passed h =
      let widths : List (Option Refusal) = width_line (render_choice c) render_fresh ∷ [] in
      let others : List (Option Refusal) = read_refusal (read_all s b) ∷ mode_line c ∷ widths in
      let reads = passes_others (rule_line (other_rule b c.rule) c.rule) others h in
      let modes = passes_others (read_refusal (read_all s b)) (mode_line c ∷ widths) reads in
      let read = passes_line (read_refusal (read_all s b)) (mode_line c ∷ widths) reads in
      record {
        chosen = passes_line (rule_line (other_rule b c.rule) c.rule) others h;
        read = read;
        earlier = none_earlier s b read;
        moded = passes_line (mode_line c) widths modes;
        legal = passes_line (width_line (render_choice c) render_fresh) [] (passes_others (mode_line c) widths modes);
      }

  -- and 8, in so many rows
  module _ (rows : ℕ) (h : laid_refusal s b c rows ≡ None) where
    pub before_rows : first (file_before_rows s b c) ≡ None
    before_rows = passes_left (file_before_rows s b c) (file_rows_line s b c rows) h

    pub laid_passed : FilePassed s b c
    laid_passed = file_passed before_rows

    pub rows_fit : rows_due s b c ≤ rows
    rows_fit =
        ltb-false rows (rows_due s b c)
        (not_if (ltb rows (rows_due s b c)) 8 (rows_due s b c) (passes_line _ [] (passes_right (file_before_rows s b c) (file_rows_line s b c rows) h)))

  -- all of them
  module _ (rows marks room : ℕ) (h : refusal_in s b c rows marks room ≡ None) where
    before_text : first (file_before_text s b c rows marks) ≡ None
    before_text = passes_left (file_before_text s b c rows marks) (file_text_line s b c room) h

    pub before_marks_lem : laid_refusal s b c rows ≡ None
    before_marks_lem = passes_left (file_before_marks s b c rows) (file_marks_line s b c marks) before_text

    pub marks_fit : marks_due s b c ≤ marks
    marks_fit =
        ltb-false marks (marks_due s b c)
        (not_if (ltb marks (marks_due s b c)) 9 (marks_due s b c)
        (passes_line _ [] (passes_right (file_before_marks s b c rows) (file_marks_line s b c marks) before_text)))

    pub text_fit : length (drawn_due s b c).text ≤ room
    text_fit =
        let n = length (drawn_due s b c).text in
        ltb-false room n (not_if (ltb room n) 10 n (passes_line _ [] (passes_right (file_before_text s b c rows marks) (file_text_line s b c room) h)))

  -- a refusal of the first lines, or of layout, is one of the whole
  module _ (r : Refusal) (rows : ℕ) where
    pub stops_laid : first (file_before_rows s b c) ≡ Some r → laid_refusal s b c rows ≡ Some r
    stops_laid e = refuses_left r (file_before_rows s b c) (file_rows_line s b c rows) e

    pub stops_whole : (marks room : ℕ) → laid_refusal s b c rows ≡ Some r → refusal_in s b c rows marks room ≡ Some r
    stops_whole marks room e =
        refuses_left r (file_before_text s b c rows marks) (file_text_line s b c room)
        (refuses_left r (file_before_marks s b c rows) (file_marks_line s b c marks) e)
