-- The whole run of one file: one layout call from fresh up to the last declaration, closing; then one rendering call from fresh up to the last
-- row. What it answers and leaves is told here by the layout rules and `Renderer` alone (Built.antt), in the mode and at the width that its caller
-- chooses; proofs/File.antt has that the two calls give it, and proves the claims at the end.
use Rattle.std.specs.Prelude.{◌≡◌, List, [], ◌∷◌, ◌++◌, ℕ, ◌-◌, ltb, length, Option}
use Rattle.image.specs.Read.{read_all, read_refusal}
use Rattle.rows.specs.Rows.{rows}
use Rattle.tree.specs.CommentList.{comments_of}
use Rattle.comments.specs.Listed.{given}
use Rattle.layout.specs.Layout.{fmt_parsed}
use Rattle.layout.specs.Closing.{fresh}
use Rattle.refusals.specs.Refusals.{Refusal, unless, first, refuse_if, any}
use Rattle.refusals.specs.Answers.{Answer, accepted, answer_by}
use Rattle.cut_rule.specs.Run.{write_front}
use Rattle.cut_rule.specs.States.{layout_fresh, render_fresh, OLD_MODE, NEW_MODE}
use Rattle.cut_rule.specs.Tests.{rows_in, mode_tests}
use Rattle.cut_rule.specs.Parts.{rule_line, width_line}
use Rattle.whole_run.specs.Parts.{other_rule}
use Rattle.whole_run.specs.Built.{FileChoice, layout_choice, render_choice, tree, built, laid, rows_due, marks_due, drawn_due}

-- What the run has of its own: "It has 1,800 rows, 1,800 marks and 65,536 output bytes." The output is lent.
abbrev pub file_rows : ℕ
file_rows = 1800

abbrev pub file_marks : ℕ
file_marks = 1800

-- 12: "a mode over 1". Nothing else of 12 refuses a whole file.
abbrev pub mode_line : FileChoice → Option Refusal
mode_line c = refuse_if (any (mode_tests (layout_choice c) layout_fresh)) 12 0

module _ (s b : List ℕ) where
  -- ---- the table, in parts
  -- the lines before it is counted how many rows there will be: 20, 1 to 7, then 12 and 15, a fresh state carrying no width
  abbrev pub file_before_rows : FileChoice → List (Option Refusal)
  file_before_rows c = rule_line (other_rule b c.rule) c.rule ∷ read_refusal (read_all s b) ∷ mode_line c ∷ width_line (render_choice c) render_fresh ∷ []

  -- 8, in so many rows
  abbrev pub file_rows_line : FileChoice → ℕ → List (Option Refusal)
  file_rows_line c rows = refuse_if (ltb rows (rows_due s b c)) 8 (rows_due s b c) ∷ []

  abbrev pub file_before_marks : FileChoice → ℕ → List (Option Refusal)
  file_before_marks c rows = file_before_rows c ++ file_rows_line c rows

  -- 9, with so many marks
  abbrev pub file_marks_line : FileChoice → ℕ → List (Option Refusal)
  file_marks_line c marks = refuse_if (ltb marks (marks_due s b c)) 9 (marks_due s b c) ∷ []

  abbrev pub file_before_text : FileChoice → ℕ → ℕ → List (Option Refusal)
  file_before_text c rows marks = file_before_marks c rows ++ file_marks_line c marks

  -- 10, with so many bytes of output
  abbrev pub file_text_line : FileChoice → ℕ → List (Option Refusal)
  file_text_line c room = refuse_if (ltb room (length (drawn_due s b c).text)) 10 (length (drawn_due s b c).text) ∷ []

  -- no other cause refuses a whole file
  abbrev pub file_table : FileChoice → ℕ → ℕ → ℕ → List (Option Refusal)
  file_table c rows marks room = file_before_text c rows marks ++ file_text_line c room

  -- what refuses the file before anything is rendered, and what refuses it at all
  abbrev pub laid_refusal : FileChoice → ℕ → Option Refusal
  laid_refusal c rows = first (file_before_marks c rows)

  abbrev pub refusal_in : FileChoice → ℕ → ℕ → ℕ → Option Refusal
  refusal_in c rows marks room = first (file_table c rows marks room)

  abbrev pub file_refusal : FileChoice → ℕ → Option Refusal
  file_refusal c room = refusal_in c file_rows file_marks room

  -- ---- what is left
  -- What a run in rows and marks that are lent leaves of them and of the output. Where 9 or 10 refuses, the rows are laid already.
  abbrev pub store_left : FileChoice → List ℕ → List ℕ
  store_left c store = unless (laid_refusal c (rows_in store)) store (write_front (rows (laid s b c) 0) store)

  abbrev pub marks_left : FileChoice → List ℕ → List ℕ → List ℕ → List ℕ
  marks_left c store marks out = unless (refusal_in c (rows_in store) (length marks) (length out)) marks (write_front (drawn_due s b c).marks marks)

  abbrev pub output_left : FileChoice → List ℕ → List ℕ → List ℕ → List ℕ
  output_left c store marks out = unless (refusal_in c (rows_in store) (length marks) (length out)) out (write_front (drawn_due s b c).text out)

  -- what a whole file's run leaves of the output
  abbrev pub file_output : FileChoice → List ℕ → List ℕ
  file_output c out = unless (file_refusal c (length out)) out (write_front (drawn_due s b c).text out)

-- ---- the answer
-- What a file that is formatted gives: the bytes written, the comments left, the rows and the group numbers.
pub record FileResult : Type 0 where
  pub bytes : ℕ
  pub left : ℕ
  pub rows : ℕ
  pub numbers : ℕ

abbrev pub file_result : List ℕ → List ℕ → FileChoice → FileResult
file_result s b c = record {
  bytes = length (drawn_due s b c).text;
  left = length (comments_of b) - (built s b c).placed;
  rows = rows_due s b c;
  numbers = (built s b c).taken;
}

-- in so many rows, marks and bytes of output
abbrev pub answer_in : List ℕ → List ℕ → FileChoice → ℕ → ℕ → ℕ → Answer FileResult
answer_in s b c rows marks room = answer_by (refusal_in s b c rows marks room) (file_result s b c)

abbrev pub file_answer : List ℕ → List ℕ → FileChoice → ℕ → Answer FileResult
file_answer s b c room = answer_in s b c file_rows file_marks room

-- ---- what is claimed of the modes
-- "equality with the Rust in the old": what is built is what `fmt_parsed` builds
abbrev pub OldModeIsFmtParsed : Type 0
OldModeIsFmtParsed =
    (s b : List ℕ) (c : FileChoice) → c.mode ≡ OLD_MODE → built s b c ≡ fmt_parsed (given s b) (tree s b) fresh

-- "In the new mode a document closed .. holds the whole list, 0 left": a file that is formatted leaves no comment
abbrev pub NewModeLeavesNone : Type 0
NewModeLeavesNone =
    (s b : List ℕ) (c : FileChoice) (rows marks room : ℕ) (r : FileResult) → c.mode ≡ NEW_MODE → answer_in s b c rows marks room ≡ accepted r → r.left ≡ 0
