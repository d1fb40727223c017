-- Document 02, 2/14: the figures of one file, and what counting it answers.
use Rattle.std.specs.Prelude.{◌≡◌, ◌==◌, List, [], ◌∷◌, ℕ, ◌-◌, count_by, length, Option, Result}
use Rattle.tree.specs.CommentList.{comments_of}
use Rattle.refusals.specs.Refusals.{Refusal, first}
use Rattle.refusals.specs.Answers.{Answer, answer_by}
use Rattle.refusals.specs.Reasons.{answer_of}
use Rattle.refusals.specs.declared.Refused.{Refused}
use Rattle.whole_run.specs.Built.{reference_choice, built, drawn_due, column_due}
use Rattle.whole_run.specs.File.{file_refusal}
use Rattle.tallies.specs.declared.Figures.{Figures}
use Rattle.tallies.specs.declared.Tallies.{Tallies}
use Rattle.tallies.specs.declared.Fraction.{Fraction}
use Rattle.tallies.specs.Tallies.{added, tally_refusal}
use Rattle.tallies.specs.Fraction.{reduced}
use Rattle.figures.specs.declared.Counted.{Counted}

-- "each with the program's rows, marks and output": "It has 1,800 rows, 1,800 marks and 65,536 output bytes."
abbrev pub FILE_OUTPUT : ℕ
FILE_OUTPUT = 65536

-- how often a byte stands in a text, or a mark among marks
abbrev pub occurs : ℕ → List ℕ → ℕ
occurs x ys = count_by (λ y. y == x) ys

-- "text bytes, newlines, greatest value `column` takes, group numbers given, groups wrapped (marks at 1), comments placed, comments left", by
-- what `fmt_parsed` builds, the mode being the old one, and `Renderer` makes of it
abbrev pub figures_of : List ℕ → List ℕ → Figures
figures_of s b = record {
  bytes = length (drawn_due s b reference_choice).text;
  newlines = occurs 0x0A (drawn_due s b reference_choice).text;
  column = column_due s b reference_choice;
  given = (built s b reference_choice).taken;
  wrapped = occurs 1 (drawn_due s b reference_choice).marks;
  placed = (built s b reference_choice).placed;
  left = length (comments_of b) - (built s b reference_choice).placed;
}

-- 14 "after all of 01's"
abbrev pub count_refusal : List ℕ → List ℕ → Tallies → Option Refusal
count_refusal s b t = first (file_refusal s b reference_choice FILE_OUTPUT ∷ tally_refusal t ∷ [])

-- what a file that is counted gives: its figures, the new tallies, and wrapped over given of all
pub record CountResult : Type 0 where
  pub figures : Figures
  pub tallies : Tallies
  pub fraction : Fraction

abbrev pub count_result : Figures → Tallies → CountResult
count_result f t = record { figures = f; tallies = added f t; fraction = reduced (added f t).all.wrapped (added f t).all.given }

abbrev pub count_answer : List ℕ → List ℕ → Tallies → Answer CountResult
count_answer s b t = answer_by (count_refusal s b t) (count_result (figures_of s b) t)

-- an answer of the code's
abbrev pub counted_answer : Result Counted Refused → Answer CountResult
counted_answer = answer_of (λ c. record { figures = c.figures; tallies = c.tallies; fraction = c.wrapped })

-- what `count_file` promises of its answer
abbrev pub Counts : List ℕ → List ℕ → Tallies → Result Counted Refused → Type 0
Counts s b t r = counted_answer r ≡ count_answer s b t
