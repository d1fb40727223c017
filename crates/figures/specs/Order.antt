-- "totals, the same in any order of the files counted (sums, for `column` the greatest)": of files that are counted one after another by a function
-- that keeps the promise of `count_file`. tallies/specs/Order.antt has it of files of any kind; proofs/Order.antt proves the claims.
use Rattle.std.specs.Prelude.{◌≡◌, List, map, ℕ, ◌≤◌, length, take, Option, Result}
use Rattle.refusals.specs.Refusals.{Refusal}
use Rattle.refusals.specs.Answers.{Answer, refused, accepted}
use Rattle.cut_rule.specs.Callers.{after_all, AllKept}
use Rattle.whole_run.specs.File.{file_refusal}
use Rattle.whole_run.specs.FileLimits.{AreBytes}
use Rattle.whole_run.specs.Built.{reference_choice}
use Rattle.tallies.specs.declared.Figures.{Figures}
use Rattle.tallies.specs.declared.Tallies.{Tallies}
use Rattle.tallies.specs.Tallies.{MAX_FILES, fresh_tallies}
use Rattle.tallies.specs.Order as tallied
use Rattle.tallies.specs.Order.{Reordered, sum}
use Rattle.figures.specs.Figures.{FILE_OUTPUT, figures_of, CountResult, counted_answer, Counts}
use Rattle.refusals.specs.declared.Refused.{Refused}
use Rattle.figures.specs.declared.Counted.{Counted}

-- A source and an image of bytes. (The column is bounded because widths stand in two bytes; of the source nothing is asked.)
pub record File : Type 0 where
  pub source : List ℕ
  pub image : List ℕ
  pub bytes : AreBytes image

-- what refuses it by document 01, and what it gives if nothing does
abbrev pub refusal_of : File → Option Refusal
refusal_of x = file_refusal x.source x.image reference_choice FILE_OUTPUT

abbrev pub figures_in : File → Figures
figures_in x = figures_of x.source x.image

-- the files of a feed that are counted, from fresh tallies on, and those that document 01 does not refuse
abbrev pub counted_files : List File → List File
counted_files xs = tallied.counted refusal_of figures_in fresh_tallies xs

abbrev pub accepted_files : List File → List File
accepted_files xs = tallied.accepted refusal_of figures_in xs

-- what files give together
abbrev pub sums_of : List File → Tallies
sums_of xs = record { files = length xs; all = sum (map figures_in xs) }

-- ---- a caller that holds the tallies
-- a file that was counted or refused, and the answer
pub record Made : Type 0 where
  pub file : File
  pub answer : Result Counted Refused

-- the tallies that it holds then: the new ones, or where the file was refused, those that it had
abbrev pub tallies_after : Tallies → Answer CountResult → Tallies
tallies_after t (refused r) = t
tallies_after t (accepted x) = x.tallies

abbrev pub after : Tallies → Made → Tallies
after t m = tallies_after t (counted_answer m.answer)

-- what `count_file` promises
abbrev pub Keeps : Tallies → Made → Type 0
Keeps t m = Counts m.file.source m.file.image t m.answer

abbrev pub files : List Made → List File
files ms = map (λ m. m.file) ms

-- ---- the totals
-- from fresh tallies, however many files are fed, the totals are the sums over those counted
abbrev pub TotalsAreSums : Type 0
TotalsAreSums = (ms : List Made) → AllKept after Keeps fresh_tallies ms → after_all after fresh_tallies ms ≡ sums_of (counted_files (files ms))

-- "the same in any order of the files counted": of any two feeds that count the same files, wherever refused ones stand in them, 14's among them
abbrev pub SameInAnyOrder : Type 0
SameInAnyOrder =
    (ms ns : List Made) → AllKept after Keeps fresh_tallies ms → AllKept after Keeps fresh_tallies ns
    → Reordered (counted_files (files ms)) (counted_files (files ns))
    → after_all after fresh_tallies ms ≡ after_all after fresh_tallies ns

-- those counted are the first 4,096 that document 01 does not refuse: 14 refuses "a file past the 4,096th counted", and no other
abbrev pub FirstAreCounted : Type 0
FirstAreCounted = (xs : List File) → counted_files xs ≡ take MAX_FILES (accepted_files xs)

-- so a whole feed may come in any order, if document 01 refuses all but 4,096 of its files; with more, the order says which are counted
abbrev pub SameFeedInAnyOrder : Type 0
SameFeedInAnyOrder =
    (ms ns : List Made) → AllKept after Keeps fresh_tallies ms → AllKept after Keeps fresh_tallies ns → Reordered (files ms) (files ns)
    → length (accepted_files (files ms)) ≤ MAX_FILES
    → after_all after fresh_tallies ms ≡ after_all after fresh_tallies ns
