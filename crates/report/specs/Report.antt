-- What the report makes of its files, one after another: the line of each, and what it holds after them. proofs/Accounts.antt proves the claim at
-- the end.
use Rattle.std.specs.Prelude.{◌≡◌, Bool, true, false, List, [], ◌∷◌, ℕ, ◌+◌, ◌-◌, ◌≤◌, ◌<◌, length, take, Option, None, Some, Result, Ok, Err, is_err}
use Rattle.refusals.specs.Answers.{Answer, refused, accepted}
use Rattle.tallies.specs.Tallies.{fresh_tallies}
use Rattle.figures.specs.Figures.{CountResult, count_answer}
use Rattle.figures.specs.Order.{File, counted_files, sums_of}
use Rattle.report_lines.specs.Table.{file_line, refused_file_line, ends_inside_line}
use Rattle.feed.specs.Input.{source_length, image_length}
use Rattle.feed.specs.declared.Cut.{Cut}
use Rattle.report.specs.declared.progress.Progress.{Progress}
use Rattle.report.specs.declared.progress.Turn.{Turn}
use Rattle.report.specs.declared.Ended.{Ended}

-- the last number of 64 bits that a file can have
abbrev pub LAST_FILE : ℕ
LAST_FILE = 18446744073709551615

-- ---- one file
-- "Files are numbered from 1 in the order of the input, refused ones included."
abbrev pub number_of : Progress → ℕ
number_of p = p.files + 1

-- no file yet
abbrev pub fresh_progress : Progress
fresh_progress = record { files = 0; refused = 0; tallies = fresh_tallies }

-- what a file is answered with, on top of the tallies so far
abbrev pub answer_to : Progress → List ℕ → List ℕ → Answer CountResult
answer_to p s b = count_answer s b p.tallies

-- the line of a file that was answered so, and what is held then
abbrev pub line_by : ℕ → Answer CountResult → List ℕ
line_by file (refused r) = refused_file_line file r
line_by file (accepted x) = file_line file x.figures

abbrev pub progress_by : Progress → Answer CountResult → Progress
progress_by p (refused r) = record { files = p.files + 1; refused = p.refused + 1; tallies = p.tallies }
progress_by p (accepted x) = record { files = p.files + 1; refused = p.refused; tallies = x.tallies }

-- ---- what came next, as the buffers hold it
-- What is counted of a file is what its buffers keep: "the first" bytes of its source and of its image, as many as it has.
abbrev pub source_in : List ℕ → List ℕ → List ℕ
source_in lengths source = take (source_length lengths) source

abbrev pub image_in : List ℕ → List ℕ → List ℕ
image_in lengths image = take (image_length lengths) image

module _ (lengths source image : List ℕ) (p : Progress) where
  abbrev pub answer_in : Answer CountResult
  answer_in = answer_to p (source_in lengths source) (image_in lengths image)

  -- "a line for each file; where the input ends inside a frame .. `the input ends inside file N`"
  abbrev pub line_due : Result (Option ℕ) Cut → List ℕ
  line_due (Ok None) = []
  line_due (Err cut) = ends_inside_line (number_of p)
  line_due (Ok (Some bytes)) = line_by (number_of p) answer_in

  -- of a file that is cut, "What is there of it isn't counted", and it isn't refused either
  abbrev pub progress_due : Result (Option ℕ) Cut → Progress
  progress_due (Ok None) = p
  progress_due (Err cut) = p
  progress_due (Ok (Some bytes)) = progress_by p answer_in

-- no number of files wraps
pub record GoesOn (p : Progress) : Type 0 where
  pub more : p.files < LAST_FILE
  pub among : p.refused ≤ p.files

-- a turn: its line, and what is held, are due
pub record Takes (text : List ℕ) (p : Progress) (r : Turn) : Type 0 where
  pub line : r.line.bytes ≡ text
  pub progress : r.progress ≡ p

-- by an answer, and by what came
abbrev pub TakesBy : Progress → Answer CountResult → Turn → Type 0
TakesBy p a r = Takes (line_by (number_of p) a) (progress_by p a) r

abbrev pub TakesNext : List ℕ → List ℕ → List ℕ → Progress → Result (Option ℕ) Cut → Turn → Type 0
TakesNext lengths source image p came r = Takes (line_due lengths source image p came) (progress_due lengths source image p came) r

-- ---- all files
-- one after another
unfoldable pub after_files : Progress → List File → Progress
after_files p [] = p
after_files p (x ∷ xs) = after_files (progress_by p (answer_to p x.source x.image)) xs

-- why no further file is read
abbrev pub is_whole : Result (Option ℕ) Cut → Bool
is_whole (Ok None) = false
is_whole (Err cut) = false
is_whole (Ok (Some bytes)) = true

pub data Stops (r : Ended) : Type 0 where
  -- no whole file came
  input_ended : is_whole r.came ≡ false → Stops r
  -- a line could not be written
  unwritten : is_err r.written ≡ true → Stops r
  -- no further file can be numbered
  most_files : r.progress.files ≡ LAST_FILE → Stops r

-- what is held in the end is what these files give, read one after another
pub record Fed (r : Ended) : Type 0 where
  pub files : List File
  pub holds : r.progress ≡ after_files fresh_progress files
  pub stops : Stops r

-- What is held after files: how many they are, how many of them are not counted, and the sums over those counted.
abbrev pub AllAccounted : Type 0
AllAccounted =
    (xs : List File)
    → after_files fresh_progress xs
    ≡ record { files = length xs; refused = length xs - length (counted_files xs); tallies = sums_of (counted_files xs) }
