-- Document 02, 2/14: the tallies over files, and refusal 14.
use Rattle.std.specs.Prelude.{Bool, List, [], ◌∷◌, ◌++◌, ℕ, ◌+◌, ◌≤◌, max, ltb, leb, Option}
use Rattle.refusals.specs.Refusals.{Refusal, any, refuse_if}
use Rattle.tallies.specs.declared.Figures.{Figures}
use Rattle.tallies.specs.declared.Tallies.{Tallies}

-- "up to 4,096 files"
abbrev pub MAX_FILES : ℕ
MAX_FILES = 4096

-- "tallies handed in with one over 4,294,967,296"
abbrev pub MAX_TALLY : ℕ
MAX_TALLY = 4294967296

-- no file yet
abbrev pub no_figures : Figures
no_figures = record { bytes = 0; newlines = 0; column = 0; given = 0; wrapped = 0; placed = 0; left = 0 }

abbrev pub fresh_tallies : Tallies
fresh_tallies = record { files = 0; all = no_figures }

-- "sums, for `column` the greatest"
abbrev pub together : Figures → Figures → Figures
together f g = record {
  bytes = f.bytes + g.bytes;
  newlines = f.newlines + g.newlines;
  column = max f.column g.column;
  given = f.given + g.given;
  wrapped = f.wrapped + g.wrapped;
  placed = f.placed + g.placed;
  left = f.left + g.left;
}

-- figures of which no sum of two wraps: each at most what a tally may be, but for `column`, which is not summed
pub record Within (f : Figures) : Type 0 where
  pub bytes : f.bytes ≤ MAX_TALLY
  pub newlines : f.newlines ≤ MAX_TALLY
  pub given : f.given ≤ MAX_TALLY
  pub wrapped : f.wrapped ≤ MAX_TALLY
  pub placed : f.placed ≤ MAX_TALLY
  pub left : f.left ≤ MAX_TALLY

-- a file counted
abbrev pub added : Figures → Tallies → Tallies
added f t = record { files = t.files + 1; all = together t.all f }

-- 14: "a file past the 4,096th counted"
abbrev pub file_tests : Tallies → List Bool
file_tests t = leb MAX_FILES t.files ∷ []

-- "tallies handed in with one over 4,294,967,296"
abbrev pub bound_tests : Figures → List Bool
bound_tests f =
    ltb MAX_TALLY f.bytes
    ∷ ltb MAX_TALLY f.newlines
    ∷ ltb MAX_TALLY f.column
    ∷ ltb MAX_TALLY f.given
    ∷ ltb MAX_TALLY f.wrapped
    ∷ ltb MAX_TALLY f.placed
    ∷ ltb MAX_TALLY f.left
    ∷ []

-- "or more wrapped than given"
abbrev pub wrapped_tests : Figures → List Bool
wrapped_tests f = ltb f.given f.wrapped ∷ []

abbrev pub tally_tests : Tallies → List Bool
tally_tests t = file_tests t ++ (bound_tests t.all ++ wrapped_tests t.all)

-- "A number named without a place comes with 0"
abbrev pub tally_refusal : Tallies → Option Refusal
tally_refusal t = refuse_if (any (tally_tests t)) 14 0
