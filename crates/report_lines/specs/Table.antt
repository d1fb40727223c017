-- The lines of the report, as docs/REPORT.md has them: "Bytes of ASCII, each line ended by one newline". Numbers are "decimal, without
-- leading zeros and without marks between the digits".
use Rattle.std.specs.Prelude.{List, [], ◌∷◌, ◌++◌, ℕ, ◌-◌, length, replicate}
use Rattle.refusals.specs.Refusals.{Refusal}
use Rattle.rows.specs.Ascii.{bytes}
use Rattle.tallies.specs.declared.Figures.{Figures}
use Rattle.tallies.specs.declared.Fraction.{Fraction}
use Rattle.tallies.specs.declared.Tallies.{Tallies}
use Rattle.tallies.specs.Fraction.{reduced}
use Rattle.lines.specs.Lines.{decimal, refused_line}

-- "ten columns"
abbrev pub COLUMNS : ℕ
COLUMNS = 10

abbrev pub BLANK : ℕ
BLANK = 0x20

-- "each set to the right in ten columns by blanks before it. A number of more than ten digits is written whole."
unfoldable pub cell : List ℕ → List ℕ
cell text = replicate (COLUMNS - length text) BLANK ++ text

-- a cell for each text, with a blank before it
unfoldable pub cells : List (List ℕ) → List ℕ
cells [] = []
cells (text ∷ texts) = (BLANK ∷ cell text) ++ cells texts

-- "A line of columns (heads, a file's, totals) has eight cells with one blank between"
abbrev pub columns : List ℕ → List (List ℕ) → List ℕ
columns first others = cell first ++ cells others ++ bytes "\n"

-- seven figures, "in this order"
abbrev pub in_order : Figures → List (List ℕ)
in_order f =
    decimal f.bytes
    ∷ decimal f.newlines
    ∷ decimal f.column
    ∷ decimal f.given
    ∷ decimal f.wrapped
    ∷ decimal f.placed
    ∷ decimal f.left
    ∷ []

-- "heads": `file`, "`bytes`, `newlines`, `column`, `given`, `wrapped`, `placed`, `left`"
unfoldable pub heads_line : List ℕ
heads_line =
    columns (bytes "file")
    (bytes "bytes"
    ∷ bytes "newlines"
    ∷ bytes "column"
    ∷ bytes "given"
    ∷ bytes "wrapped"
    ∷ bytes "placed"
    ∷ bytes "left"
    ∷ [])

-- "a file that is counted": "its number", "its seven figures"
abbrev pub file_line : ℕ → Figures → List ℕ
file_line file f = columns (decimal file) (in_order f)

-- "its number in ten columns as above, a blank, and `refused N at P` with the refusal's number and place"
abbrev pub refused_file_line : ℕ → Refusal → List ℕ
refused_file_line file r = cell (decimal file) ++ bytes " " ++ refused_line r

-- "`the input ends inside file N`"
abbrev pub ends_inside_line : ℕ → List ℕ
ends_inside_line file = bytes "the input ends inside file " ++ decimal file ++ bytes "\n"

-- "totals": `total`, "the seven tallies"
abbrev pub totals_line : Figures → List ℕ
totals_line all = columns (bytes "total") (in_order all)

-- "`files counted: N`"
abbrev pub counted_line : ℕ → List ℕ
counted_line files = bytes "files counted: " ++ decimal files ++ bytes "\n"

-- "`files refused: N`"
abbrev pub refused_count_line : ℕ → List ℕ
refused_count_line files = bytes "files refused: " ++ decimal files ++ bytes "\n"

-- "`wrapped over given, reduced: A over B`"
abbrev pub fraction_line : Fraction → List ℕ
fraction_line q =
    bytes "wrapped over given, reduced: " ++ decimal q.over ++ bytes " over " ++ decimal q.under ++ bytes "\n"

-- the lines below those of the files, in their order
unfoldable pub last_lines : Tallies → ℕ → List ℕ
last_lines t refused =
    totals_line t.all
    ++ counted_line t.files
    ++ refused_count_line refused
    ++ fraction_line (reduced t.all.wrapped t.all.given)
