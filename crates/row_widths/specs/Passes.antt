-- Request 8: passes over the rows of a store that put widths into them.
use Prim.Native.Nat.{ℕ, zero, suc, ◌+◌, ◌*◌, ◌≤◌, ◌<◌}
use mathlib.Core.Path.{◌≡◌}
use mathlib.Core.Bool.{cond, ◌&&◌}
use mathlib.Core.List.{List}
use lib.ListN.{length, set}
use lib.Seq.{sets}
use lib.Dec.{eqb}
use Rattle.rows.specs.Kinds.{STR, ASCII}
use Rattle.rows.specs.Places.{KIND, NUMBER, WIDTH, PLACES}
use Rattle.rows.specs.Node.{Text, Nodes}
use Rattle.rows.specs.Rows.{sizes, rows}
use Rattle.rows.specs.View.{cell, view_of, nodes_at}
use Rattle.renderer_rules.specs.Page.{text_bytes, row_text}
use Rattle.widths.specs.Widths.{text_width}
use Rattle.widths.specs.Editions.{rule_width}
use Rattle.widths.specs.declared.Edition.{Edition}
use Rattle.node_widths.specs.Summed.{summed_all}
use Rattle.node_widths.specs.Measured.{measured_all}

-- "a text is the sum", by an edition
abbrev pub columns_in : Edition → List ℕ → List ℕ → Text → ℕ
columns_in e source image t = text_width (rule_width e) (text_bytes source image t)

-- n rows from row i on, one after the other; and the same from the last of them to the first
unfoldable pub pass : (List ℕ → ℕ → List ℕ) → ℕ → List ℕ → ℕ → List ℕ
pass step zero s i = s
pass step (suc n) s i = pass step n (step s i) (suc i)

unfoldable pub pass_back : (List ℕ → ℕ → List ℕ) → ℕ → List ℕ → ℕ → List ℕ
pass_back step zero s i = s
pass_back step (suc n) s i = step (pass_back step n s (suc i)) i

-- "Layout writes the sum in `Str` rows": row i, if it is one, has what f gives for its width and its text
unfoldable pub row_summed : (ℕ → Text → ℕ) → List ℕ → ℕ → List ℕ
row_summed f s i = cond (eqb (cell s i KIND) STR) (set s (i * PLACES + WIDTH) (f (cell s i WIDTH) (row_text s i))) s

-- a sum is what it is whatever the width was
abbrev pub any_width : (Text → ℕ) → ℕ → Text → ℕ
any_width f w t = f t

-- what the number place of a turned row has
abbrev pub TURNED : ℕ
TURNED = 1

-- "rendering measures `Ascii` text by the rule too": row i, if it is an `Ascii`, becomes a `Str` of what f gives, marked in its number place
unfoldable pub row_turned : (Text → ℕ) → List ℕ → ℕ → List ℕ
row_turned f s i =
    cond (eqb (cell s i KIND) ASCII)
    (set (set (set s (i * PLACES + KIND) STR) (i * PLACES + NUMBER) TURNED) (i * PLACES + WIDTH) (f (row_text s i)))
    s

-- and back: row i, if it is a `Str` so marked, becomes an `Ascii`
unfoldable pub row_back : List ℕ → ℕ → List ℕ
row_back s i =
    cond (eqb (cell s i KIND) STR && eqb (cell s i NUMBER) TURNED)
    (set (set (set s (i * PLACES + KIND) ASCII) (i * PLACES + NUMBER) 0) (i * PLACES + WIDTH) 0)
    s

-- text rows as 11 leaves them: an `Ascii` has 0 for number and width, a `Str` 0 for its number
pub record Unturned (s : List ℕ) (from to : ℕ) : Type 0 where
  pub number : (i : ℕ) → from ≤ i → i < to → cell s i KIND ≡ ASCII → cell s i NUMBER ≡ 0
  pub width : (i : ℕ) → from ≤ i → i < to → cell s i KIND ≡ ASCII → cell s i WIDTH ≡ 0
  pub unmarked : (i : ℕ) → from ≤ i → i < to → cell s i KIND ≡ STR → cell s i NUMBER ≡ 0

-- ---- what the passes are for
-- rows that were laid are, summed, the rows of the nodes with sums; the rest of the store is untouched
abbrev pub SummedRows : Type 0
SummedRows =
    (f : ℕ → Text → ℕ) (ns : Nodes) (s : List ℕ) (r : ℕ) → (r + sizes ns) * PLACES ≤ length s
    → pass (row_summed f) (sizes ns) (sets s (PLACES * r) (rows ns r)) r ≡ sets s (PLACES * r) (rows (summed_all f ns) r)

-- turned rows are the nodes with each `Ascii` measured
abbrev pub TurnedRows : Type 0
TurnedRows =
    (f : Text → ℕ) (s : List ℕ) (i n : ℕ) → (i + n) * PLACES ≤ length s
    → nodes_at (view_of (pass (row_turned f) n s i)) i (i + n) ≡ measured_all f (nodes_at (view_of s) i (i + n))

-- rows turned and turned back are as they were
abbrev pub TurnedBack : Type 0
TurnedBack =
    (f : Text → ℕ) (s : List ℕ) (i n : ℕ) → (i + n) * PLACES ≤ length s → Unturned s i (i + n)
    → pass_back row_back n (pass (row_turned f) n s i) i ≡ s
