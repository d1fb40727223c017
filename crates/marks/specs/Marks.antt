-- Marks needed, and the marks that a dry run puts aside (refusals 9 and 10).
use Rattle.std.specs.Prelude.{ℕ, zero, suc, ◌+◌, ◌*◌, ◌/◌, ◌%◌, max, cond, ◌||◌, List, [], ◌∷◌, get_or, set, ltb, eqb}
use Rattle.rows.specs.Kinds.{GROUP, IF_WRAP, CALL}
use Rattle.rows.specs.Places.{KIND, NUMBER, SECOND_NUMBER, WIDTH, PLACES}
use Rattle.rows.specs.View.{cell}

-- how many marks row i needs: one more than the largest of its numbers, if its kind has any
abbrev pub row_marks : List ℕ → ℕ → ℕ
row_marks store i =
    cond (eqb (cell store i KIND) CALL)
    (1 + max (cell store i NUMBER) (cell store i SECOND_NUMBER))
    (cond (eqb (cell store i KIND) GROUP || eqb (cell store i KIND) IF_WRAP) (1 + cell store i NUMBER) 0)

-- how many the n rows from i on need
unfoldable pub marks_needed : ℕ → List ℕ → ℕ → ℕ
marks_needed zero store i = 0
marks_needed (suc n) store i = max (row_marks store i) (marks_needed n store (suc i))

-- a number that is not in use yet has its mark cleared
abbrev pub clear : ℕ → ℕ → List ℕ → List ℕ
clear used n marks = cond (ltb n used) marks (set marks n 0)

-- what is put aside, number after number, and what the marks then are
unfoldable pub saved : ℕ → List ℕ → List ℕ → List ℕ
saved used [] marks = []
saved used (n ∷ ns) marks = get_or marks n 0 ∷ saved used ns (clear used n marks)

unfoldable pub cleared_all : ℕ → List ℕ → List ℕ → List ℕ
cleared_all used [] marks = marks
cleared_all used (n ∷ ns) marks = cleared_all used ns (clear used n marks)

-- put back, the last number first
unfoldable pub restore : List ℕ → List ℕ → List ℕ → List ℕ
restore [] log marks = marks
restore (n ∷ ns) [] marks = marks
restore (n ∷ ns) (x ∷ log) marks = set (restore ns log marks) n x

-- n marks from number i on set to 0
unfoldable pub clear_from : ℕ → ℕ → List ℕ → List ℕ
clear_from zero i marks = marks
clear_from (suc n) i marks = clear_from n (suc i) (set marks i 0)

-- the numbers of row i: two of a `Call`, one of a `Group` or an `IfWrap`
abbrev pub numbers_of : List ℕ → ℕ → List ℕ
numbers_of store i =
    cond (eqb (cell store i KIND) CALL)
    (cell store i NUMBER ∷ cell store i SECOND_NUMBER ∷ [])
    (cond (eqb (cell store i KIND) GROUP || eqb (cell store i KIND) IF_WRAP) (cell store i NUMBER ∷ []) [])

-- the values of a byte
abbrev pub BYTE : ℕ
BYTE = 256

-- what a row keeps of the old marks of its numbers, the first in the low byte; and the marks read back
unfoldable pub packed_marks : List ℕ → ℕ
packed_marks [] = 0
packed_marks (x ∷ xs) = x + BYTE * packed_marks xs

abbrev pub unpacked_marks : ℕ → List ℕ
unpacked_marks x = x % BYTE ∷ x / BYTE % BYTE ∷ []

-- a store and the marks
pub record Held : Type 0 where
  pub rows : List ℕ
  pub marks : List ℕ

abbrev pub held : List ℕ → List ℕ → Held
held store marks = record { rows = store; marks = marks }

-- row i, with these numbers, has their old marks put aside in its width place, which it does not use
unfoldable pub row_aside : ℕ → List ℕ → Held → ℕ → Held
row_aside used [] h i = h
row_aside used (n ∷ ns) h i =
    held (set h.rows (i * PLACES + WIDTH) (packed_marks (saved used (n ∷ ns) h.marks))) (cleared_all used (n ∷ ns) h.marks)

-- the n rows from i on, the first row first
unfoldable pub put_aside : ℕ → ℕ → Held → ℕ → Held
put_aside zero used h i = h
put_aside (suc n) used h i = put_aside n used (row_aside used (numbers_of h.rows i) h i) (suc i)

-- row i, with these numbers, gives their old marks back
unfoldable pub row_back : List ℕ → Held → ℕ → Held
row_back [] h i = h
row_back (n ∷ ns) h i = held (set h.rows (i * PLACES + WIDTH) 0) (restore (n ∷ ns) (unpacked_marks (cell h.rows i WIDTH)) h.marks)

-- the n rows from i on, the last row first
unfoldable pub put_back : ℕ → Held → ℕ → Held
put_back zero h i = h
put_back (suc n) h i = row_back (numbers_of (put_back n h (suc i)).rows i) (put_back n h (suc i)) i
