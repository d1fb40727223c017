-- Well-formed UTF-8, after the Unicode Standard, section 3.9. A text is a list of bytes, and a place in it counts bytes from its start.
-- A byte past the end reads as 0, which continues no sequence.
use Rattle.std.specs.Prelude.{ℕ, zero, suc, ◌+◌, ◌*◌, ◌-◌, ◌/◌, ◌%◌, List, [], ◌∷◌, Bool, cond}
use Rattle.std.specs.Prelude.{not, ◌&&◌, ◌||◌, length, get_or, ltb, leb, eqb, Option, None, Some}
use Rattle.refusals.specs.Refusals.{Refusal, refuse_if}
use Rattle.text.specs.declared.utf8.Char.{Char}

-- x is one of low to high
unfoldable pub within : ℕ → ℕ → ℕ → Bool
within low high x = leb low x && leb x high

-- A row of table 3-7: the first byte's range, the second byte's range, and the number of bytes. A third and a fourth byte are 80 to BF.
pub record Row : Type 0 where
  pub first_low : ℕ
  pub first_high : ℕ
  pub second_low : ℕ
  pub second_high : ℕ
  pub bytes : ℕ

abbrev pub row : ℕ → ℕ → ℕ → ℕ → ℕ → Row
row a b c d n = record { first_low = a; first_high = b; second_low = c; second_high = d; bytes = n }

-- Table 3-7, "Well-Formed UTF-8 Byte Sequences". Its first row has one byte, and the range of a second is not looked at.
abbrev pub table37 : List Row
table37 =
    row 0x00 0x7F 0x00 0x00 1 ∷
    row 0xC2 0xDF 0x80 0xBF 2 ∷
    row 0xE0 0xE0 0xA0 0xBF 3 ∷
    row 0xE1 0xEC 0x80 0xBF 3 ∷
    row 0xED 0xED 0x80 0x9F 3 ∷
    row 0xEE 0xEF 0x80 0xBF 3 ∷
    row 0xF0 0xF0 0x90 0xBF 4 ∷
    row 0xF1 0xF3 0x80 0xBF 4 ∷
    row 0xF4 0xF4 0x80 0x8F 4 ∷
    []

-- The row for a first byte; where there is none, one of 0 bytes.
unfoldable pub row_in : List Row → ℕ → Row
row_in [] b = row 0 0 0 0 0
row_in (r ∷ rs) b = cond (within r.first_low r.first_high b) r (row_in rs b)

abbrev pub row_of : ℕ → Row
row_of = row_in table37

-- a byte that continues a sequence and starts none
abbrev pub continues : ℕ → Bool
continues = within 0x80 0xBF

-- The bytes after the one at `at` are as the row says.
unfoldable pub followed : List ℕ → ℕ → Row → Bool
followed s at r =
    (leb r.bytes 1 || within r.second_low r.second_high (get_or s (at + 1) 0))
    && (leb r.bytes 2 || continues (get_or s (at + 2) 0))
    && (leb r.bytes 3 || continues (get_or s (at + 3) 0))

-- How many bytes the well-formed sequence that starts at `at` has; 0 where none starts there.
unfoldable pub sequence : List ℕ → ℕ → ℕ
sequence s at = cond (ltb at (length s) && followed s at (row_of (get_or s at 0))) (row_of (get_or s at 0)).bytes 0

-- The end of the sequences that follow one another from `at` on, n of them at most.
unfoldable pub run : ℕ → List ℕ → ℕ → ℕ
run zero s at = at
run (suc n) s at = cond (eqb (sequence s at) 0) at (run n s (at + sequence s at))

-- The length of the longest well-formed prefix: where the first bad sequence starts, if there is one. (A sequence has a byte at least, so
-- a text has no more of them than bytes.)
unfoldable pub prefix : List ℕ → ℕ
prefix s = run (length s) s 0

unfoldable pub well_formed : List ℕ → Bool
well_formed s = eqb (prefix s) (length s)

-- refusal 2: "source not well-formed UTF-8", at the "first byte of the bad sequence"
unfoldable pub ill_formed : List ℕ → Option Refusal
ill_formed s = refuse_if (not (well_formed s)) 2 (prefix s)

-- A character boundary: the end of the text, or a byte that starts a sequence.
unfoldable pub boundary : List ℕ → ℕ → Bool
boundary s at = leb at (length s) && not (continues (get_or s at 0))

-- a character of s starts k bytes before `at` and ends behind it
abbrev pub reaches_over : List ℕ → ℕ → ℕ → Bool
reaches_over s at k = leb k at && ltb k (sequence s (at - k))

-- A text that starts or ends at `at` cuts a character of s. (A character has four bytes at most.)
unfoldable pub cuts : List ℕ → ℕ → Bool
cuts s at = reaches_over s at 1 || reaches_over s at 2 || reaches_over s at 3

-- The code point that a sequence of n bytes at `at` stands for: table 3-6, "UTF-8 Bit Distribution".
unfoldable pub scalar : List ℕ → ℕ → ℕ → ℕ
scalar s at n =
    cond (leb n 1) (get_or s at 0)
    (cond (eqb n 2) (get_or s at 0 % 32 * 64 + get_or s (at + 1) 0 % 64)
    (cond (eqb n 3) (get_or s at 0 % 16 * 4096 + get_or s (at + 1) 0 % 64 * 64 + get_or s (at + 2) 0 % 64)
    (get_or s at 0 % 8 * 262144 + get_or s (at + 1) 0 % 64 * 4096 + get_or s (at + 2) 0 % 64 * 64 + get_or s (at + 3) 0 % 64)))

-- a sequence of n bytes at `at` as a character: its code point and how many bytes it has; none where n is 0
unfoldable pub decoded : List ℕ → ℕ → ℕ → Option Char
decoded s at n = cond (eqb n 0) None (Some (record { code = scalar s at n; bytes = n }))

-- the character that starts at `at`
unfoldable pub char_at : List ℕ → ℕ → Option Char
char_at s at = decoded s at (sequence s at)

-- a sequence of k bytes ends at `to` and starts at `from` or after it
unfoldable pub ends : List ℕ → ℕ → ℕ → ℕ → Bool
ends s from to k = leb (from + k) to && eqb (sequence s (to - k)) k

-- how many bytes the sequence that ends at `to` has, 0 where none ends there or it starts before `from`
unfoldable pub ending : List ℕ → ℕ → ℕ → ℕ
ending s from to =
    cond (ends s from to 1) 1 (cond (ends s from to 2) 2 (cond (ends s from to 3) 3 (cond (ends s from to 4) 4 0)))

-- the last character of the range from `from` to `to`
unfoldable pub char_before : List ℕ → ℕ → ℕ → Option Char
char_before s from to = decoded s (to - ending s from to) (ending s from to)

-- ---- How the code checks a text: no rule rests on what follows.
-- how many bytes there are, where there are any
abbrev pub some_bytes : ℕ → Option ℕ
some_bytes n = cond (eqb n 0) None (Some n)

-- How many of the n bytes from `at` on are 0x80 or above; where none is, each is a sequence by itself.
unfoldable pub highs : ℕ → List ℕ → ℕ → ℕ
highs zero s at = 0
highs (suc n) s at = highs n s at + get_or s (at + n) 0 / 0x80

-- there are n bytes from `at` on, and none of them is 0x80 or above
abbrev pub plain : ℕ → List ℕ → ℕ → Bool
plain n s at = leb (at + n) (length s) && eqb (highs n s at) 0

-- how far a check goes on from `at`: over sixteen bytes below 0x80, which are looked for at each sixteenth byte, or over one sequence
unfoldable pub stride : List ℕ → ℕ → ℕ
stride s at = cond (eqb (at % 16) 0 && plain 16 s at) 16 (sequence s at)
