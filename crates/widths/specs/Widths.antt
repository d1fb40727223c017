-- Request 8, "Widths of our own": the rule of a code point and of a text, and what a range table says.
use Rattle.std.specs.Prelude.{◌≡◌, ℕ, zero, suc, ◌+◌, ◌≤◌, ◌<◌, List, [], ◌∷◌, Bool, true, cond, ◌&&◌, length, get_or, leb, None, Some}
use Rattle.text.specs.Utf8.{within, char_at}
use Rattle.text.specs.Space.{Range, one_of}
use Rattle.widths.specs.declared.lookup.Entry.{Entry}

-- "a code point counts 2 if East_Asian_Width is W or F, otherwise 0 if General_Category is Mn or Me, otherwise 1": `wide` has the code points
-- of the first, `marks` those of the second
unfoldable pub code_width : List Range → List Range → ℕ → ℕ
code_width wide marks c = cond (one_of wide c) 2 (cond (one_of marks c) 0 1)

-- the first and the last code point of a range of a table, and the width of each
abbrev pub first : Entry → ℕ
first e = e.0

abbrev pub last : Entry → ℕ
last e = e.1

abbrev pub width : Entry → ℕ
width e = e.2

-- "ascending and without overlap", from n on, and no range is reversed
unfoldable pub ascends : ℕ → List Entry → Bool
ascends n [] = true
ascends n (e ∷ es) = leb n (first e) && leb (first e) (last e) && ascends (suc (last e)) es

abbrev pub ordered : List Entry → Bool
ordered = ascends 0

-- what a table says of a code point: the width of the range that has it, 1 where none does
unfoldable pub table_width : List Entry → ℕ → ℕ
table_width [] c = 1
table_width (e ∷ es) c = cond (within (first e) (last e) c) (width e) (table_width es c)

-- the code points of the characters from `at` on, n of them at most
unfoldable pub codes_from : ℕ → List ℕ → ℕ → List ℕ
codes_from zero s at = []
codes_from (suc n) s at = elim (char_at s at) [ None ↦ [] | Some c ↦ c.code ∷ codes_from n s (at + c.bytes) ]

-- the code points of a text (which has no more characters than bytes); of one that isn't well-formed, those before its first bad sequence
unfoldable pub codes : List ℕ → List ℕ
codes s = codes_from (length s) s 0

-- "a text is the sum", with the width of each code point
unfoldable pub sum : (ℕ → ℕ) → List ℕ → ℕ
sum w [] = 0
sum w (c ∷ cs) = w c + sum w cs

abbrev pub text_width : (ℕ → ℕ) → List ℕ → ℕ
text_width w s = sum w (codes s)

-- ---- How the code sums: no rule rests on what follows.
-- no range of the two editions starts before U+0300
abbrev pub FIRST_RANGE : ℕ
FIRST_RANGE = 0x0300

-- a table by which no character takes more columns than bytes: no range has a code point of one byte, or any below U+0300, and no width is over 2
unfoldable pub narrow : List Entry → Bool
narrow [] = true
narrow (e ∷ es) = leb FIRST_RANGE (first e) && leb (width e) 2 && narrow es

-- a table that texts may be measured by
pub record Usable (table : List Entry) : Type 0 where
  pub order : ordered table ≡ true
  pub small : narrow table ≡ true

-- each byte before `end` is a character by itself
pub record Plain (s : List ℕ) (end : ℕ) : Type 0 where
  pub inside : end ≤ length s
  pub low : (k : ℕ) → k < end → get_or s k 0 < 0x80
