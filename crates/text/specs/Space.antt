-- White_Space, trimming at the end, and the search of `pop_trailing_comment`.
use Rattle.std.specs.Prelude.{ℕ, zero, suc, ◌+◌, ◌-◌, List, [], ◌∷◌, Bool, false, cond, not, ◌&&◌, ◌||◌, length, eqb, Option}
use Rattle.std.specs.Prelude.{None, Some}
use Rattle.text.specs.Utf8.{within, char_at, char_before}

-- first and last code point of a range
pub record Range : Type 0 where
  pub low : ℕ
  pub high : ℕ

abbrev pub range : ℕ → ℕ → Range
range a b = record { low = a; high = b }

-- The code points with the property White_Space, in the order of document 01.
abbrev pub white_space : List Range
white_space =
    range 0x0009 0x000D ∷
    range 0x0020 0x0020 ∷
    range 0x0085 0x0085 ∷
    range 0x00A0 0x00A0 ∷
    range 0x1680 0x1680 ∷
    range 0x2000 0x200A ∷
    range 0x2028 0x2028 ∷
    range 0x2029 0x2029 ∷
    range 0x202F 0x202F ∷
    range 0x205F 0x205F ∷
    range 0x3000 0x3000 ∷
    []

unfoldable pub one_of : List Range → ℕ → Bool
one_of [] x = false
one_of (r ∷ rs) x = within r.low r.high x || one_of rs x

abbrev pub is_white : ℕ → Bool
is_white = one_of white_space

-- The range's end without the white space before it, n characters at most.
unfoldable pub trim : ℕ → List ℕ → ℕ → ℕ → ℕ
trim zero s from to = to
trim (suc n) s from to = elim (char_before s from to) [ None ↦ to | Some c ↦ cond (is_white c.code) (trim n s from (to - c.bytes)) to ]

-- `trim_end`: the end of the range from `from` to `to` without the white space at its end. (A range has no more characters than bytes.)
unfoldable pub trim_end : List ℕ → ℕ → ℕ → ℕ
trim_end s from to = trim (to - from) s from to

-- white space other than the newline, which ends the search
abbrev pub is_passed : ℕ → Bool
is_passed c = is_white c && not (eqb c 0x0A)

-- The place of the first character from `at` on that is not passed; at most n are passed.
unfoldable pub seek : ℕ → List ℕ → ℕ → Option ℕ
seek zero s at = None
seek (suc n) s at = elim (char_at s at) [ None ↦ None | Some c ↦ cond (is_passed c.code) (seek n s (at + c.bytes)) (Some at) ]

-- The search of `pop_trailing_comment`: the first place from `at` on that is not white space or is a newline.
unfoldable pub something : List ℕ → ℕ → Option ℕ
something s at = seek (length s) s at
