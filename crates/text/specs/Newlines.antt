-- The newline count of document 01, module 1, which "also returns the place in the source of the last newline it counts, or the range's end if it
-- counts none" (request 1).
use Rattle.std.specs.Prelude.{ℕ, zero, suc, ◌+◌, ◌-◌, List, [], ◌∷◌, Bool, cond, ◌&&◌, length, get_or, leb, eqb}
use Rattle.text.specs.Utf8.{boundary}
use Rattle.text.specs.declared.newlines.Newlines.{Newlines}

-- the places of U+000A among the n bytes from `at` on
unfoldable pub newline_places : ℕ → List ℕ → ℕ → List ℕ
newline_places zero s at = []
newline_places (suc n) s at =
    let more = newline_places n s (at + 1) in
    cond (eqb (get_or s at 0) 0x0A) (at ∷ more) more

-- the last of a list, or `end` if it is empty
abbrev pub last_or : ℕ → List ℕ → ℕ
last_or end [] = end
last_or end (x ∷ xs) = last_or x xs

-- newlines at these places, in a range with this end: how many, and "the last .. or the range's end"
abbrev pub counted : ℕ → List ℕ → Newlines
counted end places = record { count = length places; place = last_or end places }

-- Rust's `s.get(from..to)` is there: the range is not reversed and its ends are boundaries
unfoldable pub is_range : List ℕ → ℕ → ℕ → Bool
is_range s from to = leb from to && boundary s from && boundary s to

-- `count_newlines`: none outside the text, reversed or off a boundary
unfoldable pub count_newlines : List ℕ → ℕ → ℕ → Newlines
count_newlines s from to = counted to (cond (is_range s from to) (newline_places (to - from) s from) [])
