-- Answers that are read from a place on.
use Rattle.std.specs.Prelude.{ℕ, ◌+◌, ◌≡◌, min, length, List, slice_range}
use Rattle.stored_answers.specs.Numbers.{onward, long}
use Rattle.stored_answers.specs.declared.numbers.Reader.{Reader}

abbrev pub moved : Reader → ℕ → Reader
moved r n = record r { place = onward r.place n }

-- where the next bytes start and where n of them end, or the answers
abbrev pub start_of : Reader → ℕ
start_of r = min r.place (length r.answers.now)

abbrev pub end_of : Reader → ℕ → ℕ
end_of r n = min (start_of r + n) (length r.answers.now)

-- the bytes that a length of four bytes leads
abbrev pub IsBlock : Reader → List ℕ → Type 0
IsBlock r b =
    let from = moved r 4 in
    let size = long r.answers.now r.place in
    b ≡ slice_range r.answers.now (start_of from) (end_of from size)
