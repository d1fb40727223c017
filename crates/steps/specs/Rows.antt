-- How many children a row of the grammar lets be absent, which bounds what a list of steps writes.
use Rattle.std.specs.Prelude.{Bool, not, ◌&&◌, ℕ, zero, suc, ◌/◌, eqb}
use Rattle.image.specs.Grammar.{is_optional, is_many, place}

-- n places at most, and no place that is marked `?` is marked `*`
abbrev pub short : ℕ → ℕ → Bool
short zero row = eqb row 0
short (suc n) row = not (is_many row && is_optional (place row)) && short n (row / 65536)
