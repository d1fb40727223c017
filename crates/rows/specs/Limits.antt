-- The limits of rows.
use Rattle.std.specs.Prelude.{ℕ}

-- "rendered rows 2,097,152 and 256 deep"
abbrev pub MAX_ROWS : ℕ
MAX_ROWS = 2097152

abbrev pub MAX_DEPTH : ℕ
MAX_DEPTH = 256

-- refusal 12: "next number over 1,048,576"
abbrev pub MAX_NUMBER : ℕ
MAX_NUMBER = 1048576

-- 2 ^ 32: what each place of a row is below
abbrev pub CELL_LIMIT : ℕ
CELL_LIMIT = 4294967296
