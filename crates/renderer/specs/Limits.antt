-- Limits that keep the sums of a rendering in range.
use Rattle.std.specs.Prelude.{ℕ}

-- `START_MARGIN`, and a step for each of `MAX_DEPTH` open rows
abbrev pub MAX_MARGIN : ℕ
MAX_MARGIN = 1024

-- 2 ^ 60 and 2 ^ 61: what column and bytes are below where a row is entered, and inside it
abbrev pub BEFORE_ROW : ℕ
BEFORE_ROW = 1152921504606846976

abbrev pub IN_ROW : ℕ
IN_ROW = 2305843009213693952

-- 2 ^ 55: what a width that is measured as far as there is room is below
abbrev pub MEASURED_LIMIT : ℕ
MEASURED_LIMIT = 36028797018963968
