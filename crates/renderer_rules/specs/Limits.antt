-- The limits of a rendering's numbers.
use Rattle.std.specs.Prelude.{ℕ}

-- refusal 12: "`indent` or `next_indent` over 64; column over 72,057,594,037,927,936", and "the bounds on `indent` and `next_indent` under 12 become
-- 384" (document 02, 12)
abbrev pub MAX_INDENT : ℕ
MAX_INDENT = 384

abbrev pub MAX_COLUMN : ℕ
MAX_COLUMN = 72057594037927936

-- what `indent` and `next_indent` of a state are together at most
abbrev pub START_MARGIN : ℕ
START_MARGIN = 768

-- 2 ^ 34: what a row adds at most to the column, and to the bytes
abbrev pub ROW_GROWTH : ℕ
ROW_GROWTH = 17179869184
