-- What a caller may choose: widths, and the one that is the reference, the `max` of `Renderer` in the Rust (request 3); rules of width (request 8).
use Rattle.std.specs.Prelude.{ℕ}

abbrev pub MIN_WIDTH : ℕ
MIN_WIDTH = 40

abbrev pub MAX_WIDTH : ℕ
MAX_WIDTH = 200

abbrev pub REFERENCE_WIDTH : ℕ
REFERENCE_WIDTH = 80

-- rows that a rendering state lists: "at most 256" (document 02, 12)
abbrev pub MAX_LISTED : ℕ
MAX_LISTED = 256

-- the largest allotment that a call can be given: more rows than are ever rendered
abbrev pub MAX_ALLOTMENT : ℕ
MAX_ALLOTMENT = 18446744073709551615

-- "1 supplied, 2 for 15.1, 3 for 16.0"
abbrev pub MIN_RULE : ℕ
MIN_RULE = 1

abbrev pub MAX_RULE : ℕ
MAX_RULE = 3
