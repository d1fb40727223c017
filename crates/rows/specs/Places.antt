-- The places of a row, in document 01's order: kind, number, second number, first row of the second part, row after the last
-- descendant, text origin, text start, text length, width.
use Rattle.std.specs.Prelude.{ℕ, ◌+◌, ◌*◌, ◌<◌, List, length}

abbrev pub KIND : ℕ
KIND = 0

abbrev pub NUMBER : ℕ
NUMBER = 1

abbrev pub SECOND_NUMBER : ℕ
SECOND_NUMBER = 2

abbrev pub SECOND : ℕ
SECOND = 3

abbrev pub AFTER : ℕ
AFTER = 4

abbrev pub ORIGIN : ℕ
ORIGIN = 5

abbrev pub START : ℕ
START = 6

abbrev pub SIZE : ℕ
SIZE = 7

abbrev pub WIDTH : ℕ
WIDTH = 8

-- how many they are
abbrev pub PLACES : ℕ
PLACES = 9

-- place k of row i is in a store; and each place of it
abbrev pub PlaceIn : List ℕ → ℕ → ℕ → Type 0
PlaceIn store i k = i * PLACES + k < length store

abbrev pub RowIn : List ℕ → ℕ → Type 0
RowIn store i = PlaceIn store i WIDTH
