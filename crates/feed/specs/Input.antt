-- The input of the report, as docs/REPORT.md has it: "Files one after another, each a frame: two four-byte lengths, big-endian, of source and image;
-- the source; the image." What bytes are read no contract can say; what is promised is how many of them are taken.
use Rattle.std.specs.Prelude.{◌≡◌, cond, List, ℕ, ◌+◌, ◌≤◌, ◌<◌, eqb, ltb, Option, None, Some, Result, Ok, Err}
use Rattle.image.specs.Bytes.{be32}
use Rattle.feed.specs.declared.Cut.{Cut}

-- "two four-byte lengths"
abbrev pub LENGTHS : ℕ
LENGTHS = 8

abbrev pub source_length : List ℕ → ℕ
source_length lengths = be32 lengths 0

abbrev pub image_length : List ℕ → ℕ
image_length lengths = be32 lengths 4

-- the bytes of a whole frame
abbrev pub frame_size : List ℕ → ℕ
frame_size lengths = LENGTHS + source_length lengths + image_length lengths

-- how many bytes came of a part
abbrev pub came : Result ℕ Cut → ℕ
came (Ok bytes) = bytes
came (Err cut) = cut.bytes

-- a part, together with the bytes before it
abbrev pub after : ℕ → Result ℕ Cut → Result ℕ Cut
after before (Ok bytes) = Ok (before + bytes)
after before (Err cut) = Err (record { bytes = before + cut.bytes })

-- Bytes that were asked for: all of them came, each taken, kept or not; or the input ended before.
abbrev pub Arrives : ℕ → Result ℕ Cut → Type 0
Arrives asked (Ok bytes) = bytes ≡ asked
Arrives asked (Err cut) = cut.bytes < asked

-- What came of a file, by the bytes that came of its frame: "An input without a byte has no file", and it may end "inside a frame, its lengths
-- included".
abbrev pub came_of : ℕ → ℕ → Result (Option ℕ) Cut
came_of size bytes = cond (eqb bytes 0) (Ok None) (cond (ltb bytes size) (Err (record { bytes = bytes })) (Ok (Some bytes)))

-- a frame was read, with the lengths that it has
pub record ReadsFile (lengths : List ℕ) (r : Result (Option ℕ) Cut) : Type 0 where
  pub bytes : ℕ
  pub within : bytes ≤ frame_size lengths
  pub came : r ≡ came_of (frame_size lengths) bytes
