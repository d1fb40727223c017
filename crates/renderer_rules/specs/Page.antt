-- The page of a rendering: its width, and the bytes and the width of each text that a row refers to.
use Rattle.std.specs.Prelude.{ℕ, List, take, drop}
use Rattle.rows.specs.Node.{Text, byte_columns}
use Rattle.rows.specs.Places.{ORIGIN, START, SIZE}
use Rattle.rows.specs.Texts.{origin_text}
use Rattle.rows.specs.View.{cell}
use Rattle.renderer_rules.specs.Renderer.{Page}

-- the bytes of a row's text
unfoldable pub text_bytes : List ℕ → List ℕ → Text → List ℕ
text_bytes source image t = take t.size (drop t.start (origin_text source image t.origin))

-- a page that measures `Ascii` texts by a function
abbrev pub page_with : ℕ → (Text → ℕ) → List ℕ → List ℕ → Page
page_with max columns source image = record { max = max; columns = columns; bytes = text_bytes source image }

-- an `Ascii` text counts bytes
abbrev pub page_of : ℕ → List ℕ → List ℕ → Page
page_of max = page_with max byte_columns

-- a text by its three numbers
abbrev pub text_of : ℕ → ℕ → ℕ → Text
text_of origin start size = record { origin = origin; start = start; size = size }

-- the text of a row, and its bytes
abbrev pub row_text : List ℕ → ℕ → Text
row_text store row = text_of (cell store row ORIGIN) (cell store row START) (cell store row SIZE)

abbrev pub row_bytes : List ℕ → List ℕ → List ℕ → ℕ → List ℕ
row_bytes source image store row = text_bytes source image (row_text store row)
