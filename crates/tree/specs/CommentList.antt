-- The comments of an image: each a span of the source.
use Rattle.std.specs.Prelude.{ℕ, zero, suc, ◌+◌, List, [], ◌∷◌}
use Rattle.image.specs.Bytes.{be16, be32}
use Rattle.ast.specs.Syntax.{Span}

abbrev pub span : ℕ → ℕ → Span
span from to = record { start = from; end = to }

-- start and end of a comment, four bytes each, at `at`
abbrev pub pair_at : List ℕ → ℕ → Span
pair_at b at = span (be32 b at) (be32 b (at + 4))

-- n of them, one after the other
unfoldable pub pairs_at : List ℕ → ℕ → ℕ → List Span
pairs_at b zero at = []
pairs_at b (suc n) at = pair_at b at ∷ pairs_at b n (at + 8)

-- the comments of an image: their number in two bytes after the version and the body's length, then the pairs
unfoldable pub comments_of : List ℕ → List Span
comments_of b = pairs_at b (be16 b 5) 7
