-- What layout is given by a source and an image, and what it may rely on of the comments of an accepted image.
use Rattle.std.specs.Prelude.{ℕ, ◌+◌, ◌*◌, ◌≤◌, ◌<◌, ◌≡◌, true, List, length, Option, None, Some}
use Rattle.text.specs.Newlines.{is_range}
use Rattle.image.specs.Limits.{MAX_COMMENTS}
use Rattle.image.specs.Bytes.{be16, be32}
use Rattle.ast.specs.Syntax.{Span}
use Rattle.tree.specs.CommentList.{comments_of}
use Rattle.acts.specs.Act.{Given}
use Rattle.comments.specs.declared.Waiting.{Waiting}

-- what layout is given by a source and an image: an identifier measures the width that the image supplies
abbrev pub given : List ℕ → List ℕ → Given
given s b = record { source = s; image = b; comments = comments_of b; columns = λ width text. width }

-- the comment list lies within the image
abbrev pub ListFits : List ℕ → Type 0
ListFits b = 7 + 8 * be16 b 5 ≤ length b

-- the comment list of an accepted image: 8,192 at most, within the image, each not empty and a range of the source
pub record Listed (s b : List ℕ) : Type 0 where
  pub few : be16 b 5 ≤ MAX_COMMENTS
  pub within : ListFits b
  pub order : (k : ℕ) → k < be16 b 5 → be32 b (7 + 8 * k) < be32 b (7 + 8 * k + 4)
  pub range : (k : ℕ) → k < be16 b 5 → is_range s (be32 b (7 + 8 * k)) (be32 b (7 + 8 * k + 4)) ≡ true

-- what `front` returns for each comment, and for none
abbrev pub pending_of : Option Span → Option Waiting
pending_of None = None
pending_of (Some p) = Some (record { start = p.start; end = p.end })
