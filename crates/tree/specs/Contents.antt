-- What an image says, without offsets, and the image that says it: document 01, "The tree image".
use Rattle.std.specs.Prelude.{List, [], ◌∷◌, ◌++◌, ℕ, length}
use Rattle.image.specs.Read.{Image}
use Rattle.image.specs.Write.{Plain, bytes2, bytes4, framed, written, plain}
use Rattle.ast.specs.Syntax.{Span}
use Rattle.tree.specs.CommentList.{comments_of}

-- its comments and its tree, without offsets
pub record Contents : Type 0 where
  pub comments : List Span
  pub tree : Plain

-- "for each, start and end, four bytes each"
abbrev pub pair_bytes : List Span → List ℕ
pair_bytes [] = []
pair_bytes (c ∷ cs) = bytes4 c.start ++ bytes4 c.end ++ pair_bytes cs

-- "Body: two bytes, the number of comments; for each, start and end, four bytes each; one tree record."
abbrev pub body_of : Contents → List ℕ
body_of c = bytes2 (length c.comments) ++ (pair_bytes c.comments ++ written c.tree)

-- "One version byte 1; four bytes, the length of the body; the body.": of a version
abbrev pub image_of : ℕ → Contents → List ℕ
image_of version c = version ∷ framed (body_of c)

-- what was read of an image
abbrev pub contents_of : List ℕ → Image → Contents
contents_of b i = record { comments = comments_of b; tree = plain b i.tree }
