-- Both moves in one: what is read, what is at fault, what is written.
use Rattle.std.specs.Prelude.{Bool, false, List, ℕ, eqb}
use Rattle.image.specs.Kinds.{TREE}
use Rattle.image.specs.Write.{Plain, Plains, without, plainly, done, ◌next◌}
use Rattle.tree.specs.Contents.{Contents, image_of}
use Rattle.moves.specs.Moves.{narrower, wider, is_wrong, is_wide}
use Rattle.moves.specs.declared.way.Way.{Way}
use Rattle.moves.specs.declared.way.Way.TheVariants as way

-- the version that is read, and the one that is written
abbrev pub version_from : Way → ℕ
version_from way.Forward = 1
version_from way.Back = 2

abbrev pub version_to : Way → ℕ
version_to way.Forward = 2
version_to way.Back = 1

-- how many bytes a text's width has in what is read
abbrev pub stored_bytes : Way → ℕ
stored_bytes way.Forward = 2
stored_bytes way.Back = 0

-- the test of 21
abbrev pub is_faulty : Way → Bool → List ℕ → Bool
is_faulty way.Forward = is_wrong
is_faulty way.Back = is_wide

-- a payload, moved
abbrev pub payload_due : Way → Bool → ℕ → List ℕ → List ℕ
payload_due way.Forward shebang kind x = narrower kind x
payload_due way.Back shebang kind x = wider shebang kind x

-- a tree and trees, moved
unfoldable mutual
  pub turned : Way → Bool → Plain → Plain
  turned w shebang without = without
  turned w shebang (plainly kind from to x xs) = plainly kind from to (payload_due w shebang kind x) (turned_all w (eqb kind TREE) xs)

  pub turned_all : Way → Bool → Plains → Plains
  turned_all w shebang done = done
  turned_all w shebang (x next xs) = turned w shebang x next turned_all w false xs

-- an image, moved
abbrev pub image_due : Way → Contents → List ℕ
image_due w c = image_of (version_to w) (record { comments = c.comments; tree = turned w false c.tree })
