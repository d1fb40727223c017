-- Document 02, 9/14, "Image version 2": "version 2 is version 1 without the two width bytes of each text". The move forward drops them, the move
-- back writes those that are due; each over an image and its source.
use Rattle.std.specs.Prelude.{Bool, false, cond, not, ◌&&◌, ◌||◌, List, [], ◌∷◌, ◌++◌, ℕ, ◌+◌, eqb, ltb, length, take, drop, Option, None, Some}
use Rattle.refusals.specs.Refusals.{Refusal, first, refuse_if, refuse_at}
use Rattle.text.specs.Space.{trim_end}
use Rattle.widths.specs.Widths.{text_width}
use Rattle.widths.specs.Editions.{rule_width}
use Rattle.widths.specs.declared.Edition.TheVariants.{Unicode160}
use Rattle.image.specs.Bytes.{be16, part}
use Rattle.image.specs.Kinds.{TREE, TEXT}
use Rattle.image.specs.Limits.{MAX_BODY}
use Rattle.image.specs.Read.{Tree, Trees, absent, node, nil, ◌▸◌, Image, Read, got, bad, read_version, read_refusal}
use Rattle.image.specs.Write.{Plain, Plains, without, plainly, done, ◌next◌, bytes2}
use Rattle.tree.specs.Contents.{Contents, image_of, contents_of}

-- "what 16.0 gives (for the shebang, of its trimmed text)"
unfoldable pub due_width : Bool → List ℕ → ℕ
due_width shebang t = text_width (rule_width Unicode160) (cond shebang (take (trim_end t 0 (length t)) t) t)

-- ---- trees
-- a payload without a text's width
abbrev pub narrower : ℕ → List ℕ → List ℕ
narrower kind x = cond (eqb kind TEXT) (drop 2 x) x

-- a tree without its widths
unfoldable mutual
  pub dropped : Plain → Plain
  dropped without = without
  dropped (plainly kind from to x xs) = plainly kind from to (narrower kind x) (dropped_all xs)

  pub dropped_all : Plains → Plains
  dropped_all done = done
  dropped_all (x next xs) = dropped x next dropped_all xs

-- a payload with the width that is due to a text
abbrev pub wider : Bool → ℕ → List ℕ → List ℕ
wider shebang kind x = cond (eqb kind TEXT) (bytes2 (due_width shebang x) ++ x) x

-- a tree with the widths that are due; the tree's first child is the shebang
unfoldable mutual
  pub widened : Bool → Plain → Plain
  widened shebang without = without
  widened shebang (plainly kind from to x xs) = plainly kind from to (wider shebang kind x) (widened_all (eqb kind TREE) xs)

  pub widened_all : Bool → Plains → Plains
  widened_all shebang done = done
  widened_all shebang (x next xs) = widened shebang x next widened_all false xs

-- ---- images
abbrev pub forward_of : Contents → List ℕ
forward_of c = image_of 2 (record { comments = c.comments; tree = dropped c.tree })

abbrev pub back_of : Contents → List ℕ
back_of c = image_of 1 (record { comments = c.comments; tree = widened false c.tree })

-- what was read, moved; of an image that is refused nothing is written
abbrev pub moved : (Contents → List ℕ) → List ℕ → Read Image → List ℕ
moved f b (got i end) = f (contents_of b i)
moved f b (bad n p) = []

-- "A move from the wrong version refuses with 3"; comments "by the earlier rule", and "so do the moves of version 2"
abbrev pub read_forward : List ℕ → List ℕ → Read Image
read_forward = read_version 1 false

abbrev pub read_back : List ℕ → List ℕ → Read Image
read_back = read_version 2 false

abbrev pub forward_image : List ℕ → List ℕ → List ℕ
forward_image s b = moved forward_of b (read_forward s b)

abbrev pub back_image : List ℕ → List ℕ → List ℕ
back_image s b = moved back_of b (read_back s b)

-- ---- refusal 21
-- the offsets of the text records of whose payload a test holds, in reading order
unfoldable mutual
  pub texts_where : (Bool → List ℕ → Bool) → List ℕ → Bool → Tree → List ℕ
  texts_where test b shebang absent = []
  texts_where test b shebang (node h ts) =
      cond (eqb h.kind TEXT && test shebang (part (h.at + 13) h.first b)) (h.at ∷ []) [] ++ all_where test b (eqb h.kind TREE) ts

  pub all_where : (Bool → List ℕ → Bool) → List ℕ → Bool → Trees → List ℕ
  all_where test b shebang nil = []
  all_where test b shebang (t ▸ ts) = texts_where test b shebang t ++ all_where test b false ts

-- "the first stored width that 16.0 doesn't give": x is a width in two bytes, and its text
abbrev pub is_wrong : Bool → List ℕ → Bool
is_wrong shebang x = not (eqb (be16 x 0) (due_width shebang (drop 2 x)))

-- "or, going back, one over 65,535"
abbrev pub is_wide : Bool → List ℕ → Bool
is_wide shebang x = ltb 65535 (due_width shebang x)

abbrev pub first_where : (Bool → List ℕ → Bool) → List ℕ → Read Image → List ℕ
first_where test b (got i end) = texts_where test b false i.tree
first_where test b (bad n p) = []

abbrev pub head_of : List ℕ → Option ℕ
head_of [] = None
head_of (x ∷ xs) = Some x

-- ---- the moves
-- 1, 2, 3, 7, 4, 5, 6; "21 .. with its text record's offset, after 6; then 17 for room or, going back, a body over 01's size"
abbrev pub forward_refusal : List ℕ → List ℕ → ℕ → Option Refusal
forward_refusal s b room =
    first
    (read_refusal (read_forward s b)
    ∷ refuse_at (head_of (first_where is_wrong b (read_forward s b))) 21
    ∷ refuse_if (ltb room (length (forward_image s b))) 17 (length (forward_image s b))
    ∷ [])

abbrev pub back_refusal : List ℕ → List ℕ → ℕ → Option Refusal
back_refusal s b room =
    first
    (read_refusal (read_back s b)
    ∷ refuse_at (head_of (first_where is_wide b (read_back s b))) 21
    ∷ refuse_if (ltb (5 + MAX_BODY) (length (back_image s b)) || ltb room (length (back_image s b))) 17 (length (back_image s b))
    ∷ [])
