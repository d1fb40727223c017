-- What the code of the moves goes by: a tree that stands in an image, and no text in it at fault.
use Rattle.std.specs.Prelude.{◌≡◌, Bool, true, false, List, [], ℕ, ◌+◌, ◌*◌, ◌≤◌, eqb, length, Option}
use Rattle.refusals.specs.Refusals.{refuse_at}
use Rattle.refusals.specs.Answers.{Answer, refused, answer_by}
use Rattle.image.specs.Bytes.{part}
use Rattle.image.specs.Kinds.{TEXT}
use Rattle.image.specs.Read.{stop_at, kind_at, Tree, Trees, Read, got, bad, Image, read_version}
use Rattle.image.specs.Standing.{Whole, Stands, Row}
use Rattle.image.specs.Write.{written, writtens, plain, plains}
use Rattle.tree.specs.Contents.{contents_of}
use Rattle.writer.specs.Stands.{Puts}
use Rattle.moves.specs.Moves.{texts_where, all_where, head_of}
use Rattle.moves.specs.Ways.{version_from, stored_bytes, is_faulty, turned, turned_all, image_due}
use Rattle.moves.specs.declared.way.Way.{Way}

-- ---- the first fault
-- a tree stands at `at`, and reaches to the image's end
pub record TreeAt (w : Way) (b : List ℕ) (at : ℕ) : Type 0 where
  pub tree : Tree
  pub stands : Stands b (stored_bytes w) tree at (length b)
  pub short : length b ≤ 1048581

abbrev pub FirstFault : Way → List ℕ → ℕ → Option ℕ → Type 0
FirstFault w b at r = (t : Tree) → Stands b (stored_bytes w) t at (length b) → r ≡ head_of (texts_where (is_faulty w) b false t)

-- ---- records
pub record WholeAt (b : List ℕ) (at : ℕ) : Type 0 where
  pub bytes : ℕ
  pub whole : Whole b bytes at
  pub short : length b ≤ 1048581

-- no sum wraps: what is put of a record has no more than twice its bytes
pub record HeadThere (w : Way) (shebang : Bool) (b : List ℕ) (at pos : ℕ) : Type 0 where
  pub whole : Whole b (stored_bytes w) at
  pub clear : eqb (kind_at b at) TEXT ≡ true → is_faulty w shebang (part (at + 13) (stop_at b at) b) ≡ false
  pub below : pos ≤ 2 * (at + 13)
  pub short : length b ≤ 1048581

pub record TreeThere (w : Way) (shebang : Bool) (b : List ℕ) (at pos : ℕ) : Type 0 where
  pub tree : Tree
  pub end : ℕ
  pub stands : Stands b (stored_bytes w) tree at end
  pub clear : texts_where (is_faulty w) b shebang tree ≡ []
  pub below : pos ≤ 2 * at
  pub short : length b ≤ 1048581

pub record RowThere (w : Way) (shebang : Bool) (b : List ℕ) (at stop pos : ℕ) : Type 0 where
  pub trees : Trees
  pub stands : Row b (stored_bytes w) trees at stop
  pub clear : all_where (is_faulty w) b shebang trees ≡ []
  pub inside : stop ≤ length b
  pub below : pos ≤ 2 * at
  pub short : length b ≤ 1048581

-- the bytes of a tree and of trees, moved
abbrev pub tree_bytes : Way → Bool → List ℕ → Tree → List ℕ
tree_bytes w shebang b t = written (turned w shebang (plain b t))

abbrev pub row_bytes : Way → Bool → List ℕ → Trees → List ℕ
row_bytes w shebang b ts = writtens (turned_all w shebang (plains b ts))

abbrev pub PutsTree : Way → Bool → List ℕ → ℕ → ℕ → List ℕ → ℕ → List ℕ → Type 0
PutsTree w shebang b at pos out r o = (t : Tree) (end : ℕ) → Stands b (stored_bytes w) t at end → Puts (tree_bytes w shebang b t) pos out r o

abbrev pub PutsRow : Way → Bool → List ℕ → ℕ → ℕ → ℕ → List ℕ → ℕ → List ℕ → Type 0
PutsRow w shebang b at stop pos out r o = (ts : Trees) → Row b (stored_bytes w) ts at stop → Puts (row_bytes w shebang b ts) pos out r o

-- ---- the whole
-- the image was accepted, with its tree at `at`, and no text in it is at fault
pub record ImageThere (w : Way) (b : List ℕ) (at : ℕ) : Type 0 where
  pub source : List ℕ
  pub image : Image
  pub end : ℕ
  pub reads : read_version (version_from w) false source b ≡ got image end
  pub place : image.at ≡ at
  pub clear : texts_where (is_faulty w) b false image.tree ≡ []

abbrev pub PutsImage : Way → List ℕ → List ℕ → ℕ → List ℕ → Type 0
PutsImage w b out r o =
    (s : List ℕ) (i : Image) (end : ℕ) → read_version (version_from w) false s b ≡ got i end → Puts (image_due w (contents_of b i)) 0 out r o

-- where the tree of an image stands that may be moved; 1 to 7, then 21
abbrev pub tree_by : Way → List ℕ → Read Image → Answer ℕ
tree_by w b (got i end) = answer_by (refuse_at (head_of (texts_where (is_faulty w) b false i.tree)) 21) i.at
tree_by w b (bad n p) = refused (record { number = n; place = p })

abbrev pub tree_due : Way → List ℕ → List ℕ → Answer ℕ
tree_due w s b = tree_by w b (read_version (version_from w) false s b)
