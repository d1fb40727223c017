-- What the code that lists an accepted image goes by: steps put into an output.
use Rattle.std.specs.Prelude.{true, ◌≡◌, List, ℕ, ◌+◌, ◌*◌, ◌≤◌, length}
use Rattle.std.proofs.lemmas.List.Edits.{sets}
use Rattle.image.specs.Read.{Tree, Trees, got, Image, read_version}
use Rattle.image.specs.Standing.{Whole, Stands, Row}
use Rattle.image.specs.Write.{plain, plains}
use Rattle.steps.specs.Steps.{list_bytes, tree_steps, child_steps}
use Rattle.steps.specs.OfImage.{steps_of}

-- ---- what is put
-- ws is put at `pos`: r is the place behind it, and o the output at exit
pub record Puts (ws : List ℕ) (pos : ℕ) (out : List ℕ) (r : ℕ) (o : List ℕ) : Type 0 where
  pub place : r ≡ pos + length ws
  pub output : o ≡ sets out pos ws

-- the steps of the tree that stands at `at`, and those of trees
abbrev pub tree_bytes : List ℕ → Tree → List ℕ
tree_bytes b t = list_bytes (tree_steps (plain b t))

abbrev pub row_bytes : List ℕ → Trees → List ℕ
row_bytes b ts = list_bytes (child_steps (plains b ts))

-- no sum wraps: the steps of a record have no more than twice its bytes
pub record TreeThere (b : List ℕ) (at pos : ℕ) : Type 0 where
  pub tree : Tree
  pub end : ℕ
  pub stands : Stands b 2 tree at end
  pub below : pos ≤ 2 * at
  pub short : length b ≤ 1048581

pub record RowThere (b : List ℕ) (at stop pos : ℕ) : Type 0 where
  pub trees : Trees
  pub stands : Row b 2 trees at stop
  pub inside : stop ≤ length b
  pub below : pos ≤ 2 * at
  pub short : length b ≤ 1048581

pub record HeadThere (b : List ℕ) (at pos : ℕ) : Type 0 where
  pub whole : Whole b 2 at
  pub below : pos ≤ 2 * (at + 13)
  pub short : length b ≤ 1048581

abbrev pub PutsTree : List ℕ → ℕ → ℕ → List ℕ → ℕ → List ℕ → Type 0
PutsTree b at pos out r o = (t : Tree) (end : ℕ) → Stands b 2 t at end → Puts (tree_bytes b t) pos out r o

abbrev pub PutsRow : List ℕ → ℕ → ℕ → ℕ → List ℕ → ℕ → List ℕ → Type 0
PutsRow b at stop pos out r o = (ts : Trees) → Row b 2 ts at stop → Puts (row_bytes b ts) pos out r o

-- ---- the whole
-- the image was accepted, with n comments and its tree at `at`
pub record ImageThere (b : List ℕ) (n at : ℕ) : Type 0 where
  pub source : List ℕ
  pub image : Image
  pub end : ℕ
  pub reads : read_version 1 true source b ≡ got image end
  pub count : image.comments ≡ n
  pub place : image.at ≡ at

abbrev pub PutsImage : List ℕ → List ℕ → ℕ → List ℕ → Type 0
PutsImage b out r o = (s : List ℕ) (i : Image) (end : ℕ) → read_version 1 true s b ≡ got i end → Puts (steps_of b i) 0 out r o
