-- What layout may take for granted of an accepted image, and the limits that it then keeps to.
use Rattle.std.specs.Prelude.{ℕ, ◌+◌, ◌*◌, ◌≤◌, ◌≡◌, Bool, List, ◌++◌, length}
use Rattle.image.specs.Limits.{MAX_BODY, MAX_COMMENTS}
use Rattle.ast.specs.Syntax.{Declaration, SyntaxTree}
use Rattle.tree.specs.At.{TreeAt}
use Rattle.rows.specs.Limits.{MAX_NUMBER}
use Rattle.rows.specs.Rows.{sizes, depths}
use Rattle.acts.specs.Act.{Given, St, Out}
use Rattle.layout.specs.Closing.{call_rule}
use Rattle.layout_facts.specs.Sound.{BYTE_GIVES, ROW_TAKES, TextsIn, Commented}
use Rattle.layout_facts.specs.Height.{tree_height}

-- A tree that is at `at` of an accepted image: the body is 1,048,576 bytes at most, the comments before it are 8,192 at most.
pub record Stands (g : Given) (t : SyntaxTree) (at : ℕ) : Type 0 where
  pub tree : TreeAt g.source g.image t at
  pub high : tree_height t ≤ 67
  pub comments : Commented g
  pub count : length g.comments ≤ MAX_COMMENTS
  pub place : at ≡ 7 + 8 * length g.comments
  pub small : length g.image ≤ 5 + MAX_BODY

-- The rows and the state due are within the limits of document 01: rows and numbers for the next call's state, rows not over 256 deep, texts
-- inside their origins, of widths that are supplied, the position in the source, the comments placed in the list.
pub record Within (g : Given) (o : Out) : Type 0 where
  pub rows : sizes o.nodes ≤ 1048576
  pub numbers : o.taken ≤ MAX_NUMBER
  pub deep : depths o.nodes ≤ 256
  pub texts : TextsIn g o.nodes
  pub position : o.pos ≤ length g.source
  pub placed : o.placed ≤ length g.comments

-- Five rows and five group numbers for each 13 bytes of the image are enough, the comments' bytes among them.
pub record Few (g : Given) (o : Out) : Type 0 where
  pub rows : ROW_TAKES * sizes o.nodes ≤ BYTE_GIVES * length g.image
  pub numbers : ROW_TAKES * o.taken ≤ BYTE_GIVES * length g.image

-- So it is of all that a layout call lays, from any state in which no more comments are placed than there are.
abbrev pub FewRows : Type 0
FewRows =
    (g : Given) (t : SyntaxTree) (at : ℕ) → Stands g t at → (xs ys zs : List Declaration) → xs ++ (ys ++ zs) ≡ t.declarations
    → (begins first closes keeps : Bool) (s : St) → s.placed ≤ length g.comments
    → Few g (call_rule g t begins ys first closes keeps s)

-- "The layout rules pick the start of fixed words (origin 2); the word due is there": so it is of all that a layout call lays, from any state.
abbrev pub WordsDue : Type 0
WordsDue =
    (g : Given) (t : SyntaxTree) (at : ℕ) → Stands g t at → (xs ys zs : List Declaration) → xs ++ (ys ++ zs) ≡ t.declarations
    → (begins first closes keeps : Bool) (s : St)
    → TextsIn g (call_rule g t begins ys first closes keeps s).nodes
