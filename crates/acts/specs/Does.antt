-- What a method of `State` promises: its step is laid, and the state still has the store that it had.
use Rattle.std.specs.Prelude.{◌≡◌, ℕ, ◌+◌, ◌*◌, ◌≤◌, ⊤, set}
use Rattle.rows.specs.Kinds.{GROUP, INDENT, INDENT_NEXT, CALL}
use Rattle.rows.specs.Places.{PLACES}
use Rattle.rows.specs.Node.{Text, Node, wrap_parent, comment, str, ascii, line, empty_line, line_or_space}
use Rattle.rows.specs.Words.{word}
use Rattle.acts.specs.Act.{Act, Asking}
use Rattle.acts.specs.Laid.{text, top, Laid, LaidAsking, Written, Opened}
use Rattle.acts.specs.Spelling.{spelling}
use Rattle.acts.specs.declared.State.{State}
use Rattle.acts.specs.declared.leaves.Leaf.{Leaf}
use Rattle.acts.specs.declared.leaves.Leaf.TheVariants as leaves
use Rattle.acts.specs.declared.parts.Branch.{Branch}
use Rattle.acts.specs.declared.parts.Branch.TheVariants as branches

pub record Does (a : Act) (s t : State) : Type 0 where
  pub laid : Laid a s.store.now s.cursor t.store.now t.cursor
  pub same : t.store.ghost_name ≡ s.store.ghost_name

-- the same of a step that returns something, and returned r
pub record Asked {A : Type 0} (a : Asking A) (s t : State) (r : A) : Type 0 where
  pub laid : LaidAsking a s.store.now s.cursor t.store.now t.cursor r
  pub same : t.store.ghost_name ≡ s.store.ghost_name

-- the node that a leaf is
abbrev pub node_of : Leaf → Node
node_of leaves.WrapParent = wrap_parent
node_of (leaves.Comment start size) = comment (text 0 start size.0)
node_of (leaves.Str start size width) = str width.0 (text 1 start size.0)
node_of (leaves.Ascii start size) = ascii (text 0 start size.0)
node_of (leaves.Word w) = ascii (word (spelling w))
node_of leaves.Line = line
node_of leaves.EmptyLine = empty_line
node_of leaves.LineOrSpace = line_or_space

-- the numbers of a leaf's text can be written into a row
abbrev pub Small : Leaf → Type 0
Small (leaves.Comment start size) = size.0 ≤ top
Small (leaves.Str start size width) = (size.0 ≤ top) × (width.0 ≤ top)
Small (leaves.Ascii start size) = size.0 ≤ top
Small leaf = ⊤

-- ---- nodes with parts
abbrev pub kind_of : Branch → ℕ
kind_of branches.Group = GROUP
kind_of branches.Indent = INDENT
kind_of branches.IndentNext = INDENT_NEXT
kind_of branches.Call = CALL

-- how many numbers a node takes, and its row's two numbers where the next one is n
abbrev pub taken_by : Branch → ℕ
taken_by branches.Group = 1
taken_by branches.Indent = 0
taken_by branches.IndentNext = 0
taken_by branches.Call = 2

abbrev pub first_number : Branch → ℕ → ℕ
first_number branches.Group n = n
first_number branches.Indent n = 0
first_number branches.IndentNext n = 0
first_number branches.Call n = n

abbrev pub second_number : Branch → ℕ → ℕ
second_number branches.Call n = n + 1
second_number branch n = 0

-- a node with parts is opened: its row, r, is written as one without parts
pub record Opens (b : Branch) (s t : State) (r : ℕ) : Type 0 where
  pub opened :
      Opened (kind_of b) (first_number b s.cursor.number) (second_number b s.cursor.number) (taken_by b)
      s.store.now s.cursor t.store.now t.cursor
  pub row : r ≡ s.cursor.row
  pub same : t.store.ghost_name ≡ s.store.ghost_name

-- a place of a row is set to the row `to`
pub record Marks (place row to : ℕ) (s t : State) : Type 0 where
  pub stored : t.store.now ≡ set s.store.now (PLACES * row + place) to
  pub stays : t.cursor ≡ s.cursor
  pub same : t.store.ghost_name ≡ s.store.ghost_name

-- a row is written
pub record Pushed (kind n k : ℕ) (t : Text) (w : ℕ) (s s' : State) : Type 0 where
  pub written : Written kind n k t w s.store.now s.cursor s'.store.now s'.cursor
  pub same : s'.store.ghost_name ≡ s.store.ghost_name
