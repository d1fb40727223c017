-- What a function of layout does to the store and to the cursor: one contract for all of them.
use Rattle.std.specs.Prelude.{◌≡◌, ℕ, ◌+◌, ◌*◌, ◌≤◌, ◌<◌, List}
use Rattle.std.proofs.lemmas.List.Edits.{sets}
use Rattle.rows.specs.Places.{PLACES}
use Rattle.rows.specs.Node.{Text}
use Rattle.rows.specs.Texts.{origin_number}
use Rattle.rows.specs.Rows.{sizes, row, rows, no_text}
use Rattle.acts.specs.Act.{St, Out, Act, Asking, step_alone}
use Rattle.rows.specs.Kinds.{number_of}
use Rattle.acts.specs.declared.Cursor.{Cursor}
use Rattle.acts.specs.declared.store.Row.{Row}
use Rattle.acts.specs.declared.store.Text.{Text as RowText}

-- a text by its origin, its start and its length
abbrev pub text : ℕ → ℕ → ℕ → Text
text o from n = record { origin = o; start = from; size = n }

-- the text that a row has
abbrev pub text_of : RowText → Text
text_of t = text (origin_number t.origin) t.start t.size

-- a cursor: next row, next number, position, comments placed
abbrev pub cursor : ℕ → ℕ → ℕ → ℕ → Cursor
cursor r n p k = record { row = r; number = n; pos = p; placed = k }

-- the state of a cursor, without its row
abbrev pub st : Cursor → St
st c = record { number = c.number; pos = c.pos; placed = c.placed }

-- the cursor after a step
abbrev pub after : Cursor → Out → Cursor
after c o = cursor (c.row + sizes o.nodes) (c.number + o.taken) o.pos o.placed

-- the largest number of a place in a row
abbrev pub top : ℕ
top = 4294967295

-- the rows and the group numbers of a step can be numbered
pub record Room (a : Act) (c : Cursor) : Type 0 where
  pub rows_fit : c.row + sizes (a (st c)).nodes ≤ top
  pub numbers_fit : c.number + (a (st c)).taken ≤ top

-- the row of a node with parts can be numbered, and so can the node
pub record CanOpen (taken : ℕ) (c : Cursor) : Type 0 where
  pub row_fits : c.row < top
  pub numbers_fit : c.number + taken ≤ top

-- a step is laid: its rows are in the store, as far as it reaches, and the cursor is where the step leaves it
pub record Laid (a : Act) (s : List ℕ) (c : Cursor) (s' : List ℕ) (c' : Cursor) : Type 0 where
  pub stored : s' ≡ sets s (PLACES * c.row) (rows (a (st c)).nodes c.row)
  pub moved : c' ≡ after c (a (st c))

-- a step that returns something is laid, and returned r
pub record LaidAsking {A : Type 0} (a : Asking A) (s : List ℕ) (c : Cursor) (s' : List ℕ) (c' : Cursor) (r : A) : Type 0 where
  pub laid : Laid (step_alone a) s c s' c'
  pub answers : r ≡ (a (st c)).1

-- the nine places of a row as it is written at first, where the row `next` comes after it
abbrev pub cells_at : ℕ → Row → List ℕ
cells_at next r = row (number_of r.kind) r.number r.second_number 0 next (text_of r.text) r.width

abbrev pub cells_of : Row → List ℕ
cells_of r = cells_at r.after r

-- a row is written, as one without parts
pub record Written (kind n k : ℕ) (t : Text) (w : ℕ) (s : List ℕ) (c : Cursor) (s' : List ℕ) (c' : Cursor) : Type 0 where
  pub stored : s' ≡ sets s (PLACES * c.row) (row kind n k 0 (c.row + 1) t w)
  pub moved : c' ≡ cursor (c.row + 1) c.number c.pos c.placed

-- the row of a node with parts is written, as one without them, and the node's numbers are taken
pub record Opened (kind n k taken : ℕ) (s : List ℕ) (c : Cursor) (s' : List ℕ) (c' : Cursor) : Type 0 where
  pub stored : s' ≡ sets s (PLACES * c.row) (row kind n k 0 (c.row + 1) no_text 0)
  pub moved : c' ≡ cursor (c.row + 1) (c.number + taken) c.pos c.placed
