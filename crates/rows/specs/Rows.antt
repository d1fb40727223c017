-- A document as rows: nine numbers a row, in preorder (document 01, "Rows, marks and carried state").
use Rattle.std.specs.Prelude.{ℕ, ◌+◌, max, List, [], ◌∷◌, ◌++◌}
use Rattle.rows.specs.Kinds.{GROUP, INDENT, INDENT_NEXT, WRAP_PARENT, COMMENT, STR, ASCII, LINE, EMPTY_LINE, LINE_OR_SPACE, IF_WRAP, CALL}
use Rattle.rows.specs.Node.{Text, Node, Nodes, group, indent, indent_next, wrap_parent, comment, str, ascii, line, empty_line, line_or_space, if_wrap}
use Rattle.rows.specs.Node.{call, none, ◌then◌}

-- how many rows a node and nodes take
unfoldable mutual
  pub size : Node → ℕ
  size (group n ns) = 1 + sizes ns
  size (indent ns) = 1 + sizes ns
  size (indent_next ns) = 1 + sizes ns
  size wrap_parent = 1
  size (comment t) = 1
  size (str w t) = 1
  size (ascii t) = 1
  size line = 1
  size empty_line = 1
  size line_or_space = 1
  size (if_wrap n a b) = 1 + (size a + size b)
  size (call n e k a) = 1 + (sizes e + sizes a)

  pub sizes : Nodes → ℕ
  sizes none = 0
  sizes (n then ns) = size n + sizes ns

-- how deep the rows of a node and of nodes go
unfoldable mutual
  pub depth : Node → ℕ
  depth (group n ns) = 1 + depths ns
  depth (indent ns) = 1 + depths ns
  depth (indent_next ns) = 1 + depths ns
  depth wrap_parent = 1
  depth (comment t) = 1
  depth (str w t) = 1
  depth (ascii t) = 1
  depth line = 1
  depth empty_line = 1
  depth line_or_space = 1
  depth (if_wrap n a b) = 1 + max (depth a) (depth b)
  depth (call n e k a) = 1 + max (depths e) (depths a)

  pub depths : Nodes → ℕ
  depths none = 0
  depths (n then ns) = max (depth n) (depths ns)

-- A row: kind, number, second number, first row of the second part, row after the last descendant, text origin, text start, text length,
-- width.
abbrev pub row : ℕ → ℕ → ℕ → ℕ → ℕ → Text → ℕ → List ℕ
row kind n k second after t w = kind ∷ n ∷ k ∷ second ∷ after ∷ t.origin ∷ t.start ∷ t.size ∷ w ∷ []

-- unused places are 0
abbrev pub no_text : Text
no_text = record { origin = 0; start = 0; size = 0 }

-- the rows of a node and of nodes, the first of which is row r
unfoldable mutual
  pub rows_of : Node → ℕ → List ℕ
  rows_of (group n ns) r = row GROUP n 0 0 (r + (1 + sizes ns)) no_text 0 ++ rows ns (r + 1)
  rows_of (indent ns) r = row INDENT 0 0 0 (r + (1 + sizes ns)) no_text 0 ++ rows ns (r + 1)
  rows_of (indent_next ns) r = row INDENT_NEXT 0 0 0 (r + (1 + sizes ns)) no_text 0 ++ rows ns (r + 1)
  rows_of wrap_parent r = row WRAP_PARENT 0 0 0 (r + 1) no_text 0
  rows_of (comment t) r = row COMMENT 0 0 0 (r + 1) t 0
  rows_of (str w t) r = row STR 0 0 0 (r + 1) t w
  rows_of (ascii t) r = row ASCII 0 0 0 (r + 1) t 0
  rows_of line r = row LINE 0 0 0 (r + 1) no_text 0
  rows_of empty_line r = row EMPTY_LINE 0 0 0 (r + 1) no_text 0
  rows_of line_or_space r = row LINE_OR_SPACE 0 0 0 (r + 1) no_text 0
  rows_of (if_wrap n a b) r =
      row IF_WRAP n 0 (r + (1 + size a)) (r + (1 + (size a + size b))) no_text 0 ++ (rows_of a (r + 1) ++ rows_of b (r + (1 + size a)))
  rows_of (call n e k a) r =
      row CALL n k (r + (1 + sizes e)) (r + (1 + (sizes e + sizes a))) no_text 0 ++ (rows e (r + 1) ++ rows a (r + (1 + sizes e)))

  pub rows : Nodes → ℕ → List ℕ
  rows none r = []
  rows (n then ns) r = rows_of n r ++ rows ns (r + size n)
