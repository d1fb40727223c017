-- Rows read back: the nodes that a range of rows is.
use Rattle.std.specs.Prelude.{ℕ, zero, suc, ◌+◌, ◌*◌, ◌-◌, min, max, cond, List, get_or, ltb, eqb}
use Rattle.rows.specs.Kinds.{STR, ASCII, LINE_OR_SPACE, case_of}
use Rattle.rows.specs.Places.{KIND, NUMBER, SECOND_NUMBER, SECOND, AFTER, ORIGIN, START, SIZE, WIDTH, PLACES}
use Rattle.rows.specs.Node.{Text, Node, Nodes, group, indent, indent_next, wrap_parent, comment, str, ascii, line, empty_line, line_or_space, if_wrap}
use Rattle.rows.specs.Node.{call, none, ◌then◌}

-- The places of each row by its number.
pub record View : Type 0 where
  pub kind : ℕ → ℕ
  pub number : ℕ → ℕ
  pub number2 : ℕ → ℕ
  pub second : ℕ → ℕ
  pub after : ℕ → ℕ
  pub text : ℕ → Text
  pub width : ℕ → ℕ

-- place k of row i of a store
abbrev pub cell : List ℕ → ℕ → ℕ → ℕ
cell store i k = get_or store (i * PLACES + k) 0

-- the rows of a store; `Str` alone has a width
unfoldable pub view_of : List ℕ → View
view_of store = record {
  kind = λ i. cell store i KIND;
  number = λ i. cell store i NUMBER;
  number2 = λ i. cell store i SECOND_NUMBER;
  second = λ i. cell store i SECOND;
  after = λ i. cell store i AFTER;
  text = λ i. record { origin = cell store i ORIGIN; start = cell store i START; size = cell store i SIZE };
  width = λ i. cond (eqb (cell store i KIND) STR) (cell store i WIDTH) 0;
}

-- what row i measures by itself: the width of a `Str`, the bytes of an `Ascii`, 1 of a `LineOrSpace`
abbrev pub own_width : List ℕ → ℕ → ℕ → ℕ
own_width store i kind =
    cond (eqb kind STR) (cell store i WIDTH) (cond (eqb kind ASCII) (cell store i SIZE) (cond (eqb kind LINE_OR_SPACE) 1 0))

-- the first of some nodes
abbrev pub first_of : Nodes → Node
first_of none = wrap_parent
first_of (n then ns) = n

-- the node of row i, by its kind; its parts are ns, or e and then a where it has two
unfoldable pub node_of : View → ℕ → Nodes → Nodes → Nodes → Node
node_of v i ns e a =
    case_of
    (record {
      group = group (v.number i) ns;
      indent = indent ns;
      indent_next = indent_next ns;
      wrap_parent = wrap_parent;
      comment = comment (v.text i);
      str = str (v.width i) (v.text i);
      ascii = ascii (v.text i);
      line = line;
      empty_line = empty_line;
      line_or_space = line_or_space;
      if_wrap = if_wrap (v.number i) (first_of e) (first_of a);
      call = call (v.number i) e (v.number2 i) a;
      no_kind = wrap_parent;
    })
    (v.kind i)

-- where the parts of row i end, if not past j, and where its second part starts, if not past e
abbrev pub end_in : View → ℕ → ℕ → ℕ
end_in v i j = max (suc i) (min (v.after i) j)

abbrev pub second_in : View → ℕ → ℕ → ℕ
second_in v i e = max (suc i) (min (v.second i) e)

-- the nodes of the rows from i up to j, at most f of them in a row or inside one another (by `let`, so that nothing is computed where i is
-- not before j)
unfoldable pub decode : ℕ → View → ℕ → ℕ → Nodes
decode zero v i j = none
decode (suc f) v i j =
    let some : Nodes =
    node_of v i
    (decode f v (suc i) (end_in v i j))
    (decode f v (suc i) (second_in v i (end_in v i j)))
    (decode f v (second_in v i (end_in v i j)) (end_in v i j))
    then decode f v (end_in v i j) j
    in
    cond (ltb i j) some none

-- the nodes of the rows from i up to j
unfoldable pub nodes_at : View → ℕ → ℕ → Nodes
nodes_at v i j = decode (j - i) v i j

-- the node of row i, with the parts that end where it says
unfoldable pub node_at : View → ℕ → Node
node_at v i =
    node_of v i
    (nodes_at v (suc i) (v.after i))
    (nodes_at v (suc i) (second_in v i (v.after i)))
    (nodes_at v (second_in v i (v.after i)) (v.after i))
