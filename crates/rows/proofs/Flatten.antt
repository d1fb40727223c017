-- Rows read back: the nodes of the rows that flattened nodes are, wherever they stand in a store, are those nodes, and these rows nest.
-- By induction on the nodes: the first nine numbers are the row, the rest are the rows of its parts.
-- Assumes nothing.
use mathlib.Core.Path.{◌≡◌, refl, ap, sym, ◌∙◌, subst}
use Prim.Native.Nat.{ℕ, suc, ◌+◌, ◌*◌, ◌≤◌, ◌<◌}
use native.Mathlib.Omega.{arith}
use native.Mathlib.Numerals.{add-one}
use native.Mathlib.Nat.{add-zero}
use mathlib.Core.List.{List, [], ◌++◌}
use lib.ListN.{length, get_or, take, drop, length-append, get_or-append}
use lib.Seq.{get_or-append-add, get_or-take, get_or-drop}
use Rattle.rows.specs.Limits.{MAX_DEPTH}
use Rattle.rows.specs.Kinds.{GROUP, INDENT, INDENT_NEXT, LINE_OR_SPACE, IF_WRAP, CALL}
use Rattle.rows.specs.Places.{WIDTH, PLACES}
use Rattle.rows.specs.Node.{Text, Node, Nodes, group, indent, indent_next, wrap_parent, comment, str, ascii, line, empty_line, line_or_space, if_wrap}
use Rattle.rows.specs.Node.{call, none, ◌then◌}
use Rattle.rows.specs.Rows.{size, sizes, depth, depths, row, rows_of, rows, no_text}
use Rattle.rows.specs.View.{cell, view_of, nodes_at, first_of, node_at}
use Rattle.rows.specs.Nesting.{RangeIn, Nests, over, leaf, block, two, pair}
use Rattle.rows.proofs.Decode.{nodes_some, nodes_none, node_group, node_indent, node_next, node_parent, node_comment, node_str}
use Rattle.rows.proofs.Decode.{node_ascii, node_line, node_empty, node_space, node_if, node_call}
use Rattle.rows.proofs.Nested.{nests_le}
use Rattle.rows.proofs.Sizes.{size_pos, length_rows_of, length_rows}

-- the store has these numbers from row i on
pub record Holds (s : List ℕ) (i : ℕ) (l : List ℕ) : Type 0 where
  pub at : (k : ℕ) → k < length l → get_or s (i * PLACES + k) 0 ≡ get_or l k 0

pub holds_part : (s : List ℕ) (i : ℕ) (l : List ℕ) → take (length l) (drop (i * PLACES) s) ≡ l → Holds s i l
holds_part s i l e =
    record { at = λ k h. sym (get_or-drop (i * PLACES) s k 0) ∙ sym (get_or-take (length l) (drop (i * PLACES) s) k 0 h) ∙ ap (λ (x : List ℕ). get_or x k 0) e }

pub holds_left : (s : List ℕ) (i : ℕ) (a b : List ℕ) → Holds s i (a ++ b) → Holds s i a
holds_left s i a b h = record { at = λ k l. h.at k (simp length-append (omega arith)) ∙ get_or-append a b 0 k l }

pub holds_right : (s : List ℕ) (i n : ℕ) (a b : List ℕ) → length a ≡ n * PLACES → Holds s i (a ++ b) → Holds s (i + n) b
holds_right s i n a b e h =
    record {
      at =
          λ k l.
          ap (λ (x : ℕ). get_or s x 0) (along i n k (length a) e)
          ∙ h.at (length a + k) (simp length-append (omega arith))
          ∙ get_or-append-add a b k 0;
    }
  where
    along : (i n k m : ℕ) → m ≡ n * PLACES → (i + n) * 9 + k ≡ i * PLACES + (m + k)
    along i n k m e = omega arith

-- one row
pub record Row (s : List ℕ) (i kind n k second after : ℕ) (t : Text) (w : ℕ) : Type 0 where
  pub is_kind : (view_of s).kind i ≡ kind
  pub is_number : (view_of s).number i ≡ n
  pub is_number2 : (view_of s).number2 i ≡ k
  pub is_second : (view_of s).second i ≡ second
  pub is_after : (view_of s).after i ≡ after
  pub is_text : (view_of s).text i ≡ t
  pub is_width : cell s i WIDTH ≡ w

module _ (s : List ℕ) (i kind n k second after : ℕ) (t : Text) (w : ℕ) (l : List ℕ) (h : Holds s i (row kind n k second after t w ++ l)) where
  pub row_held : Row s i kind n k second after t w
  unfolding view_of
  row_held =
      let a = h.at 5 (omega arith) in
      let b = h.at 6 (omega arith) in
      let c = h.at 7 (omega arith) in
      record {
        is_kind = h.at 0 (omega arith);
        is_number = h.at 1 (omega arith);
        is_number2 = h.at 2 (omega arith);
        is_second = h.at 3 (omega arith);
        is_after = h.at 4 (omega arith);
        is_text = rw (a, b, c);
        is_width = h.at 8 (omega arith);
      }

  pub parts_held : Holds s (i + 1) l
  parts_held = holds_right s i 1 (row kind n k second after t w) l refl h

-- row i ends where it should, and is that node
pub record Shown (s : List ℕ) (i : ℕ) (n : Node) : Type 0 where
  pub end : (view_of s).after i ≡ i + size n
  pub node : node_at (view_of s) i ≡ n

first_shown : (s : List ℕ) (i j : ℕ) (n : Node) → Shown s i n → j ≡ i + size n → first_of (nodes_at (view_of s) i j) ≡ n
first_shown s i j n h e =
    let p = size_pos n in
    let q = h.end in
    ap first_of (nodes_some (view_of s) i j (record { up = omega arith; to = omega arith })) ∙ h.node

then_shown : (s : List ℕ) (i : ℕ) (n : Node) (ns : Nodes) → Shown s i n
    → nodes_at (view_of s) (i + size n) (i + size n + sizes ns) ≡ ns
    → nodes_at (view_of s) i (i + size n + sizes ns) ≡ (n then ns)
then_shown s i n ns h e =
    let p = size_pos n in
    let q = h.end in
    nodes_some (view_of s) i (i + size n + sizes ns) (record { up = omega arith; to = omega arith }) ∙ rw (q, h.node, e)

none_shown : (s : List ℕ) (i : ℕ) → nodes_at (view_of s) i (i + 0) ≡ none
none_shown s i = nodes_none (view_of s) i (i + 0) (omega arith)

-- a block, whose parts start at the next row
module _ (s : List ℕ) (i kind n : ℕ) (ns : Nodes) (r : Row s i kind n 0 0 (i + (1 + sizes ns)) no_text 0)
    (q : nodes_at (view_of s) (i + 1) (i + 1 + sizes ns) ≡ ns)
  where
    parts : nodes_at (view_of s) (suc i) ((view_of s).after i) ≡ ns
    parts = rw r.is_after (subst (λ (j : ℕ). nodes_at (view_of s) (suc i) j ≡ ns) (same i (sizes ns)) (rw (add-one i) at q))
      where
        same : (i z : ℕ) → suc i + z ≡ i + (1 + z)
        same i z = omega arith

    group_shown : kind ≡ GROUP → Shown s i (group n ns)
    unfolding size
    group_shown k = record { end = r.is_after; node = node_group (view_of s) i (r.is_kind ∙ k) ∙ rw (r.is_number, parts) }

    indent_shown : kind ≡ INDENT → Shown s i (indent ns)
    unfolding size
    indent_shown k = record { end = r.is_after; node = node_indent (view_of s) i (r.is_kind ∙ k) ∙ rw parts }

    next_shown : kind ≡ INDENT_NEXT → Shown s i (indent_next ns)
    unfolding size
    next_shown k = record { end = r.is_after; node = node_next (view_of s) i (r.is_kind ∙ k) ∙ rw parts }

module _ (s : List ℕ) (i n : ℕ) (a b : Node) (r : Row s i 10 n 0 (i + (1 + size a)) (i + (1 + (size a + size b))) no_text 0) where
  if_shown : Shown s (i + 1) a → Shown s (i + (1 + size a)) b → Shown s i (if_wrap n a b)
  unfolding size
  if_shown x y =
      let p = size_pos a in
      let e = r.is_second in
      let f = r.is_after in
      let x2 = first_shown s (suc i) ((view_of s).second i) a (subst (λ (j : ℕ). Shown s j a) (add-one i) x) (omega arith) in
      let y2 = first_shown s ((view_of s).second i) ((view_of s).after i) b (rw e y) (omega arith) in
      record {
        end = f;
        node = node_if (view_of s) i r.is_kind (record { up = omega arith; to = omega arith }) ∙ rw (x2, y2, r.is_number);
      }

module _ (s : List ℕ) (i n k : ℕ) (e a : Nodes) (r : Row s i 11 n k (i + (1 + sizes e)) (i + (1 + (sizes e + sizes a))) no_text 0) where
  call_shown : nodes_at (view_of s) (i + 1) (i + 1 + sizes e) ≡ e
      → nodes_at (view_of s) (i + (1 + sizes e)) (i + (1 + sizes e) + sizes a) ≡ a
      → Shown s i (call n e k a)
  unfolding size
  call_shown x y =
      let p = r.is_second in
      let f = r.is_after in
      let j : (view_of s).second i ≡ i + 1 + sizes e = omega arith in
      let g : (view_of s).after i ≡ i + (1 + sizes e) + sizes a = omega arith in
      let x2 : nodes_at (view_of s) (suc i) ((view_of s).second i) ≡ e = rw (j, ← add-one i) x in
      let y2 : nodes_at (view_of s) ((view_of s).second i) ((view_of s).after i) ≡ a = rw (g, p) y in
      record {
        end = f;
        node = node_call (view_of s) i r.is_kind (record { up = omega arith; to = omega arith }) ∙ rw (x2, y2, r.is_number, r.is_number2);
      }

str_width : (s : List ℕ) (i w : ℕ) (t : Text) → Row s i 5 0 0 0 (i + 1) t w → (view_of s).width i ≡ w
unfolding view_of
str_width s i w t r = rw r.is_kind r.is_width

-- the row of a node without parts
leaf_row : (s : List ℕ) (i kind : ℕ) (t : Text) (w : ℕ) → Holds s i (row kind 0 0 0 (i + 1) t w) → Row s i kind 0 0 0 (i + 1) t w
leaf_row s i kind t w h = row_held s i kind 0 0 0 (i + 1) t w [] h

block_row : (s : List ℕ) (i kind n : ℕ) (ns : Nodes) → Holds s i (row kind n 0 0 (i + (1 + sizes ns)) no_text 0 ++ rows ns (i + 1))
    → Row s i kind n 0 0 (i + (1 + sizes ns)) no_text 0
block_row s i kind n ns h = row_held s i kind n 0 0 (i + (1 + sizes ns)) no_text 0 (rows ns (i + 1)) h

block_parts : (s : List ℕ) (i kind n : ℕ) (ns : Nodes) → Holds s i (row kind n 0 0 (i + (1 + sizes ns)) no_text 0 ++ rows ns (i + 1))
    → Holds s (i + 1) (rows ns (i + 1))
block_parts s i kind n ns h = parts_held s i kind n 0 0 (i + (1 + sizes ns)) no_text 0 (rows ns (i + 1)) h

-- the rows of two parts
module _ (s : List ℕ) (i kind n k x y : ℕ) (a b : List ℕ) (e : length a ≡ x * 9)
    (h : Holds s i (row kind n k (i + (1 + x)) (i + (1 + (x + y))) no_text 0 ++ (a ++ b)))
  where
    pair_row : Row s i kind n k (i + (1 + x)) (i + (1 + (x + y))) no_text 0
    pair_row = row_held s i kind n k (i + (1 + x)) (i + (1 + (x + y))) no_text 0 (a ++ b) h

    pair_parts : Holds s (i + 1) (a ++ b)
    pair_parts = parts_held s i kind n k (i + (1 + x)) (i + (1 + (x + y))) no_text 0 (a ++ b) h

    pair_first : Holds s (i + 1) a
    pair_first = holds_left s (i + 1) a b pair_parts

    pair_second : Holds s (i + (1 + x)) b
    pair_second = subst (λ (j : ℕ). Holds s j b) (same i x) (holds_right s (i + 1) x a b e pair_parts)
      where
        same : (i x : ℕ) → i + 1 + x ≡ i + (1 + x)
        same i x = omega arith

-- the rows of a node, and of those behind it
then_first : (n : Node) (ns : Nodes) (s : List ℕ) (i : ℕ) → Holds s i (rows (n then ns) i) → Holds s i (rows_of n i)
unfolding rows
then_first n ns s i h = holds_left s i (rows_of n i) (rows ns (i + size n)) h

then_rest : (n : Node) (ns : Nodes) (s : List ℕ) (i : ℕ) → Holds s i (rows (n then ns) i) → Holds s (i + size n) (rows ns (i + size n))
unfolding rows
then_rest n ns s i h = holds_right s i (size n) (rows_of n i) (rows ns (i + size n)) (length_rows_of n i) h

then_nodes : (s : List ℕ) (i : ℕ) (n : Node) (ns : Nodes) → Shown s i n
    → nodes_at (view_of s) (i + size n) (i + size n + sizes ns) ≡ ns
    → nodes_at (view_of s) i (i + sizes (n then ns)) ≡ (n then ns)
unfolding sizes
then_nodes s i n ns x e = rw (same i (size n) (sizes ns)) (then_shown s i n ns x e)
  where
    same : (i a b : ℕ) → i + (a + b) ≡ i + a + b
    same i a b = omega arith

mutual
  unfolding rows_of size

  pub shown : (n : Node) (s : List ℕ) (i : ℕ) → Holds s i (rows_of n i) → Shown s i n
  shown (group n ns) s i h = group_shown s i 0 n ns (block_row s i 0 n ns h) (read_back ns s (i + 1) (block_parts s i 0 n ns h)) refl
  shown (indent ns) s i h = indent_shown s i 1 0 ns (block_row s i 1 0 ns h) (read_back ns s (i + 1) (block_parts s i 1 0 ns h)) refl
  shown (indent_next ns) s i h = next_shown s i 2 0 ns (block_row s i 2 0 ns h) (read_back ns s (i + 1) (block_parts s i 2 0 ns h)) refl
  shown wrap_parent s i h = let r = leaf_row s i 3 no_text 0 h in record { end = r.is_after; node = node_parent (view_of s) i r.is_kind }
  shown (comment t) s i h = let r = leaf_row s i 4 t 0 h in record { end = r.is_after; node = node_comment (view_of s) i r.is_kind ∙ ap comment r.is_text }
  shown (str w t) s i h =
      let r = leaf_row s i 5 t w h in
      record { end = r.is_after; node = node_str (view_of s) i r.is_kind ∙ rw (r.is_text, str_width s i w t r) }
  shown (ascii t) s i h = let r = leaf_row s i 6 t 0 h in record { end = r.is_after; node = node_ascii (view_of s) i r.is_kind ∙ ap ascii r.is_text }
  shown line s i h = let r = leaf_row s i 7 no_text 0 h in record { end = r.is_after; node = node_line (view_of s) i r.is_kind }
  shown empty_line s i h = let r = leaf_row s i 8 no_text 0 h in record { end = r.is_after; node = node_empty (view_of s) i r.is_kind }
  shown line_or_space s i h = let r = leaf_row s i 9 no_text 0 h in record { end = r.is_after; node = node_space (view_of s) i r.is_kind }
  shown (if_wrap n a b) s i h =
      let e = length_rows_of a (i + 1) in
      if_shown s i n a b
      (pair_row s i 10 n 0 (size a) (size b) (rows_of a (i + 1)) (rows_of b (i + (1 + size a))) e h)
      (shown a s (i + 1) (pair_first s i 10 n 0 (size a) (size b) (rows_of a (i + 1)) (rows_of b (i + (1 + size a))) e h))
      (shown b s (i + (1 + size a)) (pair_second s i 10 n 0 (size a) (size b) (rows_of a (i + 1)) (rows_of b (i + (1 + size a))) e h))
  shown (call n e k a) s i h =
      let q = length_rows e (i + 1) in
      call_shown s i n k e a
      (pair_row s i 11 n k (sizes e) (sizes a) (rows e (i + 1)) (rows a (i + (1 + sizes e))) q h)
      (read_back e s (i + 1) (pair_first s i 11 n k (sizes e) (sizes a) (rows e (i + 1)) (rows a (i + (1 + sizes e))) q h))
      (read_back a s (i + (1 + sizes e)) (pair_second s i 11 n k (sizes e) (sizes a) (rows e (i + 1)) (rows a (i + (1 + sizes e))) q h))

  -- the nodes of the rows that flattened nodes are
  pub read_back : (ns : Nodes) (s : List ℕ) (i : ℕ) → Holds s i (rows ns i) → nodes_at (view_of s) i (i + sizes ns) ≡ ns
  read_back none s i h = none_shown s i
  read_back (n then ns) s i h = then_nodes s i n ns (shown n s i (then_first n ns s i h)) (read_back ns s (i + size n) (then_rest n ns s i h))

-- decode after flatten
pub flattened : (ns : Nodes) (s : List ℕ) (r : ℕ) → take (length (rows ns r)) (drop (r * 9) s) ≡ rows ns r → nodes_at (view_of s) r (r + sizes ns) ≡ ns
flattened ns s r e = read_back ns s r (holds_part s r (rows ns r) e)

-- These rows nest. What follows them, up to j, nests as well.
leaf_nests : (s : List ℕ) (i kind : ℕ) (t : Text) (w j d : ℕ) → Row s i kind 0 0 0 (i + 1) t w → 3 ≤ kind → kind ≤ LINE_OR_SPACE
    → 1 + d ≤ MAX_DEPTH
    → Nests (view_of s) (i + 1) j d
    → Nests (view_of s) i j d
leaf_nests s i kind t w j d r a b c g =
    let e = r.is_kind in
    let f = r.is_after in
    let l = nests_le g in
    leaf {i = i} {j = j} {d = d} (rw e a) (rw e b) (f ∙ add-one i) (omega arith) (omega arith) (rw (add-one i) at g)

module _ (s : List ℕ) (i kind n z j d : ℕ) (r : Row s i kind n 0 0 (i + (1 + z)) no_text 0) where
  block_nests : kind ≤ INDENT_NEXT → d < MAX_DEPTH → Nests (view_of s) (i + 1) (i + 1 + z) (suc d) → Nests (view_of s) (i + (1 + z)) j d
      → Nests (view_of s) i j d
  block_nests k c p g =
      let f = r.is_after in
      let e = r.is_kind in
      let l = nests_le g in
      let m : (view_of s).after i ≡ i + 1 + z = omega arith in
      block {i = i} {j = j} {d = d} (rw e k) (record { up = omega arith; to = omega arith }) c (rw (m, ← add-one i) p) (rw f g)

module _ (s : List ℕ) (i kind n k x y j d : ℕ) (r : Row s i kind n k (i + (1 + x)) (i + (1 + (x + y))) no_text 0)
    (c : d < MAX_DEPTH)
    (p : Nests (view_of s) (i + 1) (i + 1 + x) (suc d))
    (q : Nests (view_of s) (i + (1 + x)) (i + (1 + x) + y) (suc d))
    (g : Nests (view_of s) (i + (1 + (x + y))) j d)
  where
    is_second' : (view_of s).second i ≡ i + 1 + x
    is_second' = let e = r.is_second in omega arith

    is_after' : (view_of s).after i ≡ i + (1 + x) + y
    is_after' = let e = r.is_after in omega arith

    inside : RangeIn (view_of s) i j
    inside = let e = r.is_after in let l = nests_le g in record { up = omega arith; to = omega arith }

    first_part : Nests (view_of s) (suc i) ((view_of s).second i) (suc d)
    first_part = rw (is_second', ← add-one i) p

    second_part : Nests (view_of s) ((view_of s).second i) ((view_of s).after i) (suc d)
    second_part = rw (is_after', r.is_second) q

    pair_nests : kind ≡ CALL → Nests (view_of s) i j d
    pair_nests e =
        let a = r.is_second in
        let b = r.is_after in
        pair {i = i} {j = j} {d = d} (r.is_kind ∙ e) inside (record { up = omega arith; to = omega arith }) c first_part second_part (rw b g)

    two_nests : kind ≡ IF_WRAP → (view_of s).after (i + 1) ≡ i + 1 + x → (view_of s).after (i + (1 + x)) ≡ i + (1 + x) + y → 0 < x → 0 < y
        → Nests (view_of s) i j d
    two_nests e u w l m =
        let a = r.is_second in
        let b = r.is_after in
        two {i = i} {j = j} {d = d} (r.is_kind ∙ e) inside
        (record {
          first = rw (is_second', ← add-one i) u;
          second = rw (is_after', a) w;
          up = omega arith;
          to = omega arith;
        })
        c
        first_part
        second_part
        (rw b g)

none_rest : (s : List ℕ) (i j d : ℕ) → Nests (view_of s) (i + 0) j d → Nests (view_of s) i j d
none_rest s i j d g = subst (λ (x : ℕ). Nests (view_of s) x j d) (add-zero i) g

then_after : (s : List ℕ) (i a b j d : ℕ) → Nests (view_of s) (i + (a + b)) j d → Nests (view_of s) (i + a + b) j d
then_after s i a b j d g = subst (λ (x : ℕ). Nests (view_of s) x j d) (same i a b) g
  where
    same : (i a b : ℕ) → i + (a + b) ≡ i + a + b
    same i a b = omega arith

mutual
  unfolding rows_of size depth

  node_nests : (n : Node) (s : List ℕ) (i j d : ℕ) → Holds s i (rows_of n i)
      → depth n + d ≤ MAX_DEPTH → Nests (view_of s) (i + size n) j d → Nests (view_of s) i j d
  node_nests (group n ns) s i j d h l g =
      block_nests s i 0 n (sizes ns) j d (block_row s i 0 n ns h) (omega arith) (omega arith)
      (nodes_nest ns s (i + 1) (i + 1 + sizes ns) (suc d) (block_parts s i 0 n ns h) (omega arith) (over refl)) g
  node_nests (indent ns) s i j d h l g =
      block_nests s i 1 0 (sizes ns) j d (block_row s i 1 0 ns h) (omega arith) (omega arith)
      (nodes_nest ns s (i + 1) (i + 1 + sizes ns) (suc d) (block_parts s i 1 0 ns h) (omega arith) (over refl)) g
  node_nests (indent_next ns) s i j d h l g =
      block_nests s i 2 0 (sizes ns) j d (block_row s i 2 0 ns h) (omega arith) (omega arith)
      (nodes_nest ns s (i + 1) (i + 1 + sizes ns) (suc d) (block_parts s i 2 0 ns h) (omega arith) (over refl)) g
  node_nests wrap_parent s i j d h l g = leaf_nests s i 3 no_text 0 j d (leaf_row s i 3 no_text 0 h) (omega arith) (omega arith) l g
  node_nests (comment t) s i j d h l g = leaf_nests s i 4 t 0 j d (leaf_row s i 4 t 0 h) (omega arith) (omega arith) l g
  node_nests (str w t) s i j d h l g = leaf_nests s i 5 t w j d (leaf_row s i 5 t w h) (omega arith) (omega arith) l g
  node_nests (ascii t) s i j d h l g = leaf_nests s i 6 t 0 j d (leaf_row s i 6 t 0 h) (omega arith) (omega arith) l g
  node_nests line s i j d h l g = leaf_nests s i 7 no_text 0 j d (leaf_row s i 7 no_text 0 h) (omega arith) (omega arith) l g
  node_nests empty_line s i j d h l g = leaf_nests s i 8 no_text 0 j d (leaf_row s i 8 no_text 0 h) (omega arith) (omega arith) l g
  node_nests line_or_space s i j d h l g = leaf_nests s i 9 no_text 0 j d (leaf_row s i 9 no_text 0 h) (omega arith) (omega arith) l g
  node_nests (if_wrap n a b) s i j d h l g =
      let e = length_rows_of a (i + 1) in
      let x = pair_first s i 10 n 0 (size a) (size b) (rows_of a (i + 1)) (rows_of b (i + (1 + size a))) e h in
      let y = pair_second s i 10 n 0 (size a) (size b) (rows_of a (i + 1)) (rows_of b (i + (1 + size a))) e h in
      two_nests s i 10 n 0 (size a) (size b) j d
      (pair_row s i 10 n 0 (size a) (size b) (rows_of a (i + 1)) (rows_of b (i + (1 + size a))) e h)
      (omega arith)
      (node_nests a s (i + 1) (i + 1 + size a) (suc d) x (omega arith) (over refl))
      (node_nests b s (i + (1 + size a)) (i + (1 + size a) + size b) (suc d) y (omega arith) (over refl))
      g
      refl
      (shown a s (i + 1) x).end
      (shown b s (i + (1 + size a)) y).end
      (size_pos a)
      (size_pos b)
  node_nests (call n e k a) s i j d h l g =
      let q = length_rows e (i + 1) in
      pair_nests s i 11 n k (sizes e) (sizes a) j d
      (pair_row s i 11 n k (sizes e) (sizes a) (rows e (i + 1)) (rows a (i + (1 + sizes e))) q h)
      (omega arith)
      (nodes_nest e s (i + 1) (i + 1 + sizes e) (suc d)
      (pair_first s i 11 n k (sizes e) (sizes a) (rows e (i + 1)) (rows a (i + (1 + sizes e))) q h) (omega arith) (over refl))
      (nodes_nest a s
      (i + (1 + sizes e))
      (i + (1 + sizes e) + sizes a)
      (suc d)
      (pair_second s i 11 n k (sizes e) (sizes a) (rows e (i + 1)) (rows a (i + (1 + sizes e))) q h)
      (omega arith)
      (over refl))
      g
      refl

  nodes_nest : (ns : Nodes) (s : List ℕ) (i j d : ℕ) → Holds s i (rows ns i)
      → depths ns + d ≤ MAX_DEPTH → Nests (view_of s) (i + sizes ns) j d → Nests (view_of s) i j d
  nodes_nest none s i j d h l g = none_rest s i j d g
  nodes_nest (n then ns) s i j d h l g =
      node_nests n s i j d (then_first n ns s i h) (omega arith)
      (nodes_nest ns s (i + size n) j d (then_rest n ns s i h) (omega arith) (then_after s i (size n) (sizes ns) j d g))

-- the rows that flattened nodes are, where these are not too deep
pub all_nest : (ns : Nodes) (s : List ℕ) (i d : ℕ) → Holds s i (rows ns i) → depths ns + d ≤ MAX_DEPTH → Nests (view_of s) i (i + sizes ns) d
all_nest ns s i d h l = nodes_nest ns s i (i + sizes ns) d h l (over refl)
