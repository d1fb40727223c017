-- What nodes add at most is no more than a sum over their rows, in any order: where parts are set in, a step for each row inside.
-- Assumes nothing.
use mathlib.Core.Path.{◌≡◌, refl, ap, ◌∙◌}
use Prim.Native.Nat.{ℕ, zero, suc, ◌+◌, ◌*◌, ◌-◌, ◌≤◌, ◌<◌}
use native.Mathlib.Omega.{arith}
use mathlib.Core.List.{List}
use Rattle.rows.specs.Kinds.{CALL, case_of}
use Rattle.rows.specs.Places.{KIND, AFTER, SIZE}
use Rattle.rows.specs.Node.{Node, Nodes, group, indent, indent_next, wrap_parent, comment as comment_node, str, ascii, line, empty_line}
use Rattle.rows.specs.Node.{line_or_space, if_wrap, call, none, ◌then◌}
use Rattle.rows.specs.Rows.{size, sizes}
use Rattle.rows.specs.View.{View, cell, view_of, first_of, nodes_at, node_at}
use Rattle.rows.specs.Nesting.{RangeIn, Split, Nests, over, leaf, block, two, pair}
use Rattle.rows.proofs.Decode.{nodes_none, nodes_some, node_group, node_indent, node_next, node_parent, node_comment, node_str, node_ascii}
use Rattle.rows.proofs.Decode.{node_line, node_empty, node_space, node_if, node_call}
use Rattle.rows.proofs.Nested.{leaf_within}
use Rattle.renderer_rules.specs.Most.{node_most, nodes_most}

-- What row i, of this kind, adds at most, where lines start m steps in: its text; a newline, another or a blank, and a line's start; where
-- it sets parts in, a step for itself and for each row inside.
abbrev pub row_most : ℕ → List ℕ → ℕ → ℕ → ℕ
row_most m store i kind =
    case_of
    (record {
      group = 0;
      indent = 4 * (cell store i AFTER - i);
      indent_next = 4 * (cell store i AFTER - i);
      wrap_parent = 0;
      comment = cell store i SIZE + (2 + 4 * m);
      str = cell store i SIZE;
      ascii = cell store i SIZE;
      line = 2 + 4 * m;
      empty_line = 2 + 4 * m;
      line_or_space = 2 + 4 * m;
      if_wrap = 0;
      call = 4 * (cell store i AFTER - i);
      no_kind = 0;
    })
    kind

-- what the n rows from i on add at most
unfoldable pub rows_most : ℕ → ℕ → List ℕ → ℕ → ℕ
rows_most zero m store i = 0
rows_most (suc n) m store i = row_most m store i (cell store i KIND) + rows_most n m store (suc i)

-- one step further in, each row adds four bytes at most
mutual
  unfolding node_most size

  node_in : (n : Node) (m : ℕ) → node_most n (suc m) ≤ node_most n m + 4 * size n
  node_in (group n ns) m = let h = nodes_in ns m in omega arith
  node_in (indent ns) m = let h = nodes_in ns (suc m) in omega arith
  node_in (indent_next ns) m = let h = nodes_in ns (suc m) in omega arith
  node_in wrap_parent m = omega arith
  node_in (comment_node t) m = omega arith
  node_in (str w t) m = omega arith
  node_in (ascii t) m = omega arith
  node_in line m = omega arith
  node_in empty_line m = omega arith
  node_in line_or_space m = omega arith
  node_in (if_wrap n a b) m = let h = node_in a m in let g = node_in b m in omega arith
  node_in (call n e k a) m = let h = nodes_in e (suc m) in let g = nodes_in a (suc m) in omega arith

  nodes_in : (ns : Nodes) (m : ℕ) → nodes_most ns (suc m) ≤ nodes_most ns m + 4 * sizes ns
  nodes_in none m = omega arith
  nodes_in (n then ns) m = let h = node_in n m in let g = nodes_in ns m in omega arith

-- ---- by rows that nest
first_most : (ns : Nodes) (m : ℕ) → node_most (first_of ns) m ≤ nodes_most ns m
unfolding node_most
first_most none m = omega arith
first_most (n then ns) m = omega arith

first_size : (ns : Nodes) (k : ℕ) → sizes ns ≤ k → 0 < k → size (first_of ns) ≤ k
unfolding size
first_size none k h g = g
first_size (n then ns) k h g = omega arith

module _ (s : List ℕ) where
  abbrev v : View
  v = view_of s

  -- the rows from i up to j
  abbrev span : ℕ → ℕ → ℕ → ℕ
  span m i j = rows_most (j - i) m s i

  parted : (a b m i k n : ℕ) → k ≡ i + a → n ≡ a + b → rows_most n m s i ≡ rows_most a m s i + rows_most b m s k
  unfolding rows_most
  parted zero b m i k n e f =
      let p : k ≡ i = omega arith in
      let q : n ≡ b = omega arith in
      rw (p, q) (omega arith)
  parted (suc a) b m i k n e f = let h = parted a b m (suc i) k (a + b) (omega arith) refl in rw (f ∙ more_one) (omega arith)
    where
      more_one : suc a + b ≡ suc (a + b)
      more_one = omega arith

  span_parts : (m i k j : ℕ) → i ≤ k → k ≤ j → span m i j ≡ span m i k + span m k j
  span_parts m i k j p q = parted (k - i) (j - k) m i k (j - i) (omega arith) (omega arith)

  span_row : (m i j : ℕ) → i < j → span m i j ≡ row_most m s i (cell s i KIND) + span m (suc i) j
  unfolding rows_most
  span_row m i j h = ap (λ (n : ℕ). rows_most n m s i) (one_less h)
    where
      one_less : i < j → j - i ≡ suc (j - suc i)
      one_less h = omega arith

  -- a range that nests has a row for each node
  node_size : (i j : ℕ) → RangeIn v i j → size (node_at v i) ≤ v.after i - i → sizes (nodes_at v (v.after i) j) ≤ j - v.after i
      → sizes (nodes_at v i j) ≤ j - i
  unfolding size
  node_size i j w a b = rw (nodes_some v i j w) (omega arith)

  leaf_size : (i : ℕ) (n : Node) → size n ≡ 1 → node_at v i ≡ n → size (node_at v i) ≤ 1
  leaf_size i n e f = rw f (omega arith)

  leaves_size : (i k : ℕ) → v.kind i ≡ k → 3 ≤ k → k ≤ 9 → size (node_at v i) ≤ 1
  unfolding size
  leaves_size i zero e p q = absurd (omega arith)
  leaves_size i (suc zero) e p q = absurd (omega arith)
  leaves_size i (suc (suc zero)) e p q = absurd (omega arith)
  leaves_size i (suc (suc (suc zero))) e p q = leaf_size i wrap_parent refl (node_parent v i e)
  leaves_size i (suc (suc (suc (suc zero)))) e p q = leaf_size i (comment_node (v.text i)) refl (node_comment v i e)
  leaves_size i (suc (suc (suc (suc (suc zero))))) e p q = leaf_size i (str (v.width i) (v.text i)) refl (node_str v i e)
  leaves_size i (suc (suc (suc (suc (suc (suc zero)))))) e p q = leaf_size i (ascii (v.text i)) refl (node_ascii v i e)
  leaves_size i (suc (suc (suc (suc (suc (suc (suc zero))))))) e p q = leaf_size i line refl (node_line v i e)
  leaves_size i (suc (suc (suc (suc (suc (suc (suc (suc zero)))))))) e p q = leaf_size i empty_line refl (node_empty v i e)
  leaves_size i (suc (suc (suc (suc (suc (suc (suc (suc (suc zero))))))))) e p q = leaf_size i line_or_space refl (node_space v i e)
  leaves_size i (suc (suc (suc (suc (suc (suc (suc (suc (suc (suc k)))))))))) e p q = absurd (omega arith)

  blocks_size : (i k : ℕ) → v.kind i ≡ k → k ≤ 2 → size (node_at v i) ≤ 1 + sizes (nodes_at v (suc i) (v.after i))
  unfolding size
  blocks_size i zero e p = rw (node_group v i e) (omega arith)
  blocks_size i (suc zero) e p = rw (node_indent v i e) (omega arith)
  blocks_size i (suc (suc zero)) e p = rw (node_next v i e) (omega arith)
  blocks_size i (suc (suc (suc k))) e p = absurd (omega arith)

  rows_size : {i j d : ℕ} → Nests v i j d → sizes (nodes_at v i j) ≤ j - i
  unfolding size
  rows_size {i} {j} (over e) = rw (nodes_none v i j (omega arith)) (omega arith)
  rows_size {i} {j} (leaf a b e f q g) =
      let h = leaves_size i (v.kind i) refl a b in
      let r : sizes (nodes_at v (v.after i) j) ≤ j - v.after i = rw e (rows_size g) in
      node_size i j (leaf_within e f) (omega arith) r
  rows_size {i} {j} (block a w q g r) =
      let h = blocks_size i (v.kind i) refl a in
      let k = rows_size g in
      let u = w.up in
      node_size i j w (omega arith) (rows_size r)
  rows_size {i} {j} (two a w t q g l r) =
      let x = rows_size g in
      let y = rows_size l in
      let b = t.up in
      let c = t.to in
      let k = first_size (nodes_at v (suc i) (v.second i)) (v.second i - suc i) x (omega arith) in
      let m = first_size (nodes_at v (v.second i) (v.after i)) (v.after i - v.second i) y (omega arith) in
      node_size i j w (rw (node_if v i a (record { up = omega arith; to = omega arith })) (omega arith)) (rows_size r)
  rows_size {i} {j} (pair a w t q g l r) =
      let x = rows_size g in
      let y = rows_size l in
      let b = t.up in
      let c = t.to in
      node_size i j w (rw (node_call v i a t) (omega arith)) (rows_size r)

  -- a leaf
  leaves_most : (m i k : ℕ) → v.kind i ≡ k → 3 ≤ k → k ≤ 9 → node_most (node_at v i) m ≤ row_most m s i k
  unfolding node_most view_of
  leaves_most m i zero e p q = absurd (omega arith)
  leaves_most m i (suc zero) e p q = absurd (omega arith)
  leaves_most m i (suc (suc zero)) e p q = absurd (omega arith)
  leaves_most m i (suc (suc (suc zero))) e p q = rw (node_parent v i e) (omega arith)
  leaves_most m i (suc (suc (suc (suc zero)))) e p q = rw (node_comment v i e) (omega arith)
  leaves_most m i (suc (suc (suc (suc (suc zero))))) e p q = rw (node_str v i e) (omega arith)
  leaves_most m i (suc (suc (suc (suc (suc (suc zero)))))) e p q = rw (node_ascii v i e) (omega arith)
  leaves_most m i (suc (suc (suc (suc (suc (suc (suc zero))))))) e p q = rw (node_line v i e) (omega arith)
  leaves_most m i (suc (suc (suc (suc (suc (suc (suc (suc zero)))))))) e p q = rw (node_empty v i e) (omega arith)
  leaves_most m i (suc (suc (suc (suc (suc (suc (suc (suc (suc zero))))))))) e p q = rw (node_space v i e) (omega arith)
  leaves_most m i (suc (suc (suc (suc (suc (suc (suc (suc (suc (suc k)))))))))) e p q = absurd (omega arith)

  -- parts that are set in: a step for the row, and for each row inside
  set_in : (m i j : ℕ) (ns : Nodes) → i < j → sizes ns ≤ j - suc i → 4 + nodes_most ns (suc m) ≤ 4 * (j - i) + nodes_most ns m
  set_in m i j ns h g = let k = nodes_in ns m in omega arith

  blocks_most : (m i k : ℕ) → v.kind i ≡ k → k ≤ 2 → i < v.after i → sizes (nodes_at v (suc i) (v.after i)) ≤ v.after i - suc i
      → node_most (node_at v i) m ≤ row_most m s i k + nodes_most (nodes_at v (suc i) (v.after i)) m
  unfolding node_most view_of
  blocks_most m i zero e p h g = rw (node_group v i e) (omega arith)
  blocks_most m i (suc zero) e p h g = rw (node_indent v i e) (set_in m i (v.after i) (nodes_at v (suc i) (v.after i)) h g)
  blocks_most m i (suc (suc zero)) e p h g = rw (node_next v i e) (set_in m i (v.after i) (nodes_at v (suc i) (v.after i)) h g)
  blocks_most m i (suc (suc (suc k))) e p h g = absurd (omega arith)

  calls_most : (m i : ℕ) → v.kind i ≡ CALL → Split v i → i < v.after i
      → sizes (nodes_at v (suc i) (v.second i)) ≤ v.second i - suc i
      → sizes (nodes_at v (v.second i) (v.after i)) ≤ v.after i - v.second i
      → node_most (node_at v i) m ≤ row_most m s i 11 + (nodes_most (nodes_at v (suc i) (v.second i)) m + nodes_most (nodes_at v (v.second i) (v.after i)) m)
  unfolding node_most view_of
  calls_most m i e t h a b =
      let x = nodes_in (nodes_at v (suc i) (v.second i)) m in
      let y = nodes_in (nodes_at v (v.second i) (v.after i)) m in
      let p = t.up in
      let q = t.to in
      rw (node_call v i e t) (omega arith)

  row_and_rest : (m i j : ℕ) → RangeIn v i j → node_most (node_at v i) m ≤ row_most m s i (v.kind i) + span m (suc i) (v.after i)
      → nodes_most (nodes_at v (v.after i) j) m ≤ span m (v.after i) j
      → nodes_most (nodes_at v i j) m ≤ span m i j
  unfolding node_most view_of
  row_and_rest m i j w a b =
      let u = w.up in
      let t = w.to in
      let x = span_row m i j (omega arith) in
      let y = span_parts m (suc i) (v.after i) j u t in
      rw (nodes_some v i j w) (omega arith)

  pub nested_most : {i j d : ℕ} (m : ℕ) → Nests v i j d → nodes_most (nodes_at v i j) m ≤ span m i j
  unfolding node_most
  nested_most {i} {j} m (over e) = rw (nodes_none v i j (omega arith)) (omega arith)
  nested_most {i} {j} m (leaf a b e f q g) =
      let h = leaves_most m i (v.kind i) refl a b in
      let r : nodes_most (nodes_at v (v.after i) j) m ≤ span m (v.after i) j = rw e (nested_most m g) in
      row_and_rest m i j (leaf_within e f) (omega arith) r
  nested_most {i} {j} m (block a w q g r) =
      let h = blocks_most m i (v.kind i) refl a w.up (rows_size g) in
      let k = nested_most m g in
      row_and_rest m i j w (omega arith) (nested_most m r)
  nested_most {i} {j} m (two a w t q g l r) =
      let x = nested_most m g in
      let y = nested_most m l in
      let b = t.up in
      let c = t.to in
      let k = first_most (nodes_at v (suc i) (v.second i)) m in
      let n = first_most (nodes_at v (v.second i) (v.after i)) m in
      let z = span_parts m (suc i) (v.second i) (v.after i) (omega arith) (omega arith) in
      row_and_rest m i j w (rw (node_if v i a (record { up = omega arith; to = omega arith }), a) (omega arith)) (nested_most m r)
  nested_most {i} {j} m (pair a w t q g l r) =
      let x = nested_most m g in
      let y = nested_most m l in
      let b = t.up in
      let c = t.to in
      let h = calls_most m i a t w.up (rows_size g) (rows_size l) in
      let z = span_parts m (suc i) (v.second i) (v.after i) (omega arith) (omega arith) in
      row_and_rest m i j w (rw a (omega arith)) (nested_most m r)
