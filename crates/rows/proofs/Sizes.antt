-- How many numbers the rows of nodes are, and the rows of joined nodes.
-- Assumes nothing.
use mathlib.Core.Path.{◌≡◌, refl, ap, sym, ◌∙◌}
use Prim.Native.Nat.{ℕ, ◌+◌, ◌*◌, ◌<◌}
use native.Mathlib.Omega.{arith}
use mathlib.Core.List.{List, ◌∷◌, ◌++◌, append_assoc}
use lib.ListN.{length, length-append}
use Rattle.rows.specs.Places.{PLACES}
use Rattle.rows.specs.Node.{Node, Nodes, group, indent, indent_next, wrap_parent, comment, str}
use Rattle.rows.specs.Node.{ascii, line, empty_line, line_or_space, if_wrap, call, none, ◌then◌, join}
use Rattle.rows.specs.Rows.{size, sizes, rows_of, rows}

pub size_pos : (n : Node) → 0 < size n
unfolding size
size_pos (group n ns) = omega arith
size_pos (indent ns) = omega arith
size_pos (indent_next ns) = omega arith
size_pos wrap_parent = omega arith
size_pos (comment t) = omega arith
size_pos (str w t) = omega arith
size_pos (ascii t) = omega arith
size_pos line = omega arith
size_pos empty_line = omega arith
size_pos line_or_space = omega arith
size_pos (if_wrap n a b) = omega arith
size_pos (call n e k a) = omega arith

both : (a b : List ℕ) (m n : ℕ) → length a ≡ m * PLACES → length b ≡ n * PLACES → length (a ++ b) ≡ (m + n) * 9
both a b m n p q = length-append a b ∙ omega arith

-- nine numbers, and those of the parts
headed : (n : ℕ) (l : List ℕ) → length l ≡ n * PLACES → length (0 ∷ 0 ∷ 0 ∷ 0 ∷ 0 ∷ 0 ∷ 0 ∷ 0 ∷ 0 ∷ l) ≡ (1 + n) * 9
headed n l p = omega arith

mutual
  unfolding size rows_of

  pub length_rows_of : (n : Node) (r : ℕ) → length (rows_of n r) ≡ size n * PLACES
  length_rows_of (group n ns) r = headed (sizes ns) (rows ns (r + 1)) (length_rows ns (r + 1))
  length_rows_of (indent ns) r = headed (sizes ns) (rows ns (r + 1)) (length_rows ns (r + 1))
  length_rows_of (indent_next ns) r = headed (sizes ns) (rows ns (r + 1)) (length_rows ns (r + 1))
  length_rows_of wrap_parent r = refl
  length_rows_of (comment t) r = refl
  length_rows_of (str w t) r = refl
  length_rows_of (ascii t) r = refl
  length_rows_of line r = refl
  length_rows_of empty_line r = refl
  length_rows_of line_or_space r = refl
  length_rows_of (if_wrap n a b) r =
      headed (size a + size b) (rows_of a (r + 1) ++ rows_of b (r + (1 + size a)))
      (both (rows_of a (r + 1)) (rows_of b (r + (1 + size a))) (size a) (size b) (length_rows_of a (r + 1)) (length_rows_of b (r + (1 + size a))))
  length_rows_of (call n e k a) r =
      headed (sizes e + sizes a) (rows e (r + 1) ++ rows a (r + (1 + sizes e)))
      (both (rows e (r + 1)) (rows a (r + (1 + sizes e))) (sizes e) (sizes a) (length_rows e (r + 1)) (length_rows a (r + (1 + sizes e))))

  pub length_rows : (ns : Nodes) (r : ℕ) → length (rows ns r) ≡ sizes ns * 9
  length_rows none r = refl
  length_rows (n then ns) r = both (rows_of n r) (rows ns (r + size n)) (size n) (sizes ns) (length_rows_of n r) (length_rows ns (r + size n))

pub sizes_join : (a b : Nodes) → sizes (join a b) ≡ sizes a + sizes b
unfolding join sizes
sizes_join none b = omega arith
sizes_join (n then a) b = let h = sizes_join a b in omega arith

plus_zero : (r : ℕ) → r ≡ r + 0
plus_zero r = omega arith

regroup : (r a b : ℕ) → r + a + b ≡ r + (a + b)
regroup r a b = omega arith

pub rows_join : (a b : Nodes) (r : ℕ) → rows (join a b) r ≡ rows a r ++ rows b (r + sizes a)
unfolding join rows sizes
rows_join none b r = ap (rows b) (plus_zero r)
rows_join (n then a) b r =
    ap (λ (l : List ℕ). rows_of n r ++ l) (rows_join a b (r + size n))
    ∙ rw (regroup r (size n) (sizes a)) (sym (append_assoc (rows_of n r) (rows a (r + size n)) (rows b (r + (size n + sizes a)))))
