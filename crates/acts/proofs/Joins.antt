-- Laws of joined nodes: how many rows they take, and which.
-- Assumes nothing.
use mathlib.Core.Path.{◌≡◌, refl, sym, ap, ◌∙◌}
use mathlib.Core.List.{List, ◌++◌, append_assoc}
use Prim.Native.Nat.{ℕ, ◌+◌, ◌*◌}
use native.Mathlib.Omega.{arith}
use lib.ListN.{length, length-append}
use Rattle.rows.specs.Node.{Node, Nodes, group, indent, indent_next, wrap_parent, comment, str, ascii}
use Rattle.rows.specs.Node.{line, empty_line, line_or_space, if_wrap, call, none, ◌then◌, join}
use Rattle.rows.specs.Rows.{size, sizes, rows_of, rows}

pub sizes_join : (ns ms : Nodes) → sizes (join ns ms) ≡ sizes ns + sizes ms
unfolding sizes join
sizes_join none ms = omega arith
sizes_join (n then ns) ms = omega (arith, sizes_join ns ms)

pub join_assoc : (ns ms ls : Nodes) → join (join ns ms) ls ≡ join ns (join ms ls)
unfolding join
join_assoc none ms ls = refl
join_assoc (n then ns) ms ls = ap (λ (x : Nodes). n then x) (join_assoc ns ms ls)

pub join_none : (ns : Nodes) → join ns none ≡ ns
unfolding join
join_none none = refl
join_none (n then ns) = ap (λ (x : Nodes). n then x) (join_none ns)

-- nine numbers a row
mutual
  unfolding size rows_of

  pub length_rows_of : (n : Node) (r : ℕ) → length (rows_of n r) ≡ 9 * size n
  length_rows_of (group k ns) r = omega (arith, length_rows ns (r + 1))
  length_rows_of (indent ns) r = omega (arith, length_rows ns (r + 1))
  length_rows_of (indent_next ns) r = omega (arith, length_rows ns (r + 1))
  length_rows_of wrap_parent r = refl
  length_rows_of (comment t) r = refl
  length_rows_of (str w t) r = refl
  length_rows_of (ascii t) r = refl
  length_rows_of line r = refl
  length_rows_of empty_line r = refl
  length_rows_of line_or_space r = refl
  length_rows_of (if_wrap n a b) r =
      omega
      (arith, length-append (rows_of a (r + 1)) (rows_of b (r + (1 + size a))), length_rows_of a (r + 1), length_rows_of b (r + (1 + size a)))
  length_rows_of (call n e k a) r =
      omega
      (arith, length-append (rows e (r + 1)) (rows a (r + (1 + sizes e))), length_rows e (r + 1), length_rows a (r + (1 + sizes e)))

  pub length_rows : (ns : Nodes) (r : ℕ) → length (rows ns r) ≡ 9 * sizes ns
  length_rows none r = refl
  length_rows (n then ns) r =
      length-append (rows_of n r) (rows ns (r + size n)) ∙ omega (arith, length_rows_of n r, length_rows ns (r + size n))

pub rows_join : (ns ms : Nodes) (r : ℕ) → rows (join ns ms) r ≡ rows ns r ++ rows ms (r + sizes ns)
unfolding rows join size
rows_join none ms r = ap (λ (k : ℕ). rows ms k) (omega arith)
rows_join (n then ns) ms r =
    ap (λ (l : List ℕ). rows_of n r ++ l)
    (rows_join ns ms (r + size n) ∙ ap (λ (k : ℕ). rows ns (r + size n) ++ rows ms k) (omega arith))
    ∙ sym (append_assoc (rows_of n r) (rows ns (r + size n)) (rows ms (r + (size n + sizes ns))))
