-- Rows that were laid, summed, are the rows of the nodes with sums.
-- Assumes nothing.
use mathlib.Core.Path.{◌≡◌, refl, ap, ap₂, sym, ◌∙◌}
use Prim.Native.Nat.{ℕ, ◌+◌, ◌*◌}
use native.Mathlib.Omega.{arith}
use native.Mathlib.Nat.{add-zero, zero-add}
use mathlib.Core.Bool.{Bool, true, false, cond}
use mathlib.Core.List.{List, [], ◌∷◌, ◌++◌, append_assoc, append-nil}
use lib.ListN.{length, get_or, set, take, drop, length-append}
use lib.Seq.{sets-eq, get_or-append-add, set_at, length-take-le}
use lib.Dec.{eqb}
use Rattle.rows.specs.Kinds.{GROUP, INDENT, INDENT_NEXT, WRAP_PARENT, COMMENT, STR, ASCII, LINE, EMPTY_LINE, LINE_OR_SPACE, IF_WRAP, CALL}
use Rattle.rows.specs.Places.{PLACES}
use Rattle.rows.specs.Node.{Text, Node, Nodes, group, indent, indent_next, wrap_parent, comment, str, ascii, line, empty_line, line_or_space, if_wrap, call}
use Rattle.rows.specs.Node.{none, ◌then◌}
use Rattle.rows.specs.Rows.{size, sizes, row, no_text, rows_of, rows}
use Rattle.rows.proofs.Sizes.{length_rows}
use Rattle.node_widths.specs.Summed.{summed, summed_all}
use Rattle.node_widths.proofs.Summed.{size_same, sizes_same}
use Rattle.row_widths.specs.Passes.{pass, row_summed, SummedRows}
use Rattle.row_widths.proofs.Passing.{pass_some}

module _ (f : ℕ → Text → ℕ) where
  -- the k rows x from row r on become y, whatever stands before and behind them
  record Becomes (k : ℕ) (x y : List ℕ) (r : ℕ) : Type 0 where
    by : (m : ℕ) (front more : List ℕ) → length front ≡ r * PLACES
        → pass (row_summed f) (k + m) (front ++ (x ++ more)) r ≡ pass (row_summed f) m ((front ++ y) ++ more) (r + k)
    sized : length y ≡ k * PLACES

  -- nothing
  no_rows : (r : ℕ) → Becomes 0 [] [] r
  no_rows r = record {
    by = λ m front more h.
        ap (λ (n : ℕ). pass (row_summed f) n (front ++ more) r) (zero-add m)
        ∙ ap₂ (λ (l : List ℕ) (k : ℕ). pass (row_summed f) m (l ++ more) k) (sym (append-nil front)) (sym (add-zero r));
    sized = refl;
  }

  -- some rows, and some behind them
  both : (k k2 : ℕ) (x y x2 y2 : List ℕ) (r r2 : ℕ) → r + k ≡ r2 → Becomes k x y r → Becomes k2 x2 y2 r2 → Becomes (k + k2) (x ++ x2) (y ++ y2) r
  both k k2 x y x2 y2 r r2 e a b =
      record {
        by = λ m front more h.
            ap₂ (λ (n : ℕ) (l : List ℕ). pass (row_summed f) n (front ++ l) r) (omega arith) (append_assoc x x2 more)
            ∙ a.by (k2 + m) front (x2 ++ more) h
            ∙ ap (λ (i : ℕ). pass (row_summed f) (k2 + m) ((front ++ y) ++ (x2 ++ more)) i) e
            ∙ b.by m (front ++ y) more (let l = length-append front y in let z = a.sized in omega arith)
            ∙ ap₂ (λ (l : List ℕ) (i : ℕ). pass (row_summed f) m (l ++ more) i) (append_assoc front y y2) (omega arith);
        sized = let l = length-append y y2 in let z = a.sized in let w = b.sized in omega arith;
      }

  -- one row
  step_row : (front more : List ℕ) (r k a b c d : ℕ) (t : Text) (w : ℕ) → length front ≡ r * PLACES
      → row_summed f (front ++ (row k a b c d t w ++ more)) r ≡ front ++ (row k a b c d t (cond (eqb k STR) (f w t) w) ++ more)
  unfolding row_summed
  step_row front more r k a b c d t w h =
      rw (at 0, at 5, at 6, at 7, at 8) (go (eqb k STR))
    where
      at : (p : ℕ) → get_or (front ++ (row k a b c d t w ++ more)) (r * PLACES + p) 0 ≡ get_or (row k a b c d t w ++ more) p 0
      at p = ap (λ (i : ℕ). get_or (front ++ (row k a b c d t w ++ more)) (i + p) 0) (sym h) ∙ get_or-append-add front (row k a b c d t w ++ more) p 0

      here : (v : ℕ) → set (front ++ (row k a b c d t w ++ more)) (r * PLACES + 8) v ≡ front ++ (row k a b c d t v ++ more)
      here v =
          let eight : List ℕ = k ∷ a ∷ b ∷ c ∷ d ∷ t.origin ∷ t.start ∷ t.size ∷ [] in
          let n : length (front ++ eight) ≡ r * PLACES + 8 = length-append front eight ∙ ap (λ (i : ℕ). i + 8) h in
          ap (λ (l : List ℕ). set l (r * PLACES + 8) v) (sym (append_assoc front eight (w ∷ more)))
          ∙ set_at (front ++ eight) w more v (r * PLACES + 8) n
          ∙ append_assoc front eight (v ∷ more)

      go : (x : Bool) → cond x (set (front ++ (row k a b c d t w ++ more)) (r * PLACES + 8) (f w t)) (front ++ (row k a b c d t w ++ more))
          ≡ front ++ (row k a b c d t (cond x (f w t) w) ++ more)
      go true = here (f w t)
      go false = refl

  one_row : (r k a b c d : ℕ) (t : Text) (w : ℕ) → Becomes 1 (row k a b c d t w) (row k a b c d t (cond (eqb k STR) (f w t) w)) r
  one_row r k a b c d t w = record {
    by = λ m front more h.
        ap (λ (n : ℕ). pass (row_summed f) n (front ++ (row k a b c d t w ++ more)) r) (omega arith)
        ∙ pass_some (row_summed f) m (front ++ (row k a b c d t w ++ more)) r
        ∙ ap₂ (λ (l : List ℕ) (i : ℕ). pass (row_summed f) m l i)
        (step_row front more r k a b c d t w h ∙ sym (append_assoc front (row k a b c d t (cond (eqb k STR) (f w t) w)) more))
        (omega arith);
    sized = refl;
  }

  -- one row, and some behind it
  led : (m : ℕ) (x y : List ℕ) (r k a b c d : ℕ) (t : Text) (w : ℕ) → Becomes m x y (r + 1)
      → Becomes (1 + m) (row k a b c d t w ++ x) (row k a b c d t (cond (eqb k STR) (f w t) w) ++ y) r
  led m x y r k a b c d t w h = both 1 m _ _ x y r (r + 1) refl (one_row r k a b c d t w) h

  mutual
    unfolding rows_of size summed

    node_becomes : (n : Node) (r : ℕ) → Becomes (size n) (rows_of n r) (rows_of (summed f n) r) r
    node_becomes (group n ns) r = rw (sizes_same f ns) (led (sizes ns) _ _ r GROUP n 0 0 (r + (1 + sizes ns)) no_text 0 (nodes_become ns (r + 1)))
    node_becomes (indent ns) r = rw (sizes_same f ns) (led (sizes ns) _ _ r INDENT 0 0 0 (r + (1 + sizes ns)) no_text 0 (nodes_become ns (r + 1)))
    node_becomes (indent_next ns) r = rw (sizes_same f ns) (led (sizes ns) _ _ r INDENT_NEXT 0 0 0 (r + (1 + sizes ns)) no_text 0 (nodes_become ns (r + 1)))
    node_becomes wrap_parent r = one_row r WRAP_PARENT 0 0 0 (r + 1) no_text 0
    node_becomes (comment t) r = one_row r COMMENT 0 0 0 (r + 1) t 0
    node_becomes (str w t) r = one_row r STR 0 0 0 (r + 1) t w
    node_becomes (ascii t) r = one_row r ASCII 0 0 0 (r + 1) t 0
    node_becomes line r = one_row r LINE 0 0 0 (r + 1) no_text 0
    node_becomes empty_line r = one_row r EMPTY_LINE 0 0 0 (r + 1) no_text 0
    node_becomes line_or_space r = one_row r LINE_OR_SPACE 0 0 0 (r + 1) no_text 0
    node_becomes (if_wrap n a b) r =
        rw (size_same f a, size_same f b)
        (led (size a + size b) _ _ r IF_WRAP n 0 (r + (1 + size a)) (r + (1 + (size a + size b))) no_text 0
        (both (size a) (size b) _ _ _ _ (r + 1) (r + (1 + size a)) (omega arith) (node_becomes a (r + 1)) (node_becomes b (r + (1 + size a)))))
    node_becomes (call n e k a) r =
        rw (sizes_same f e, sizes_same f a)
        (led (sizes e + sizes a) _ _ r CALL n k (r + (1 + sizes e)) (r + (1 + (sizes e + sizes a))) no_text 0
        (both (sizes e) (sizes a) _ _ _ _ (r + 1) (r + (1 + sizes e)) (omega arith) (nodes_become e (r + 1)) (nodes_become a (r + (1 + sizes e)))))

    nodes_become : (ns : Nodes) (r : ℕ) → Becomes (sizes ns) (rows ns r) (rows (summed_all f ns) r) r
    nodes_become none r = no_rows r
    nodes_become (n then ns) r = rw (size_same f n) (both (size n) (sizes ns) _ _ _ _ r (r + size n) refl (node_becomes n r) (nodes_become ns (r + size n)))

  no_more : (s : List ℕ) (i : ℕ) → pass (row_summed f) 0 s i ≡ s
  unfolding pass
  no_more s i = refl

pub summed_rows : SummedRows
summed_rows f ns s r h =
    let n = sizes ns in
    let x = rows ns r in
    let y = rows (summed_all f ns) r in
    let lx : length x ≡ n * PLACES = length_rows ns r in
    let ly : length y ≡ n * PLACES = (nodes_become f ns r).sized in
    let front = take (PLACES * r) s in
    let back = drop (PLACES * r + n * PLACES) s in
    let lf : length front ≡ r * PLACES = length-take-le (PLACES * r) s (omega arith) ∙ omega arith in
    ap (λ (l : List ℕ). pass (row_summed f) n l r)
    (sets-eq x s (PLACES * r) (omega arith)
    ∙ append_assoc front x (drop (PLACES * r + length x) s)
    ∙ ap (λ (k : ℕ). front ++ (x ++ drop (PLACES * r + k) s)) lx)
    ∙ ap (λ (k : ℕ). pass (row_summed f) k (front ++ (x ++ back)) r) (sym (add-zero n))
    ∙ (nodes_become f ns r).by 0 front back lf
    ∙ no_more f ((front ++ y) ++ back) (r + n)
    ∙ sym (sets-eq y s (PLACES * r) (omega arith) ∙ ap (λ (k : ℕ). (front ++ y) ++ drop (PLACES * r + k) s) ly)
