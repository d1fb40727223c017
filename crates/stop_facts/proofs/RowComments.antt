-- Nodes that stand at the rows of a range that nests: their comments are those of these rows, where their `IfWrap`s choose between a comma and
-- nothing. By induction on the nodes.
-- Assumes nothing.
use mathlib.Core.Path.{◌≡◌, refl, sym, ap, subst, ◌∙◌}
use mathlib.Core.Bool.{cond}
use mathlib.Core.List.{List, [], ◌∷◌, ◌++◌, append-nil, append_assoc}
use Prim.Native.Nat.{ℕ, zero, suc, ◌≤◌, ◌<◌}
use native.Mathlib.Omega.{arith}
use borrow.Author.Tests.{ne_eqb}
use lib.Dec.{eqb}
use Rattle.rows.specs.Kinds.{WRAP_PARENT, COMMENT, LINE_OR_SPACE, INDENT_NEXT, IF_WRAP}
use Rattle.rows.specs.Node.{Text, Node, Nodes, group, indent, indent_next, wrap_parent, comment as comment_node, str, ascii}
use Rattle.rows.specs.Node.{line, empty_line, line_or_space, if_wrap, call, none, ◌then◌}
use Rattle.rows.specs.View.{View, view_of, nodes_at, node_at, first_of}
use Rattle.rows.specs.Nesting.{RangeIn, TwoParts, Nests, over, leaf, block, two, pair}
use Rattle.rows.proofs.Decode.{nodes_some, nodes_none, node_group, node_indent, node_next, node_parent, node_comment, node_str, node_ascii}
use Rattle.rows.proofs.Decode.{node_line, node_empty, node_space, node_if, node_call}
use Rattle.rows.proofs.Nested.{leaf_within}
use Rattle.renderer_rules.specs.Holds.{Piece, a_comment, a_token, comments_among, pieces_of, pieces, comma_or_nothing, CommasChosenIn, CommasChosen}
use Rattle.cut_rule.specs.CutRule.{comments_in}

pub among_join : (ps qs : List Piece) → comments_among (ps ++ qs) ≡ comments_among ps ++ comments_among qs
unfolding comments_among
among_join [] qs = refl
among_join (a_comment t ∷ ps) qs = ap (λ (l : List Text). t ∷ l) (among_join ps qs)
among_join (a_token t ∷ ps) qs = among_join ps qs

module _ (store : List ℕ) where
  abbrev v : View
  v = view_of store

  -- row i holds no comment
  abbrev pub NoComment : ℕ → Type 0
  NoComment i = comments_in store (suc i) ≡ comments_in store i

  abbrev mutual
    -- a node is the rows from i up to j
    pub RowOf : Node → ℕ → ℕ → Type 0
    RowOf (group n ns) i j = NoComment i × RowsOf ns (suc i) j
    RowOf (indent ns) i j = NoComment i × RowsOf ns (suc i) j
    RowOf (indent_next ns) i j = NoComment i × RowsOf ns (suc i) j
    RowOf wrap_parent i j = NoComment i × (j ≡ suc i)
    RowOf (comment_node t) i j = (comments_in store (suc i) ≡ comments_in store i ++ (t ∷ [])) × (j ≡ suc i)
    RowOf (str w t) i j = NoComment i × (j ≡ suc i)
    RowOf (ascii t) i j = NoComment i × (j ≡ suc i)
    RowOf line i j = NoComment i × (j ≡ suc i)
    RowOf empty_line i j = NoComment i × (j ≡ suc i)
    RowOf line_or_space i j = NoComment i × (j ≡ suc i)
    RowOf (if_wrap n a b) i j = NoComment i × RowOf a (suc i) (v.second i) × RowOf b (v.second i) j
    RowOf (call n e k a) i j = NoComment i × RowsOf e (suc i) (v.second i) × RowsOf a (v.second i) j

    -- nodes are the rows from i up to j
    pub RowsOf : Nodes → ℕ → ℕ → Type 0
    RowsOf none i j = i ≡ j
    RowsOf (n then ns) i j = RowOf n i (v.after i) × RowsOf ns (v.after i) j

  -- ---- the nodes of a range that nests
  no_comment : (i k : ℕ) → v.kind i ≡ k → (k ≡ COMMENT → ⊥) → NoComment i
  unfolding view_of
  no_comment i k e h =
      ap (λ (t : _). comments_in store i ++ cond t (v.text i ∷ []) []) (ne_eqb (v.kind i) COMMENT (λ q. h (sym e ∙ q)))
      ∙ append-nil (comments_in store i)

  one_comment : (i : ℕ) → v.kind i ≡ COMMENT → comments_in store (suc i) ≡ comments_in store i ++ (v.text i ∷ [])
  unfolding view_of
  one_comment i e = ap (λ (k : ℕ). comments_in store i ++ cond (eqb k COMMENT) (v.text i ∷ []) []) e

  leaf_row : (i k : ℕ) → v.kind i ≡ k → WRAP_PARENT ≤ k → k ≤ LINE_OR_SPACE → RowOf (node_at v i) i (suc i)
  leaf_row i zero e a b = absurd (omega arith)
  leaf_row i (suc zero) e a b = absurd (omega arith)
  leaf_row i (suc (suc zero)) e a b = absurd (omega arith)
  leaf_row i (suc (suc (suc zero))) e a b = rw (node_parent v i e) (no_comment i 3 e (λ q. omega arith), refl)
  leaf_row i (suc (suc (suc (suc zero)))) e a b = rw (node_comment v i e) (one_comment i e, refl)
  leaf_row i (suc (suc (suc (suc (suc zero))))) e a b = rw (node_str v i e) (no_comment i 5 e (λ q. omega arith), refl)
  leaf_row i (suc (suc (suc (suc (suc (suc zero)))))) e a b = rw (node_ascii v i e) (no_comment i 6 e (λ q. omega arith), refl)
  leaf_row i (suc (suc (suc (suc (suc (suc (suc zero))))))) e a b = rw (node_line v i e) (no_comment i 7 e (λ q. omega arith), refl)
  leaf_row i (suc (suc (suc (suc (suc (suc (suc (suc zero)))))))) e a b = rw (node_empty v i e) (no_comment i 8 e (λ q. omega arith), refl)
  leaf_row i (suc (suc (suc (suc (suc (suc (suc (suc (suc zero))))))))) e a b = rw (node_space v i e) (no_comment i 9 e (λ q. omega arith), refl)
  leaf_row i (suc (suc (suc (suc (suc (suc (suc (suc (suc (suc k)))))))))) e a b = absurd (omega arith)

  block_row : (i k : ℕ) → v.kind i ≡ k → k ≤ INDENT_NEXT → RowsOf (nodes_at v (suc i) (v.after i)) (suc i) (v.after i) → RowOf (node_at v i) i (v.after i)
  block_row i zero e h p = rw (node_group v i e) (no_comment i 0 e (λ q. omega arith), p)
  block_row i (suc zero) e h p = rw (node_indent v i e) (no_comment i 1 e (λ q. omega arith), p)
  block_row i (suc (suc zero)) e h p = rw (node_next v i e) (no_comment i 2 e (λ q. omega arith), p)
  block_row i (suc (suc (suc k))) e h p = absurd (omega arith)

  first_row : (ns : Nodes) (i j : ℕ) → i < j → RowsOf ns i j → RowOf (first_of ns) i (v.after i)
  first_row none i j h p = absurd (omega (arith, p))
  first_row (n then ns) i j h p = p.0

  two_row : (i : ℕ) → v.kind i ≡ IF_WRAP → TwoParts v i → RowsOf (nodes_at v (suc i) (v.second i)) (suc i) (v.second i)
      → RowsOf (nodes_at v (v.second i) (v.after i)) (v.second i) (v.after i)
      → RowOf (node_at v i) i (v.after i)
  two_row i e t p q =
      let u = t.up in
      let w = t.to in
      rw (node_if v i e (record { up = omega arith; to = omega arith })) (
        no_comment i 10 e (λ q. omega arith),
        subst (λ (k : ℕ). RowOf (first_of (nodes_at v (suc i) (v.second i))) (suc i) k) t.first
            (first_row (nodes_at v (suc i) (v.second i)) (suc i) (v.second i) u p),
        subst (λ (k : ℕ). RowOf (first_of (nodes_at v (v.second i) (v.after i))) (v.second i) k) t.second
            (first_row (nodes_at v (v.second i) (v.after i)) (v.second i) (v.after i) w q),
      )

  then_rows : (i j : ℕ) → RangeIn v i j → RowOf (node_at v i) i (v.after i) → RowsOf (nodes_at v (v.after i) j) (v.after i) j
      → RowsOf (nodes_at v i j) i j
  then_rows i j h p q = rw (nodes_some v i j h) (p, q)

  pub rows_of : {i j d : ℕ} → Nests v i j d → RowsOf (nodes_at v i j) i j
  rows_of {i} {j} (over e) = rw (nodes_none v i j (omega arith)) e
  rows_of {i} {j} (leaf a b e f s g) =
      then_rows i j (leaf_within e f) (subst (λ (n : ℕ). RowOf (node_at v i) i n) (sym e) (leaf_row i (v.kind i) refl a b))
      (subst (λ (n : ℕ). RowsOf (nodes_at v n j) n j) (sym e) (rows_of g))
  rows_of {i} {j} (block a h s g l) = then_rows i j h (block_row i (v.kind i) refl a (rows_of g)) (rows_of l)
  rows_of {i} {j} (two a h t s g l m) = then_rows i j h (two_row i a t (rows_of g) (rows_of l)) (rows_of m)
  rows_of {i} {j} (pair a h t s g l m) =
      then_rows i j h (rw (node_call v i a t) (no_comment i 11 a (λ q. omega arith), rows_of g, rows_of l)) (rows_of m)

  -- ---- the comments of nodes are those of their rows
  -- so many rows, and then so many more
  abbrev pub Over : ℕ → ℕ → List Piece → Type 0
  Over i j ps = comments_in store j ≡ comments_in store i ++ comments_among ps

  pub over_none : (i j : ℕ) → comments_in store j ≡ comments_in store i → Over i j []
  unfolding comments_among
  over_none i j e = e ∙ sym (append-nil (comments_in store i))

  pub over_then : (i k j : ℕ) (ps qs : List Piece) → Over i k ps → Over k j qs → Over i j (ps ++ qs)
  over_then i k j ps qs x y =
      y
      ∙ ap (λ (l : List Text). l ++ comments_among qs) x
      ∙ append_assoc (comments_in store i) (comments_among ps) (comments_among qs)
      ∙ ap (λ (l : List Text). comments_in store i ++ l) (sym (among_join ps qs))

  -- behind a row without a comment
  pub over_behind : (i j : ℕ) (ps : List Piece) → NoComment i → Over (suc i) j ps → Over i j ps
  over_behind i j ps e x = x ∙ ap (λ (l : List Text). l ++ comments_among ps) e

  alone : (i j : ℕ) → NoComment i → j ≡ suc i → comments_in store j ≡ comments_in store i
  alone i j e k = ap (comments_in store) k ∙ e

  -- neither part of an `IfWrap` holds one
  pub no_comma : (i k : ℕ) (x y : Node) → CommasChosenIn (if_wrap k x y) → (j : ℕ) → RowOf (if_wrap k x y) i j
      → (comments_in store (v.second i) ≡ comments_in store i) × (comments_in store j ≡ comments_in store i)
  unfolding CommasChosenIn
  no_comma i k x y comma_or_nothing j q =
      let first = alone (suc i) (v.second i) q.1.0 q.1.1 ∙ q.0 in
      (first, alone (v.second i) j q.2.0 q.2.1 ∙ first)

  mutual
    unfolding pieces_of CommasChosenIn comments_among

    pub node_over : (n : Node) (i j : ℕ) → CommasChosenIn n → RowOf n i j → Over i j (pieces_of n)
    node_over (group n ns) i j c q = over_behind i j (pieces ns) q.0 (nodes_over ns (suc i) j c q.1)
    node_over (indent ns) i j c q = over_behind i j (pieces ns) q.0 (nodes_over ns (suc i) j c q.1)
    node_over (indent_next ns) i j c q = over_behind i j (pieces ns) q.0 (nodes_over ns (suc i) j c q.1)
    node_over wrap_parent i j c q = over_none i j (alone i j q.0 q.1)
    node_over (comment_node t) i j c q = ap (comments_in store) q.1 ∙ q.0
    node_over (str w t) i j c q = over_none i j (alone i j q.0 q.1)
    node_over (ascii t) i j c q = over_none i j (alone i j q.0 q.1)
    node_over line i j c q = over_none i j (alone i j q.0 q.1)
    node_over empty_line i j c q = over_none i j (alone i j q.0 q.1)
    node_over line_or_space i j c q = over_none i j (alone i j q.0 q.1)
    node_over (if_wrap n x y) i j c q = over_none i j (no_comma i n x y c j q).1
    node_over (call n e k a) i j c q =
        over_behind i j (pieces e ++ pieces a) q.0
        (over_then (suc i) (v.second i) j (pieces e) (pieces a) (nodes_over e (suc i) (v.second i) c.0 q.1) (nodes_over a (v.second i) j c.1 q.2))

    pub nodes_over : (ns : Nodes) (i j : ℕ) → CommasChosen ns → RowsOf ns i j → Over i j (pieces ns)
    nodes_over none i j c q = over_none i j (ap (comments_in store) (sym q))
    nodes_over (n then ns) i j c q =
        over_then i (v.after i) j (pieces_of n) (pieces ns) (node_over n i (v.after i) c.0 q.0) (nodes_over ns (v.after i) j c.1 q.1)
