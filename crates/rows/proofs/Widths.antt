-- The width of a range of rows, row by row: a block or a `Call` adds nothing of its own, so the range goes on flat; of an `IfWrap` the
-- chosen part alone is summed.
-- Assumes nothing.
use mathlib.Core.Path.{◌≡◌, refl, ap, ap₂, ◌∙◌, subst}
use Prim.Native.Nat.{ℕ, zero, suc, ◌+◌, ◌≤◌, ◌<◌}
use native.Mathlib.Omega.{arith}
use native.Mathlib.Numerals.{add-one}
use mathlib.Core.Bool.{true, false, cond}
use mathlib.Core.List.{List}
use lib.Dec.{eqb}
use Rattle.rows.specs.Kinds.{INDENT_NEXT, WRAP_PARENT, STR, ASCII, LINE_OR_SPACE, IF_WRAP, CALL}
use Rattle.rows.specs.Node.{Text, Node, Nodes, none, ◌then◌, join, wrapped, width, widths}
use Rattle.rows.specs.View.{View, nodes_at, node_of, first_of, node_at}
use Rattle.rows.specs.Nesting.{RangeIn, Split, TwoParts, Nests}
use Rattle.rows.proofs.Decode.{nodes_some, nodes_none, node_group, node_indent, node_next, node_if, node_call}
use Rattle.rows.proofs.Nested.{leaf_within, nodes_join, nests_leaf, nests_block, nests_two, nests_pair, nests_kind, nests_join, nests_weaken}

pub widths_join : (a b : Nodes) (columns : Text → ℕ) (m : List ℕ) → widths columns m (join a b) ≡ widths columns m a + widths columns m b
unfolding join widths
widths_join none b columns m = omega arith
widths_join (n then a) b columns m = let h = widths_join a b columns m in omega arith

module _ (v : View) (columns : Text → ℕ) (m : List ℕ) where
  abbrev pub width_of : ℕ → ℕ → ℕ
  width_of i j = widths columns m (nodes_at v i j)

  width_some : (i j : ℕ) → RangeIn v i j → width_of i j ≡ width columns m (node_at v i) + width_of (v.after i) j
  unfolding widths
  width_some i j w = ap (λ (n : Nodes). widths columns m n) (nodes_some v i j w)

  width_split : {i j d : ℕ} (k : ℕ) → Nests v i j d → j ≤ k → width_of i k ≡ width_of i j + width_of j k
  width_split {i} {j} k g h = ap (λ (n : Nodes). widths columns m n) (nodes_join k g h) ∙ widths_join (nodes_at v i j) (nodes_at v j k) columns m

  width_block : (i : ℕ) → v.kind i ≤ INDENT_NEXT → width columns m (node_at v i) ≡ width_of (suc i) (v.after i)
  unfolding width node_at node_of
  width_block i h = go (v.kind i) refl h
    where
      go : (k : ℕ) → v.kind i ≡ k → k ≤ 2 → width columns m (node_at v i) ≡ width_of (suc i) (v.after i)
      go zero e q = ap (λ (n : Node). width columns m n) (node_group v i e)
      go (suc zero) e q = ap (λ (n : Node). width columns m n) (node_indent v i e)
      go (suc (suc zero)) e q = ap (λ (n : Node). width columns m n) (node_next v i e)
      go (suc (suc (suc k))) e q = absurd (omega arith)

  -- a block: its parts and what follows are one range
  pub width_flat : {i j d : ℕ} → v.kind i ≤ INDENT_NEXT → RangeIn v i j → Nests v (suc i) (v.after i) d → width_of i j ≡ width_of (suc i) j
  width_flat {i} {j} h w g =
      let a = width_some i j w in
      let b = width_split j g w.to in
      let c = width_block i h in
      omega arith

  pub width_flat_call : {i j d : ℕ} → v.kind i ≡ CALL → RangeIn v i j → Split v i
      → Nests v (suc i) (v.second i) d → Nests v (v.second i) (v.after i) d → width_of i j ≡ width_of (suc i) j
  unfolding width
  width_flat_call {i} {j} h w s g l =
      let a = width_some i j w in
      let b = width_split j (nests_join g l) w.to in
      let b2 = width_split (v.after i) g s.to in
      let c = ap (λ (n : Node). width columns m n) (node_call v i h s) in
      omega arith

  single_width : (i : ℕ) → RangeIn v i (v.after i) → width columns m (first_of (nodes_at v i (v.after i))) ≡ width_of i (v.after i)
  unfolding widths
  single_width i h = rw (nodes_some v i (v.after i) h, nodes_none v (v.after i) (v.after i) (omega arith)) (omega arith)

  width_if : (i : ℕ) → v.kind i ≡ IF_WRAP → TwoParts v i
      → width columns m (node_at v i) ≡ cond (wrapped m (v.number i)) (width_of (suc i) (v.second i)) (width_of (v.second i) (v.after i))
  unfolding width
  width_if i h t =
      ap (λ (n : Node). width columns m n) (node_if v i h (record { up = omega arith; to = omega arith }))
      ∙ ap₂ (cond (wrapped m (v.number i)))
      (rw t.first at (single_width (suc i) (record { up = omega arith; to = omega arith })))
      (rw t.second at (single_width (v.second i) (record { up = omega arith; to = omega arith })))

  -- an IfWrap's chosen part
  pub width_second : {i j d : ℕ} → v.kind i ≡ IF_WRAP → RangeIn v i j → TwoParts v i
      → Nests v (v.second i) (v.after i) d → wrapped m (v.number i) ≡ false → width_of i j ≡ width_of (v.second i) j
  width_second {i} {j} h w t g e =
      let a = width_some i j w in
      let b = width_split j g w.to in
      let c = rw e at (width_if i h t) in
      omega arith

  pub width_first : {i j : ℕ} → v.kind i ≡ IF_WRAP → RangeIn v i j → TwoParts v i
      → wrapped m (v.number i) ≡ true → width_of i j ≡ width_of (suc i) (v.second i) + width_of (v.after i) j
  width_first {i} {j} h w t e =
      let a = width_some i j w in
      let c = rw e at (width_if i h t) in
      omega arith

  -- a leaf's own width
  abbrev pub own_of : ℕ → ℕ → ℕ
  own_of k i = cond (eqb k STR) (v.width i) (cond (eqb k ASCII) (columns (v.text i)) (cond (eqb k LINE_OR_SPACE) 1 0))

  width_own : (i : ℕ) → WRAP_PARENT ≤ v.kind i → v.kind i ≤ LINE_OR_SPACE → width columns m (node_at v i) ≡ own_of (v.kind i) i
  unfolding node_at width node_of
  width_own i h l = go (v.kind i) refl h l
    where
      go : (k : ℕ) → v.kind i ≡ k → 3 ≤ k → k ≤ 9 → width columns m (node_at v i) ≡ own_of (v.kind i) i
      go zero e a b = absurd (omega arith)
      go (suc zero) e a b = absurd (omega arith)
      go (suc (suc zero)) e a b = absurd (omega arith)
      go (suc (suc (suc zero))) e a b = rw e
      go (suc (suc (suc (suc zero)))) e a b = rw e
      go (suc (suc (suc (suc (suc zero))))) e a b = rw e
      go (suc (suc (suc (suc (suc (suc zero)))))) e a b = rw e
      go (suc (suc (suc (suc (suc (suc (suc zero))))))) e a b = rw e
      go (suc (suc (suc (suc (suc (suc (suc (suc zero)))))))) e a b = rw e
      go (suc (suc (suc (suc (suc (suc (suc (suc (suc zero))))))))) e a b = rw e
      go (suc (suc (suc (suc (suc (suc (suc (suc (suc (suc n)))))))))) e a b = absurd (omega arith)

  pub width_leaf : (i j : ℕ) → WRAP_PARENT ≤ v.kind i → v.kind i ≤ LINE_OR_SPACE
      → v.after i ≡ suc i → i < j → width_of i j ≡ own_of (v.kind i) i + width_of (suc i) j
  width_leaf i j h l e f = width_some i j (leaf_within e f) ∙ rw (width_own i h l, e)

-- A row that a sum passes: what is ahead from the next one nests as before, and has the width of what was ahead without the row's own.
pub record Onward (v : View) (columns : Text → ℕ) (m : List ℕ) (i j d own next : ℕ) : Type 0 where
  pub nests : Nests v next j d
  pub width : width_of v columns m i j ≡ own + width_of v columns m next j

module _ (v : View) (columns : Text → ℕ) (m : List ℕ) {i j d : ℕ} (g : Nests v i j d) (h : i < j) where
  on_leaf : WRAP_PARENT ≤ v.kind i → v.kind i ≤ LINE_OR_SPACE → Onward v columns m i j d (own_of v columns m (v.kind i) i) (i + 1)
  on_leaf a b =
      let l = nests_leaf g h a b in
      rw (add-one i) (record { nests = l.rest; width = width_leaf v columns m i j a b l.next h })

  on_block : v.kind i ≤ INDENT_NEXT → Onward v columns m i j d 0 (i + 1)
  on_block a =
      let l = nests_block g h a in
      let e = width_flat v columns m a l.within l.parts in
      rw (add-one i) (record { nests = nests_join (nests_weaken d (omega arith) l.parts) l.rest; width = omega arith })

  on_call : v.kind i ≡ CALL → Onward v columns m i j d 0 (i + 1)
  on_call a =
      let l = nests_pair g h a in
      let e = width_flat_call v columns m a l.within l.split l.first l.second in
      rw (add-one i)
      (record { nests = nests_join (nests_weaken d (omega arith) (nests_join l.first l.second)) l.rest; width = omega arith })

  own_kind : {k : ℕ} → v.kind i ≡ k → Onward v columns m i j d (own_of v columns m (v.kind i) i) (i + 1)
      → Onward v columns m i j d (own_of v columns m k i) (i + 1)
  own_kind e o = subst (λ (q : ℕ). Onward v columns m i j d (own_of v columns m q i) (i + 1)) e o

  -- any row but an `IfWrap`
  pub on_other : (k : ℕ) → v.kind i ≡ k → (k ≡ 10 → ⊥) → Onward v columns m i j d (own_of v columns m k i) (i + 1)
  on_other zero e n = on_block (omega arith)
  on_other (suc zero) e n = on_block (omega arith)
  on_other (suc (suc zero)) e n = on_block (omega arith)
  on_other (suc (suc (suc zero))) e n = own_kind e (on_leaf (omega arith) (omega arith))
  on_other (suc (suc (suc (suc zero)))) e n = own_kind e (on_leaf (omega arith) (omega arith))
  on_other (suc (suc (suc (suc (suc zero))))) e n = own_kind e (on_leaf (omega arith) (omega arith))
  on_other (suc (suc (suc (suc (suc (suc zero)))))) e n = own_kind e (on_leaf (omega arith) (omega arith))
  on_other (suc (suc (suc (suc (suc (suc (suc zero))))))) e n = own_kind e (on_leaf (omega arith) (omega arith))
  on_other (suc (suc (suc (suc (suc (suc (suc (suc zero)))))))) e n = own_kind e (on_leaf (omega arith) (omega arith))
  on_other (suc (suc (suc (suc (suc (suc (suc (suc (suc zero))))))))) e n = own_kind e (on_leaf (omega arith) (omega arith))
  on_other (suc (suc (suc (suc (suc (suc (suc (suc (suc (suc zero)))))))))) e n = absurd (n refl)
  on_other (suc (suc (suc (suc (suc (suc (suc (suc (suc (suc (suc zero))))))))))) e n = on_call e
  on_other (suc (suc (suc (suc (suc (suc (suc (suc (suc (suc (suc (suc k)))))))))))) e n = absurd (let z = nests_kind g h in omega arith)

  -- an `IfWrap` that has not wrapped: its second part
  pub on_second : v.kind i ≡ IF_WRAP → wrapped m (v.number i) ≡ false → Onward v columns m i j d 0 (v.second i)
  on_second a b =
      let l = nests_two g h a in
      let e = width_second v columns m a l.1.within l.0 l.1.second b in
      record { nests = nests_join (nests_weaken d (omega arith) l.1.second) l.1.rest; width = omega arith }
