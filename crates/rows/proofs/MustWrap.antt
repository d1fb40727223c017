-- `must_wrap` of a range of rows, row by row: an `Indent` adds nothing of its own, so the range goes on flat; any other row that does not
-- wrap its parent is passed over.
-- Assumes nothing.
use mathlib.Core.Path.{◌≡◌, refl, ap, sym, ◌∙◌}
use mathlib.Core.Logic.{◌⊎◌, inl, inr}
use mathlib.Core.Bool.{Bool, true, false, ◌||◌}
use mathlib.Core.List.{List}
use Prim.Native.Nat.{ℕ, zero, suc, ◌+◌, ◌-◌, ◌≤◌, ◌<◌}
use native.Mathlib.Omega.{arith}
use native.Mathlib.Numerals.{add-one}
use Rattle.rows.specs.Kinds.{INDENT}
use Rattle.rows.specs.Places.{KIND, AFTER}
use Rattle.rows.specs.Node.{Nodes, none, ◌then◌, join, must_wrap, must_wraps}
use Rattle.rows.specs.View.{View, view_of, cell, nodes_at, node_of, node_at}
use Rattle.rows.specs.Nesting.{RangeIn, Nests}
use Rattle.rows.proofs.Decode.{nodes_some, nodes_none, node_indent}
use Rattle.rows.proofs.Nested.{nodes_join, nests_block, nests_after, nests_kind, nests_rest, nests_join, nests_weaken}

or_assoc : (a b c : Bool) → ((a || b) || c) ≡ (a || (b || c))
or_assoc true b c = refl
or_assoc false b c = refl

pub must_wraps_join : (a b : Nodes) → must_wraps (join a b) ≡ (must_wraps a || must_wraps b)
unfolding join must_wraps
must_wraps_join none b = refl
must_wraps_join (n then a) b = ap (λ x. must_wrap n || x) (must_wraps_join a b) ∙ sym (or_assoc (must_wrap n) (must_wraps a) (must_wraps b))

module _ (v : View) where
  must_some : (i j : ℕ) → RangeIn v i j → must_wraps (nodes_at v i j) ≡ (must_wrap (node_at v i) || must_wraps (nodes_at v (v.after i) j))
  unfolding must_wraps
  must_some i j w = ap must_wraps (nodes_some v i j w)

  pub must_true : (k i j : ℕ) → RangeIn v i j → v.kind i ≡ k → (k ≡ 3) ⊎ (k ≡ 4) → must_wraps (nodes_at v i j) ≡ true
  unfolding must_wrap node_at node_of
  must_true k i j w e (inl a) = must_some i j w ∙ rw (e ∙ a)
  must_true k i j w e (inr a) = must_some i j w ∙ rw (e ∙ a)

  -- an Indent: its parts and what follows are one range
  pub must_flat : {i j d : ℕ} → Nests v i j d → i < j → v.kind i ≡ INDENT → must_wraps (nodes_at v i j) ≡ must_wraps (nodes_at v (suc i) j)
  unfolding must_wrap
  must_flat {i} {j} g h k =
      let b = nests_block g h (omega arith) in
      must_some i j b.within
      ∙ rw (node_indent v i k)
      (sym (ap must_wraps (nodes_join j b.parts b.within.to) ∙ must_wraps_join (nodes_at v (suc i) (v.after i)) (nodes_at v (v.after i) j)))

  pub nests_flat : {i j d : ℕ} → Nests v i j d → i < j → v.kind i ≡ INDENT → Nests v (suc i) j d
  nests_flat {d = d} g h k = let b = nests_block g h (omega arith) in nests_join (nests_weaken d (omega arith) b.parts) b.rest

  must_none : (k i : ℕ) → v.kind i ≡ k → k ≤ 11 → (k ≡ 1 → ⊥) → (k ≡ 3 → ⊥) → (k ≡ 4 → ⊥) → must_wrap (node_at v i) ≡ false
  unfolding must_wrap node_at node_of
  must_none zero i e l a b c = rw e
  must_none (suc zero) i e l a b c = absurd (a refl)
  must_none (suc (suc zero)) i e l a b c = rw e
  must_none (suc (suc (suc zero))) i e l a b c = absurd (b refl)
  must_none (suc (suc (suc (suc zero)))) i e l a b c = absurd (c refl)
  must_none (suc (suc (suc (suc (suc zero))))) i e l a b c = rw e
  must_none (suc (suc (suc (suc (suc (suc zero)))))) i e l a b c = rw e
  must_none (suc (suc (suc (suc (suc (suc (suc zero))))))) i e l a b c = rw e
  must_none (suc (suc (suc (suc (suc (suc (suc (suc zero)))))))) i e l a b c = rw e
  must_none (suc (suc (suc (suc (suc (suc (suc (suc (suc zero))))))))) i e l a b c = rw e
  must_none (suc (suc (suc (suc (suc (suc (suc (suc (suc (suc zero)))))))))) i e l a b c = rw e
  must_none (suc (suc (suc (suc (suc (suc (suc (suc (suc (suc (suc zero))))))))))) i e l a b c = rw e
  must_none (suc (suc (suc (suc (suc (suc (suc (suc (suc (suc (suc (suc k)))))))))))) i e l a b c = absurd (omega arith)

  pub must_skip : {i j d : ℕ} (k : ℕ) → Nests v i j d → i < j → v.kind i ≡ k → (k ≡ 1 → ⊥)
      → (k ≡ 3 → ⊥) → (k ≡ 4 → ⊥) → must_wraps (nodes_at v i j) ≡ must_wraps (nodes_at v (v.after i) j)
  must_skip {i} {j} k g h e a b c = must_some i j (nests_after g h) ∙ rw (must_none k i e (rw e at (nests_kind g h)) a b c)

-- What the loop of `must_wrap` keeps: the rows from `row` on nest, and give the answer.
pub record MustAt (s : List ℕ) (from to row : ℕ) : Type 0 where
  pub good : Nests (view_of s) row to 0
  pub same : must_wraps (nodes_at (view_of s) row to) ≡ must_wraps (nodes_at (view_of s) from to)

module _ (s : List ℕ) (from to row : ℕ) (a : MustAt s from to row) where
  pub must_done : to ≤ row → false ≡ must_wraps (nodes_at (view_of s) from to)
  unfolding must_wraps
  must_done h = sym (ap must_wraps (nodes_none (view_of s) row to h)) ∙ a.same

  module _ (k : ℕ) (h : row < to) (e : k ≡ cell s row KIND) where
    pub must_found : (k ≡ 3) ⊎ (k ≡ 4) → true ≡ must_wraps (nodes_at (view_of s) from to)
    unfolding view_of
    must_found q = sym (must_true (view_of s) k row to (nests_after a.good h) (sym e) q) ∙ a.same

    pub must_in : k ≡ 1 → MustAt s from to (row + 1)
    unfolding view_of
    must_in q =
        rw (add-one row)
        (record {
          good = nests_flat (view_of s) a.good h (sym e ∙ q);
          same = sym (must_flat (view_of s) a.good h (sym e ∙ q)) ∙ a.same;
        })

    pub must_over : (n : ℕ) → n ≡ cell s row AFTER → (k ≡ 1 → ⊥) → (k ≡ 3 → ⊥) → (k ≡ 4 → ⊥) → MustAt s from to n
    unfolding view_of
    must_over n f x y z =
        rw f (record { good = nests_rest a.good h; same = sym (must_skip (view_of s) k a.good h (sym e) x y z) ∙ a.same })

    pub must_less : (n : ℕ) → n ≡ cell s row AFTER → to - n < to - row
    unfolding view_of
    must_less n f = let w = (nests_after a.good h).up in omega arith
