-- Rows from `lo` up to `hi` in which each `Ascii` is a `Str` are the nodes in which it is, whatever stands before and behind them.
-- Assumes nothing.
use mathlib.Core.Path.{◌≡◌, refl, ap, ap₂, ◌∙◌}
use mathlib.Core.Bool.{Bool, true, false, cond}
use mathlib.Core.List.{[], ◌∷◌}
use Prim.Native.Nat.{ℕ, zero, suc, ◌-◌, ◌≤◌, ◌<◌, min, max}
use native.Mathlib.Omega.{arith}
use lib.ListN.{get_or}
use lib.Dec.{ltb, eqb}
use borrow.Author.Tests.{eqb-true, eqb-false, ltb-true}
use Rattle.rows.specs.Node.{Text, Node, Nodes, group, indent, indent_next, wrap_parent, comment, str, ascii, line, empty_line, line_or_space, if_wrap, call}
use Rattle.rows.specs.Node.{none, ◌then◌}
use Rattle.rows.specs.View.{View, first_of, node_of, end_in, second_in, decode, nodes_at}
use Rattle.node_widths.specs.Measured.{measured, measured_all, TurnedAt, TurnedMeasures}

first_same : (f : Text → ℕ) (ns : Nodes) → first_of (measured_all f ns) ≡ measured f (first_of ns)
unfolding measured
first_same f none = refl
first_same f (n then ns) = refl

-- the node of a kind other than `Ascii`
by_kind : (f : Text → ℕ) (k n m w : ℕ) (t : Text) (ns e a : Nodes) → (k ≡ 6 → ⊥)
    → get_or
    (group n (measured_all f ns) ∷ indent (measured_all f ns) ∷ indent_next (measured_all f ns) ∷ wrap_parent ∷ comment t ∷ str w t ∷ ascii t ∷ line
    ∷ empty_line ∷ line_or_space ∷ if_wrap n (first_of (measured_all f e)) (first_of (measured_all f a)) ∷ call n (measured_all f e) m (measured_all f a) ∷ [])
    k wrap_parent
    ≡ measured f
    (get_or
    (group n ns ∷ indent ns ∷ indent_next ns ∷ wrap_parent ∷ comment t ∷ str w t ∷ ascii t ∷ line ∷ empty_line ∷ line_or_space
    ∷ if_wrap n (first_of e) (first_of a) ∷ call n e m a ∷ [])
    k wrap_parent)
unfolding measured
by_kind f zero n m w t ns e a h = refl
by_kind f (suc zero) n m w t ns e a h = refl
by_kind f (suc (suc zero)) n m w t ns e a h = refl
by_kind f (suc (suc (suc zero))) n m w t ns e a h = refl
by_kind f (suc (suc (suc (suc zero)))) n m w t ns e a h = refl
by_kind f (suc (suc (suc (suc (suc zero))))) n m w t ns e a h = refl
by_kind f (suc (suc (suc (suc (suc (suc zero)))))) n m w t ns e a h = absurd (h refl)
by_kind f (suc (suc (suc (suc (suc (suc (suc zero))))))) n m w t ns e a h = refl
by_kind f (suc (suc (suc (suc (suc (suc (suc (suc zero)))))))) n m w t ns e a h = refl
by_kind f (suc (suc (suc (suc (suc (suc (suc (suc (suc zero))))))))) n m w t ns e a h = refl
by_kind f (suc (suc (suc (suc (suc (suc (suc (suc (suc (suc zero)))))))))) n m w t ns e a h =
    ap₂ (λ (x y : Node). if_wrap n x y) (first_same f e) (first_same f a)
by_kind f (suc (suc (suc (suc (suc (suc (suc (suc (suc (suc (suc zero))))))))))) n m w t ns e a h = refl
by_kind f (suc (suc (suc (suc (suc (suc (suc (suc (suc (suc (suc (suc k)))))))))))) n m w t ns e a h = refl

past : (i x : ℕ) → suc i ≤ max (suc i) x
past i x = omega arith

inside : (i x j hi : ℕ) → suc i ≤ j → j ≤ hi → max (suc i) (min x j) ≤ hi
inside i x j hi a b = omega arith

module _ (f : Text → ℕ) (v v2 : View) (lo hi : ℕ) (t : (i : ℕ) → lo ≤ i → i < hi → TurnedAt f v v2 i) where
  node_same : (i : ℕ) → TurnedAt f v v2 i → (ns e a : Nodes)
      → node_of v2 i (measured_all f ns) (measured_all f e) (measured_all f a) ≡ measured f (node_of v i ns e a)
  unfolding node_of measured
  node_same i u ns e a = go (eqb (v.kind i) 6) refl
    where
      go : (x : Bool) → eqb (v.kind i) 6 ≡ x → node_of v2 i (measured_all f ns) (measured_all f e) (measured_all f a) ≡ measured f (node_of v i ns e a)
      go true q =
          let k = eqb-true (v.kind i) 6 q in
          rw (u.ascii_kind k, u.ascii_width k, u.text, k)
      go false q =
          let k = eqb-false (v.kind i) 6 q in
          rw (u.kind k, u.width k, u.number k, u.number2 k, u.text)
          (by_kind f (v.kind i) (v.number i) (v.number2 i) (v.width i) (v.text i) ns e a k)

  decode_same : (n i j : ℕ) → lo ≤ i → j ≤ hi → decode n v2 i j ≡ measured_all f (decode n v i j)
  unfolding decode measured
  decode_same zero i j l h = refl
  decode_same (suc n) i j l h = go (λ a b c d. decode_same n a b c d) (ltb i j) refl
    where
      -- the node of row i and those after it, by where its parts end
      here : View → ℕ → ℕ → Nodes
      here u m e = node_of u i (decode n u (suc i) e) (decode n u (suc i) m) (decode n u m e) then decode n u e j

      parts : ((a b : ℕ) → lo ≤ a → b ≤ hi → decode n v2 a b ≡ measured_all f (decode n v a b)) → TurnedAt f v v2 i
          → (m e : ℕ) → suc i ≤ m → m ≤ hi → suc i ≤ e → e ≤ hi
          → here v2 m e ≡ measured_all f (here v m e)
      parts d u m e x y z w =
          rw (d (suc i) e (omega arith) w, d (suc i) m (omega arith) y, d m e (omega arith) w, d e j (omega arith) h)
          (ap (λ (x : Node). x then measured_all f (decode n v e j)) (node_same i u (decode n v (suc i) e) (decode n v (suc i) m) (decode n v m e)))

      go : ((a b : ℕ) → lo ≤ a → b ≤ hi → decode n v2 a b ≡ measured_all f (decode n v a b)) → (x : Bool) → ltb i j ≡ x
          → cond x (here v2 (second_in v2 i (end_in v2 i j)) (end_in v2 i j)) none
          ≡ measured_all f (cond x (here v (second_in v i (end_in v i j)) (end_in v i j)) none)
      go d true q =
          let less : i < j = ltb-true i j q in
          let u = t i l (omega arith) in
          let end : end_in v2 i j ≡ end_in v i j = ap (λ (x : ℕ). max (suc i) (min x j)) u.after in
          let mid : second_in v2 i (end_in v2 i j) ≡ second_in v i (end_in v i j) = ap₂ (λ (x y : ℕ). max (suc i) (min x y)) u.second end in
          ap₂ (λ (m e : ℕ). here v2 m e) mid end
          ∙ parts d u (second_in v i (end_in v i j)) (end_in v i j)
          (past i (min (v.second i) (end_in v i j))) (inside i (v.second i) (end_in v i j) hi (past i (min (v.after i) j)) (inside i (v.after i) j hi less h))
          (past i (min (v.after i) j)) (inside i (v.after i) j hi less h)
      go d false q = refl

  range_measures : nodes_at v2 lo hi ≡ measured_all f (nodes_at v lo hi)
  unfolding nodes_at
  range_measures = decode_same (hi - lo) lo hi (omega arith) (omega arith)

pub turned_measures : TurnedMeasures
turned_measures f v v2 from stop t = range_measures f v v2 from stop t
