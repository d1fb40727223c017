-- The numbers of the nodes of a range are those of its rows.
-- Assumes nothing.
use mathlib.Core.Path.{◌≡◌, refl, subst}
use mathlib.Core.Bool.{Bool, true, false, cond, ◌||◌}
use mathlib.Core.List.{List}
use Prim.Native.Nat.{ℕ, zero, suc, ◌+◌, ◌-◌, ◌≤◌, ◌<◌}
use native.Mathlib.Omega.{arith}
use native.Mathlib.Decide.{dec_lt}
use lib.Dec.{ltb, eqb}
use borrow.Author.Tests.{ltb-true}
use Rattle.rows.specs.Node.{Nodes, none, ◌then◌}
use Rattle.rows.specs.View.{View, cell, view_of, first_of, node_of, end_in, second_in, decode, nodes_at}
use Rattle.renderer_rules.proofs.Names.{names, names_in}
use Rattle.marks.specs.Marks.{numbers_of}
use Rattle.marks.proofs.Restored.{has}
use Rattle.marks.proofs.Undone.{owns, has_first}
use Rattle.whole_run.proofs.Local.{in_end, in_second, from_end, from_second}

-- x is a number of none of the rows
each_other : (x n : ℕ) (s : List ℕ) (i : ℕ) → owns x n s i ≡ false → (k : ℕ) → i ≤ k → k < i + n → has x (numbers_of s k) ≡ false
unfolding owns
each_other x zero s i e k p q = absurd (omega arith)
each_other x (suc n) s i e k p q =
    let f = has_first (has x (numbers_of s i)) (owns x n s (suc i)) e in
    go f.0 (λ a b. each_other x n s (suc i) f.1 k a b) (dec_lt i k)
  where
    go : has x (numbers_of s i) ≡ false → (suc i ≤ k → k < suc i + n → has x (numbers_of s k) ≡ false) → Dec (i < k) → has x (numbers_of s k) ≡ false
    go f rec (yes l) = rec l (omega arith)
    go f rec (no l) = let z : i ≡ k = omega arith in subst (λ (j : ℕ). has x (numbers_of s j) ≡ false) z f

-- x is a number of no node
first_other : (x : ℕ) (ns : Nodes) → names_in x ns ≡ false → names x (first_of ns) ≡ false
unfolding names
first_other x none h = refl
first_other x (n then ns) h = (has_first (names x n) (names_in x ns) h).0

or_false : (a b : Bool) → a ≡ false → b ≡ false → (a || b) ≡ false
or_false a b e f = rw (e, f)

node_other : (k x : ℕ) (s : List ℕ) (i : ℕ) (ns e a : Nodes) → cell s i 0 ≡ k → has x (numbers_of s i) ≡ false → names_in x ns ≡ false
    → names_in x e ≡ false
    → names_in x a ≡ false
    → names x (node_of (view_of s) i ns e a) ≡ false
unfolding node_of view_of names has
node_other zero x s i ns e a q h u v w =
    rw q (let l = has_first (eqb x (cell s i 1)) false (rw q at h) in or_false (eqb x (cell s i 1)) (names_in x ns) l.0 u)
node_other (suc zero) x s i ns e a q h u v w = rw q u
node_other (suc (suc zero)) x s i ns e a q h u v w = rw q u
node_other (suc (suc (suc zero))) x s i ns e a q h u v w = rw q
node_other (suc (suc (suc (suc zero)))) x s i ns e a q h u v w = rw q
node_other (suc (suc (suc (suc (suc zero))))) x s i ns e a q h u v w = rw q
node_other (suc (suc (suc (suc (suc (suc zero)))))) x s i ns e a q h u v w = rw q
node_other (suc (suc (suc (suc (suc (suc (suc zero))))))) x s i ns e a q h u v w = rw q
node_other (suc (suc (suc (suc (suc (suc (suc (suc zero)))))))) x s i ns e a q h u v w = rw q
node_other (suc (suc (suc (suc (suc (suc (suc (suc (suc zero))))))))) x s i ns e a q h u v w = rw q
node_other (suc (suc (suc (suc (suc (suc (suc (suc (suc (suc zero)))))))))) x s i ns e a q h u v w =
    rw q
    (let l = has_first (eqb x (cell s i 1)) false (rw q at h) in
    or_false (eqb x (cell s i 1)) (names x (first_of e) || names x (first_of a)) l.0
    (or_false (names x (first_of e)) (names x (first_of a)) (first_other x e v) (first_other x a w)))
node_other (suc (suc (suc (suc (suc (suc (suc (suc (suc (suc (suc zero))))))))))) x s i ns e a q h u v w =
    rw q
    (let l = has_first (eqb x (cell s i 1)) (eqb x (cell s i 2) || false) (rw q at h) in
    let m = has_first (eqb x (cell s i 2)) false l.1 in
    or_false (eqb x (cell s i 1) || eqb x (cell s i 2)) (names_in x e || names_in x a)
    (or_false (eqb x (cell s i 1)) (eqb x (cell s i 2)) l.0 m.0)
    (or_false (names_in x e) (names_in x a) v w))
node_other (suc (suc (suc (suc (suc (suc (suc (suc (suc (suc (suc (suc k)))))))))))) x s i ns e a q h u v w = rw q

module _ (x : ℕ) (s : List ℕ) where
  abbrev v : View
  v = view_of s

  -- none of the rows from i up to j has x
  abbrev Others : ℕ → ℕ → Type 0
  Others i j = (k : ℕ) → i ≤ k → k < j → has x (numbers_of s k) ≡ false

  decode_other : (f i j : ℕ) → Others i j → names_in x (decode f v i j) ≡ false
  unfolding decode names
  decode_other zero i j o = refl
  decode_other (suc f) i j o = go (λ k l t. decode_other f k l t) (ltb i j) refl
    where
      go : ((k l : ℕ) → Others k l → names_in x (decode f v k l) ≡ false) → (c : Bool) → ltb i j ≡ c
          → names_in x
          (cond c
          (node_of v i
          (decode f v (suc i) (end_in v i j))
          (decode f v (suc i) (second_in v i (end_in v i j)))
          (decode f v (second_in v i (end_in v i j)) (end_in v i j))
          then decode f v (end_in v i j) j)
          none)
          ≡ false
      go rec false e = refl
      go rec true e =
          let h = ltb-true i j e in
          or_false _ _
          (node_other (cell s i 0) x s i _ _ _ refl (o i (omega arith) h)
          (rec (suc i) (end_in v i j) (λ k p q. o k (omega arith) (in_end v i j k h q)))
          (rec (suc i) (second_in v i (end_in v i j)) (λ k p q. o k (omega arith) (in_second v i j k h q)))
          (rec (second_in v i (end_in v i j)) (end_in v i j) (λ k p q. o k (from_second v i (end_in v i j) k p) (in_end v i j k h q))))
          (rec (end_in v i j) j (λ k p q. o k (from_end v i j k p) q))

  pub nodes_other : (n from i j : ℕ) → owns x n s from ≡ false → from ≤ i → j ≤ from + n → names_in x (nodes_at (view_of s) i j) ≡ false
  unfolding nodes_at
  nodes_other n from i j e l h = decode_other (j - i) i j (λ k p q. each_other x n s from e k (omega arith) (omega arith))

  -- nor of the arguments of a `Call`
  pub second_other : (n from i : ℕ) → owns x n s from ≡ false → from ≤ i → i < from + n → cell s i 0 ≡ 11 → eqb x (cell s i 2) ≡ false
  unfolding has
  second_other n from i e l h k =
      let a = each_other x n s from e i l h in
      let b = has_first (eqb x (cell s i 1)) (eqb x (cell s i 2) || false) (rw k at a) in
      (has_first (eqb x (cell s i 2)) false b.1).0
