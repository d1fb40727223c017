-- The marks that a range of rows needs: of two ranges the larger, by its own rows alone, and enough for the nodes of the range.
-- Assumes nothing.
use mathlib.Core.Path.{◌≡◌, refl, sym, ap, ap₂, subst, ◌∙◌}
use mathlib.Core.Bool.{Bool, true, false, cond}
use mathlib.Core.List.{List}
use Prim.Native.Nat.{ℕ, zero, suc, ◌+◌, ◌-◌, ◌≤◌, ◌<◌, max}
use native.Mathlib.Omega.{arith}
use native.Mathlib.Decide.{dec_lt}
use native.Mathlib.Nat.{zero-add, add-zero, add-suc, suc-add}
use lib.Dec.{ltb}
use borrow.Author.Tests.{ltb-true}
use Rattle.rows.specs.Node.{Nodes, none, ◌then◌}
use Rattle.rows.specs.View.{View, cell, view_of, first_of, node_of, end_in, second_in, decode, nodes_at}
use Rattle.marks.specs.Marks.{row_marks, marks_needed}
use Rattle.whole_run.proofs.Local.{in_end, in_second, from_end, from_second}
use Rattle.whole_run.proofs.Past.{Under, Unders}

-- ---- a range's own rows
own_same : (store other : List ℕ) (k : ℕ) → ((c : ℕ) → c < 9 → cell store k c ≡ cell other k c) → row_marks store k ≡ row_marks other k
own_same store other k at = rw (at 0 (omega arith), at 1 (omega arith), at 2 (omega arith))

pub marks_local : (n : ℕ) (store other : List ℕ) (i : ℕ) → ((k c : ℕ) → i ≤ k → k < i + n → c < 9 → cell store k c ≡ cell other k c)
    → marks_needed n store i ≡ marks_needed n other i
unfolding marks_needed
marks_local zero store other i s = refl
marks_local (suc n) store other i s =
    ap₂ max (own_same store other i (λ c l. s i c (omega arith) (omega arith) l))
    (marks_local n store other (suc i) (λ k c p q l. s k c (omega arith) (omega arith) l))

-- ---- two ranges
pub marks_add : (n m : ℕ) (store : List ℕ) (i : ℕ) → marks_needed (n + m) store i ≡ max (marks_needed n store i) (marks_needed m store (i + n))
unfolding marks_needed
marks_add zero m store i =
    let e : marks_needed (0 + m) store i ≡ marks_needed m store i = ap (λ (x : ℕ). marks_needed x store i) (zero-add m) in
    let f : marks_needed m store (i + 0) ≡ marks_needed m store i = ap (marks_needed m store) (add-zero i) in
    omega arith
marks_add (suc n) m store i =
    let e : marks_needed (suc n + m) store i ≡ max (row_marks store i) (marks_needed (n + m) store (suc i)) =
    ap (λ (x : ℕ). marks_needed x store i) (suc-add n m)
    in
    let f : marks_needed m store (i + suc n) ≡ marks_needed m store (suc i + n) = ap (marks_needed m store) (add-suc i n ∙ sym (suc-add i n)) in
    let h = marks_add n m store (suc i) in
    omega arith

-- ---- enough for its nodes
pub each_under : (n : ℕ) (store : List ℕ) (i b : ℕ) → marks_needed n store i ≤ b → (k : ℕ) → i ≤ k → k < i + n → row_marks store k ≤ b
unfolding marks_needed
each_under zero store i b h k p q = absurd (omega arith)
each_under (suc n) store i b h k p q = go (λ x y. each_under n store (suc i) b (omega arith) k x y) (dec_lt i k)
  where
    go : (suc i ≤ k → k < suc i + n → row_marks store k ≤ b) → Dec (i < k) → row_marks store k ≤ b
    go rec (yes l) = rec l (omega arith)
    go rec (no l) = let e : i ≡ k = omega arith in subst (λ (j : ℕ). row_marks store j ≤ b) e (omega arith)

first_under : (ns : Nodes) (b : ℕ) → Unders b ns → Under b (first_of ns)
first_under none b u = tt
first_under (n then ns) b u = u.0

node_under : (k : ℕ) (store : List ℕ) (i : ℕ) (ns e a : Nodes) (b : ℕ) → cell store i 0 ≡ k → row_marks store i ≤ b → Unders b ns → Unders b e
    → Unders b a
    → Under b (node_of (view_of store) i ns e a)
unfolding node_of view_of
node_under zero store i ns e a b q h x y z = rw q (let l = rw q at h in (omega arith, x))
node_under (suc zero) store i ns e a b q h x y z = rw q x
node_under (suc (suc zero)) store i ns e a b q h x y z = rw q x
node_under (suc (suc (suc zero))) store i ns e a b q h x y z = rw q tt
node_under (suc (suc (suc (suc zero)))) store i ns e a b q h x y z = rw q tt
node_under (suc (suc (suc (suc (suc zero))))) store i ns e a b q h x y z = rw q tt
node_under (suc (suc (suc (suc (suc (suc zero)))))) store i ns e a b q h x y z = rw q tt
node_under (suc (suc (suc (suc (suc (suc (suc zero))))))) store i ns e a b q h x y z = rw q tt
node_under (suc (suc (suc (suc (suc (suc (suc (suc zero)))))))) store i ns e a b q h x y z = rw q tt
node_under (suc (suc (suc (suc (suc (suc (suc (suc (suc zero))))))))) store i ns e a b q h x y z = rw q tt
node_under (suc (suc (suc (suc (suc (suc (suc (suc (suc (suc zero)))))))))) store i ns e a b q h x y z =
    rw q (let l = rw q at h in (omega arith, first_under e b y, first_under a b z))
node_under (suc (suc (suc (suc (suc (suc (suc (suc (suc (suc (suc zero))))))))))) store i ns e a b q h x y z =
    rw q (let l = rw q at h in (omega arith, omega arith, y, z))
node_under (suc (suc (suc (suc (suc (suc (suc (suc (suc (suc (suc (suc k)))))))))))) store i ns e a b q h x y z = rw q tt

decode_under : (f : ℕ) (store : List ℕ) (i j b : ℕ) → ((k : ℕ) → i ≤ k → k < j → row_marks store k ≤ b) → Unders b (decode f (view_of store) i j)
unfolding decode
decode_under zero store i j b s = tt
decode_under (suc f) store i j b s = go (λ k l t. decode_under f store k l b t) (ltb i j) refl
  where
    v : View
    v = view_of store

    go : ((k l : ℕ) → ((m : ℕ) → k ≤ m → m < l → row_marks store m ≤ b) → Unders b (decode f v k l)) → (c : Bool) → ltb i j ≡ c
        → Unders b
        (cond c
        (node_of v i
        (decode f v (suc i) (end_in v i j))
        (decode f v (suc i) (second_in v i (end_in v i j)))
        (decode f v (second_in v i (end_in v i j)) (end_in v i j))
        then decode f v (end_in v i j) j)
        none)
    go rec false e = tt
    go rec true e =
        let h = ltb-true i j e in (
          node_under (cell store i 0) store i _ _ _ b refl (s i (omega arith) h)
              (rec (suc i) (end_in v i j) (λ k p q. s k (omega arith) (in_end v i j k h q)))
              (rec (suc i) (second_in v i (end_in v i j)) (λ k p q. s k (omega arith) (in_second v i j k h q)))
              (rec (second_in v i (end_in v i j)) (end_in v i j) (λ k p q. s k (from_second v i (end_in v i j) k p) (in_end v i j k h q))),
          rec (end_in v i j) j (λ k p q. s k (from_end v i j k p) q),
        )

pub nodes_under : (store : List ℕ) (n i j k b : ℕ) → marks_needed n store i ≤ b → i ≤ j → k ≤ i + n → Unders b (nodes_at (view_of store) j k)
unfolding nodes_at
nodes_under store n i j k b h p q = decode_under (k - j) store j k b (λ m x y. each_under n store i b h m (omega arith) (omega arith))
