-- Rows from the stop on are not read: the nodes of a range, that it nests and that its places are right depend on the rows of the range alone.
-- The decoder never looks past the end that it is given, and rows that nest end there.
-- Assumes nothing.
use mathlib.Core.Path.{◌≡◌, refl, sym, ap, ap₂, subst, subst₂, ◌∙◌}
use mathlib.Core.Bool.{cond}
use mathlib.Core.List.{List, [], ◌∷◌}
use Prim.Native.Nat.{ℕ, zero, suc, ◌+◌, ◌*◌, ◌-◌, ◌≤◌, ◌<◌, min, max}
use native.Mathlib.Omega.{arith}
use native.Mathlib.Decide.{dec_lt}
use lib.Dec.{ltb, eqb}
use lib.ListN.{get_or}
use lib.Seq.{get_or-take}
use Rattle.rows.specs.Places.{PLACES}
use Rattle.rows.specs.Node.{Node, Nodes, group, indent, indent_next, wrap_parent, comment, str, ascii}
use Rattle.rows.specs.Node.{line, empty_line, line_or_space, if_wrap, call, none, ◌then◌}
use Rattle.rows.specs.View.{View, cell, view_of, first_of, node_of, end_in, second_in, decode, nodes_at}
use Rattle.rows.proofs.Decode.{step, decode_none}
use Rattle.rows.specs.Nesting.{RangeIn, TwoParts, Split, Nests, over, leaf, block, two, pair}
use Rattle.renderer_rules.specs.Check.{places_fit, places_fit_by, text_whole}
use Rattle.cut_rule.specs.Laws.{SameBefore}

-- ---- views that show the same rows in a range
pub record Same (v u : View) (k : ℕ) : Type 0 where
  pub kind : v.kind k ≡ u.kind k
  pub number : v.number k ≡ u.number k
  pub number2 : v.number2 k ≡ u.number2 k
  pub second : v.second k ≡ u.second k
  pub after : v.after k ≡ u.after k
  pub text : v.text k ≡ u.text k
  pub width : v.width k ≡ u.width k

abbrev pub Agree : View → View → ℕ → ℕ → Type 0
Agree v u i j = (k : ℕ) → i ≤ k → k < j → Same v u k

-- ---- their nodes
node_same : (v u : View) (i : ℕ) (ns e a : Nodes) → Same v u i → node_of v i ns e a ≡ node_of u i ns e a
unfolding node_of
node_same v u i ns e a x =
    λ t.
    get_or
    (group (x.number t) ns
    ∷ indent ns
    ∷ indent_next ns
    ∷ wrap_parent
    ∷ comment (x.text t)
    ∷ str (x.width t) (x.text t)
    ∷ ascii (x.text t)
    ∷ line
    ∷ empty_line
    ∷ line_or_space
    ∷ if_wrap (x.number t) (first_of e) (first_of a)
    ∷ call (x.number t) e (x.number2 t) a
    ∷ [])
    (x.kind t)
    wrap_parent

step_same : (v u : View) (i j : ℕ) {a b c d a' b' c' d' : Nodes} → Same v u i → a ≡ a' → b ≡ b' → c ≡ c' → d ≡ d'
    → step v i j a b c d ≡ step u i j a' b' c' d'
unfolding step
step_same v u i j {a' = a'} {b' = b'} {c' = c'} {d' = d'} x p q r s =
    (λ t. step v i j (p t) (q t) (r t) (s t)) ∙ ap (λ (n : Node). cond (ltb i j) (n then d') none) (node_same v u i a' b' c' x)

-- the parts of row i lie behind it and not past j
pub in_end : (v : View) (i j k : ℕ) → i < j → k < end_in v i j → k < j
in_end v i j k h q = omega arith

pub in_second : (v : View) (i j k : ℕ) → i < j → k < second_in v i (end_in v i j) → k < j
in_second v i j k h q = omega arith

pub from_end : (v : View) (i j k : ℕ) → end_in v i j ≤ k → i ≤ k
from_end v i j k q = omega arith

pub from_second : (v : View) (i e k : ℕ) → second_in v i e ≤ k → i ≤ k
from_second v i e k q = omega arith

decode_step : (f : ℕ) (v u : View) (i j : ℕ) → ((k l : ℕ) → Agree v u k l → decode f v k l ≡ decode f u k l) → Agree v u i j → i < j
    → decode (suc f) v i j ≡ decode (suc f) u i j
unfolding decode step
decode_step f v u i j rec s h =
    let x = s i (omega arith) h in
    let e : end_in v i j ≡ end_in u i j = ap (λ (a : ℕ). max (suc i) (min a j)) x.after in
    let m : second_in v i (end_in v i j) ≡ second_in u i (end_in u i j) = ap₂ (λ (a b : ℕ). max (suc i) (min a b)) x.second e in
    step_same v u i j x
    (rec (suc i) (end_in v i j) (λ k p q. s k (omega arith) (in_end v i j k h q)) ∙ ap (decode f u (suc i)) e)
    (rec (suc i) (second_in v i (end_in v i j)) (λ k p q. s k (omega arith) (in_second v i j k h q)) ∙ ap (decode f u (suc i)) m)
    (rec (second_in v i (end_in v i j)) (end_in v i j) (λ k p q. s k (from_second v i (end_in v i j) k p) (in_end v i j k h q))
    ∙ ap₂ (decode f u) m e)
    (rec (end_in v i j) j (λ k p q. s k (from_end v i j k p) q) ∙ ap (λ (k : ℕ). decode f u k j) e)

decode_local : (f : ℕ) (v u : View) (i j : ℕ) → Agree v u i j → decode f v i j ≡ decode f u i j
decode_local zero v u i j s = unfold decode in refl
decode_local (suc f) v u i j s = go (λ k l t. decode_local f v u k l t) (dec_lt i j)
  where
    go : ((k l : ℕ) → Agree v u k l → decode f v k l ≡ decode f u k l) → Dec (i < j) → decode (suc f) v i j ≡ decode (suc f) u i j
    go rec (no h) = decode_none (suc f) v i j (omega arith) ∙ sym (decode_none (suc f) u i j (omega arith))
    go rec (yes h) = decode_step f v u i j rec s h

pub nodes_local : (v u : View) (i j : ℕ) → Agree v u i j → nodes_at v i j ≡ nodes_at u i j
unfolding nodes_at
nodes_local v u i j s = decode_local (j - i) v u i j s

-- ---- that they nest
same_within : {v u : View} {i j : ℕ} → Same v u i → RangeIn v i j → RangeIn u i j
same_within x w = record { up = omega (arith, x.after, w.up); to = omega (arith, x.after, w.to) }

same_split : {v u : View} {i : ℕ} → Same v u i → Split v i → Split u i
same_split x t = record { up = omega (arith, x.second, t.up); to = omega (arith, x.second, x.after, t.to) }

same_two : {v u : View} {i : ℕ} → Same v u i → Same v u (suc i) → Same v u (v.second i) → TwoParts v i → TwoParts u i
same_two {v} {u} {i} x y z t =
    record {
      first = sym y.after ∙ t.first ∙ x.second;
      second = ap (λ (k : ℕ). u.after k) (sym x.second) ∙ sym z.after ∙ t.second ∙ x.after;
      up = omega (arith, x.second, t.up);
      to = omega (arith, x.second, x.after, t.to);
    }

pub nests_local : {v : View} {i j d : ℕ} (u : View) → Agree v u i j → Nests v i j d → Nests u i j d
nests_local u s (over e) = over e
nests_local {v} {i} {j} u s (leaf a b e f q g) =
    let x = s i (omega arith) f in
    leaf (subst (λ (k : ℕ). 3 ≤ k) x.kind a) (subst (λ (k : ℕ). k ≤ 9) x.kind b) (sym x.after ∙ e) f q
    (nests_local u (λ k h l. s k (omega arith) l) g)
nests_local {v} {i} {j} {d} u s (block a w q g h) =
    let x = s i (omega arith) (omega (arith, w.up, w.to)) in
    block (subst (λ (k : ℕ). k ≤ 2) x.kind a) (same_within x w) q
    (subst (λ (k : ℕ). Nests u (suc i) k (suc d)) x.after (nests_local u (λ k l m. s k (omega arith) (omega (arith, w.to))) g))
    (subst (λ (k : ℕ). Nests u k j d) x.after (nests_local u (λ k l m. s k (omega (arith, w.up)) m) h))
nests_local {v} {i} {j} {d} u s (two a w t q g h l) =
    let x = s i (omega arith) (omega (arith, w.up, w.to)) in
    two (sym x.kind ∙ a) (same_within x w)
    (same_two x (s (suc i) (omega arith) (omega (arith, t.up, t.to, w.to))) (s (v.second i) (omega (arith, t.up)) (omega (arith, t.to, w.to))) t)
    q
    (subst (λ (k : ℕ). Nests u (suc i) k (suc d)) x.second (nests_local u (λ k m n. s k (omega arith) (omega (arith, t.to, w.to))) g))
    (subst₂ (λ (k m : ℕ). Nests u k m (suc d)) x.second x.after (nests_local u (λ k m n. s k (omega (arith, t.up)) (omega (arith, w.to))) h))
    (subst (λ (k : ℕ). Nests u k j d) x.after (nests_local u (λ k m n. s k (omega (arith, w.up)) n) l))
nests_local {v} {i} {j} {d} u s (pair a w t q g h l) =
    let x = s i (omega arith) (omega (arith, w.up, w.to)) in
    pair (sym x.kind ∙ a) (same_within x w) (same_split x t) q
    (subst (λ (k : ℕ). Nests u (suc i) k (suc d)) x.second (nests_local u (λ k m n. s k (omega arith) (omega (arith, t.to, w.to))) g))
    (subst₂ (λ (k m : ℕ). Nests u k m (suc d)) x.second x.after (nests_local u (λ k m n. s k (omega (arith, t.up)) (omega (arith, w.to))) h))
    (subst (λ (k : ℕ). Nests u k j d) x.after (nests_local u (λ k m n. s k (omega (arith, w.up)) n) l))

-- ---- that their places are right
pub places_by_cells : (rule : ℕ) (s b store other : List ℕ) (k l : ℕ) → ((c : ℕ) → c < 9 → cell store k c ≡ cell other l c)
    → places_fit_by rule s b store k ≡ places_fit_by rule s b other l
unfolding places_fit_by places_fit text_whole
places_by_cells rule s b store other k l at =
    rw (
      at 0 (omega arith),
      at 1 (omega arith),
      at 2 (omega arith),
      at 3 (omega arith),
      at 5 (omega arith),
      at 6 (omega arith),
      at 7 (omega arith),
      at 8 (omega arith),
    )

-- ---- stores with the same rows before a stop
module _ (n : ℕ) (store other : List ℕ) (e : SameBefore n store other) where
  pub cell_same : (k c : ℕ) → k < n → c < 9 → cell store k c ≡ cell other k c
  cell_same k c h l =
      sym (get_or-take (PLACES * n) store (k * PLACES + c) 0 (omega arith))
      ∙ ap (λ (x : List ℕ). get_or x (k * PLACES + c) 0) e
      ∙ get_or-take (PLACES * n) other (k * PLACES + c) 0 (omega arith)

  pub rows_same : (i : ℕ) → Agree (view_of store) (view_of other) i n
  unfolding view_of
  rows_same i k p q =
      let at : (c : ℕ) → c < 9 → cell store k c ≡ cell other k c = λ c l. cell_same k c q l in
      record {
        kind = at 0 (omega arith);
        number = at 1 (omega arith);
        number2 = at 2 (omega arith);
        second = at 3 (omega arith);
        after = at 4 (omega arith);
        text = λ t. record { origin = at 5 (omega arith) t; start = at 6 (omega arith) t; size = at 7 (omega arith) t };
        width = λ t. cond (eqb (at 0 (omega arith) t) 5) (at 8 (omega arith) t) 0;
      }

  pub places_same : (rule : ℕ) (s b : List ℕ) (k : ℕ) → k < n → places_fit_by rule s b store k ≡ places_fit_by rule s b other k
  places_same rule s b k q = places_by_cells rule s b store other k k (λ c l. cell_same k c q l)
