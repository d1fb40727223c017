-- Laws of rows that nest: what a row of such a range gives by its kind, ranges joined, and the nodes of joined ranges.
-- Assumes nothing.
use mathlib.Core.Path.{◌≡◌, sym, subst}
use Prim.Native.Nat.{ℕ, suc, ◌≤◌, ◌<◌}
use native.Mathlib.Omega.{arith}
use Rattle.rows.specs.Limits.{MAX_DEPTH}
use Rattle.rows.specs.Kinds.{INDENT_NEXT, WRAP_PARENT, LINE_OR_SPACE, IF_WRAP, CALL}
use Rattle.rows.specs.Node.{join}
use Rattle.rows.specs.View.{View, nodes_at}
use Rattle.rows.specs.Nesting.{RangeIn, Split, TwoParts, Nests, over, leaf, block, two, pair}
use Rattle.rows.proofs.Decode.{nodes_some, nodes_none}

pub nests_le : {v : View} {i j d : ℕ} → Nests v i j d → i ≤ j
nests_le (over e) = omega arith
nests_le (leaf a b c e f g) = omega arith
nests_le (block a w d g h) = omega arith
nests_le (two a w t d g h k) = omega arith
nests_le (pair a w t d g h k) = omega arith

shallower : {c d : ℕ} → c ≤ d → d < MAX_DEPTH → c < MAX_DEPTH
shallower p q = omega arith

further : {i j k : ℕ} → i < j → j ≤ k → i < k
further p q = omega arith

more : {c d : ℕ} → c ≤ d → suc c ≤ suc d
more p = omega arith

pub nests_weaken : {v : View} {i j d : ℕ} (c : ℕ) → c ≤ d → Nests v i j d → Nests v i j c
nests_weaken c p (over e) = over e
nests_weaken c p (leaf a b e f q g) = leaf a b e f (shallower p q) (nests_weaken c p g)
nests_weaken c p (block a w q g h) = block a w (shallower p q) (nests_weaken (suc c) (more p) g) (nests_weaken c p h)
nests_weaken c p (two a w t q g h k) = two a w t (shallower p q) (nests_weaken (suc c) (more p) g) (nests_weaken (suc c) (more p) h) (nests_weaken c p k)
nests_weaken c p (pair a w t q g h k) = pair a w t (shallower p q) (nests_weaken (suc c) (more p) g) (nests_weaken (suc c) (more p) h) (nests_weaken c p k)

wider : {v : View} {i j k : ℕ} → RangeIn v i j → j ≤ k → RangeIn v i k
wider w h = record { up = w.up; to = omega arith }

pub nests_join : {v : View} {i j k d : ℕ} → Nests v i j d → Nests v j k d → Nests v i k d
nests_join {v} {k = k} {d = d} (over e) r = subst (λ (x : ℕ). Nests v x k d) (sym e) r
nests_join (leaf a b e f q g) r = leaf a b e (further f (nests_le r)) q (nests_join g r)
nests_join (block a w q g h) r = block a (wider w (nests_le r)) q g (nests_join h r)
nests_join (two a w t q g h l) r = two a (wider w (nests_le r)) t q g h (nests_join l r)
nests_join (pair a w t q g h l) r = pair a (wider w (nests_le r)) t q g h (nests_join l r)

pub leaf_within : {v : View} {i j : ℕ} → v.after i ≡ suc i → i < j → RangeIn v i j
leaf_within e h = record { up = omega arith; to = omega arith }

join_step : (v : View) (i j k : ℕ) → RangeIn v i j → j ≤ k → nodes_at v (v.after i) k ≡ join (nodes_at v (v.after i) j) (nodes_at v j k)
    → nodes_at v i k ≡ join (nodes_at v i j) (nodes_at v j k)
unfolding join
join_step v i j k w h e = rw (nodes_some v i k (wider w h), nodes_some v i j w, e)

-- the nodes of a range that nests, and of what follows it
pub nodes_join : {v : View} {i j d : ℕ} (k : ℕ) → Nests v i j d → j ≤ k → nodes_at v i k ≡ join (nodes_at v i j) (nodes_at v j k)
unfolding join
nodes_join {v} {i} {j} k (over e) h = rw (e, nodes_none v j j (omega arith))
nodes_join {v} {i} {j} k (leaf a b e f q g) h = join_step v i j k (leaf_within e f) h (rw e (nodes_join k g h))
nodes_join {v} {i} {j} k (block a w q g l) h = join_step v i j k w h (nodes_join k l h)
nodes_join {v} {i} {j} k (two a w t q g l r) h = join_step v i j k w h (nodes_join k r h)
nodes_join {v} {i} {j} k (pair a w t q g l r) h = join_step v i j k w h (nodes_join k r h)

-- What a row of a range that nests gives, by its kind.
pub record Leaf (v : View) (i j d : ℕ) : Type 0 where
  pub next : v.after i ≡ suc i
  pub shallow : d < MAX_DEPTH
  pub rest : Nests v (suc i) j d

pub record Block (v : View) (i j d : ℕ) : Type 0 where
  pub within : RangeIn v i j
  pub shallow : d < MAX_DEPTH
  pub parts : Nests v (suc i) (v.after i) (suc d)
  pub rest : Nests v (v.after i) j d

pub record Pair (v : View) (i j d : ℕ) : Type 0 where
  pub within : RangeIn v i j
  pub split : Split v i
  pub shallow : d < MAX_DEPTH
  pub first : Nests v (suc i) (v.second i) (suc d)
  pub second : Nests v (v.second i) (v.after i) (suc d)
  pub rest : Nests v (v.after i) j d

pub nests_leaf : {v : View} {i j d : ℕ} → Nests v i j d → i < j → WRAP_PARENT ≤ v.kind i → v.kind i ≤ LINE_OR_SPACE → Leaf v i j d
nests_leaf (over e) h a b = absurd (omega arith)
nests_leaf (leaf k l e f q g) h a b = record { next = e; shallow = q; rest = g }
nests_leaf (block k w q g r) h a b = absurd (omega arith)
nests_leaf (two k w t q g l r) h a b = absurd (omega arith)
nests_leaf (pair k w t q g l r) h a b = absurd (omega arith)

pub nests_block : {v : View} {i j d : ℕ} → Nests v i j d → i < j → v.kind i ≤ INDENT_NEXT → Block v i j d
nests_block (over e) h a = absurd (omega arith)
nests_block (leaf k l e f q g) h a = absurd (omega arith)
nests_block (block k w q g r) h a = record { within = w; shallow = q; parts = g; rest = r }
nests_block (two k w t q g l r) h a = absurd (omega arith)
nests_block (pair k w t q g l r) h a = absurd (omega arith)

pub nests_two : {v : View} {i j d : ℕ} → Nests v i j d → i < j → v.kind i ≡ IF_WRAP → TwoParts v i × Pair v i j d
nests_two (over e) h a = absurd (omega arith)
nests_two (leaf k l e f q g) h a = absurd (omega arith)
nests_two (block k w q g r) h a = absurd (omega arith)
nests_two (two k w t q g l r) h a =
    (t, record { within = w; split = record { up = omega arith; to = omega arith }; shallow = q; first = g; second = l; rest = r })
nests_two (pair k w t q g l r) h a = absurd (omega arith)

pub nests_pair : {v : View} {i j d : ℕ} → Nests v i j d → i < j → v.kind i ≡ CALL → Pair v i j d
nests_pair (over e) h a = absurd (omega arith)
nests_pair (leaf k l e f q g) h a = absurd (omega arith)
nests_pair (block k w q g r) h a = absurd (omega arith)
nests_pair (two k w t q g l r) h a = absurd (omega arith)
nests_pair (pair k w t q g l r) h a = record { within = w; split = t; shallow = q; first = g; second = l; rest = r }

pub nests_kind : {v : View} {i j d : ℕ} → Nests v i j d → i < j → v.kind i ≤ CALL
nests_kind (over e) h = absurd (omega arith)
nests_kind (leaf k l e f q g) h = omega arith
nests_kind (block k w q g r) h = omega arith
nests_kind (two k w t q g l r) h = omega arith
nests_kind (pair k w t q g l r) h = omega arith

pub nests_after : {v : View} {i j d : ℕ} → Nests v i j d → i < j → RangeIn v i j
nests_after (over e) h = absurd (omega arith)
nests_after (leaf k l e f q g) h = leaf_within e f
nests_after (block k w q g r) h = w
nests_after (two k w t q g l r) h = w
nests_after (pair k w t q g l r) h = w

pub nests_rest : {v : View} {i j d : ℕ} → Nests v i j d → i < j → Nests v (v.after i) j d
nests_rest (over e) h = absurd (omega arith)
nests_rest {v} {j = j} {d = d} (leaf k l e f q g) h = subst (λ (x : ℕ). Nests v x j d) (sym e) g
nests_rest (block k w q g r) h = r
nests_rest (two k w t q g l r) h = r
nests_rest (pair k w t q g l r) h = r

pub nests_deep : {v : View} {i j d : ℕ} → Nests v i j d → i < j → d < MAX_DEPTH
nests_deep (over e) h = absurd (omega arith)
nests_deep (leaf k l e f q g) h = q
nests_deep (block k w q g r) h = q
nests_deep (two k w t q g l r) h = q
nests_deep (pair k w t q g l r) h = q
