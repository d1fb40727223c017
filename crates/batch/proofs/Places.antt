-- Every place that the reader refuses with lies in the source or in the image, whose limits are tested first.
-- Assumes nothing.
use mathlib.Core.Path.{◌≡◌, refl, ap}
use mathlib.Core.List.{List}
use mathlib.Core.Bool.{Bool, true, false, cond, not, ◌&&◌}
use Prim.Native.Nat.{ℕ, zero, suc, ◌+◌, ◌*◌, ◌≤◌}
use native.Mathlib.Omega.{arith}
use lib.ListN.{length}
use lib.Dec.{ltb, leb, eqb}
use borrow.Author.Tests.{ltb-true, leb-true, not-false}
use Rattle.laws.proofs.Booleans.{and_right}
use Rattle.text.specs.Utf8.{well_formed}
use Rattle.text.specs.Newlines.{is_range}
use Rattle.text.proofs.Prefixes.{prefix_inside}
use Rattle.image.specs.Bytes.{be16, be32}
use Rattle.image.specs.Limits.{MAX_SOURCE, MAX_BODY, MAX_COMMENTS, MAX_RECORDS_DEEP}
use Rattle.image.specs.Grammar.{bare, place, after, complete}
use Rattle.image.specs.Read.{Read, got, bad, bind, Head, head_at, stop_at, Tree, absent, nil}
use Rattle.image.specs.Read.{any_version, header_fits, width_bytes, comment_fits, comments_from, comments}
use Rattle.image.specs.Read.{shape, opens, skips, child_at, record_at, children_at, tree_at, read_tree, read_image, source_fits, read_with, read_all, step_of}
use Rattle.image.proofs.Accepted.{headed}
use Rattle.image.proofs.CommentList.{listed}
use Rattle.image.proofs.Reading.{child_within, record_bad, record_opens, within}
use Rattle.image.proofs.Shapes.{Opened, opened, opened_order}

-- read, or refused at m or before it
abbrev Before : {A : Type 0} → ℕ → Read A → Type 0
Before m (got a n) = Unit
Before m (bad n p) = p ≤ m

pick : {A : Type 0} (m : ℕ) (t : Bool) (x y : Read A) → (t ≡ true → Before m x) → (t ≡ false → Before m y) → Before m (cond t x y)
pick m true x y p q = p refl
pick m false x y p q = q refl

then : {A B : Type 0} (m : ℕ) (r : Read A) (k : A → ℕ → Read B) → Before m r → ((a : A) (n : ℕ) → r ≡ got a n → Before m (k a n))
    → Before m (bind r k)
then m (got a n) k p q = q a n refl
then m (bad n l) k p q = p

wider : {A : Type 0} (m k : ℕ) (r : Read A) → m ≤ k → Before m r → Before k r
wider m k (got a n) h p = tt
wider m k (bad n l) h p = omega arith

-- ---- records
opens_before : (s b : List ℕ) (v left p at end m : ℕ) → at ≤ m → Before m (opens s b v left p at end)
unfolding opens
opens_before s b v left p at end m h =
    pick m (not (shape b v p at end)) _ _ (λ e. h)
    (λ e. pick m (eqb left 0) _ _ (λ f. h) (λ f. pick m (not (is_range s (be32 b (at + 5)) (be32 b (at + 9)))) _ _ (λ g. h) (λ g. tt)))

-- a child that is read ends by the parent's end
abbrev Kept : (ℕ → ℕ → ℕ → Read Tree) → ℕ → Type 0
Kept one stop = (p at : ℕ) → at ≤ stop → Before stop (one p at stop) × ((t : Tree) (q : ℕ) → one p at stop ≡ got t q → q ≤ stop)

children_before : (one : ℕ → ℕ → ℕ → Read Tree) (stop : ℕ) → Kept one stop → (n row at : ℕ) → at ≤ stop
    → Before stop (children_at one n row at stop)
unfolding children_at
children_before one stop f zero row at h = h
children_before one stop f (suc n) row at h =
    let later = children_before one stop f n (after row) in
    pick stop (ltb at stop) _ _
    (λ e.
    pick stop (eqb row 0) (bad 4 at) _ (λ g. h)
    (λ g.
    then stop (one (place row) at stop) _ (f (place row) at h).0
    (λ t q r. then stop (children_at one n (after row) q stop) _ (later q ((f (place row) at h).1 t q r)) (λ ts end z. tt))))
    (λ e. pick stop (complete row) (got nil stop) (bad 4 at) (λ g. tt) (λ g. h))

module _ (s b : List ℕ) (v : ℕ) where
  abbrev Below : ℕ → Type 0
  Below left = (p at end : ℕ) → at ≤ end → Before end (record_at s b v left p at end)

  child_before : (left : ℕ) → Below left → (stop : ℕ) → Kept (child_at s b v left) stop
  child_before left below stop p at h = (
    pick stop (skips b p at stop) (got absent (at + 4)) _ (λ e. tt) (λ e. below (bare p) at stop h),
    λ t q e. (child_within s b v left p at stop q (ap step_of e)).1,
  )

  inner_before : (left : ℕ) → Below left → (p at end : ℕ) → Opened s b v (suc left) p at end → Before end (record_at s b v (suc left) p at end)
  inner_before left below p at end o =
      let r = within s b v left p at in
      let c =
      children_before (child_at s b v left) (stop_at b at) (child_before left below (stop_at b at)) (suc (length b)) _ (head_at b at).first (opened_order o)
      in
      rw (record_opens s b v left p at end o) (then end r _ (wider (stop_at b at) end r o.right.within c) (λ ts next e. tt))

  record_by : (left : ℕ) → ((p at end : ℕ) → Opened s b v left p at end → Before end (record_at s b v left p at end)) → Below left
  record_by left inner p at end h = go (opens s b v left p at end) refl (opens_before s b v left p at end end h)
    where
      go : (r : Read Head) → opens s b v left p at end ≡ r → Before end r → Before end (record_at s b v left p at end)
      go (got x k) e q = inner p at end (opened s b v left p at end x k e).0
      go (bad n k) e q = rw (record_bad s b v left p at end n k e) q

  record_before : (left : ℕ) → Below left
  record_before zero = record_by 0 (λ p at end o. absurd (o.more refl))
  record_before (suc left) = record_by (suc left) (inner_before left (record_before left))

-- ---- the whole
from_before : (o : Bool) (s b : List ℕ) (n least at m : ℕ) → at + 8 * n ≤ m → Before m (comments_from o s b n least at)
unfolding comments_from
from_before o s b zero least at m h = tt
from_before o s b (suc n) least at m h =
    pick m (comment_fits s b least at) _ _ (λ e. from_before o s b n _ (at + 8) m (omega arith)) (λ e. omega arith)

-- a count that does not fit is refused at 5
comments_before : (o : Bool) (s b : List ℕ) → Before (length b + 5) (comments o s b)
unfolding comments
comments_before o s b =
    pick (length b + 5) (leb 7 (length b) && leb (be16 b 5) MAX_COMMENTS && leb (7 + 8 * be16 b 5) (length b)) _ _
    (λ e.
    let h = leb-true (7 + 8 * be16 b 5) (length b) (and_right (leb 7 (length b) && leb (be16 b 5) MAX_COMMENTS) (leb (7 + 8 * be16 b 5) (length b)) e) in
    from_before o s b (be16 b 5) 0 7 (length b + 5) (omega arith))
    (λ e. omega arith)

tree_before : (s b : List ℕ) (v at : ℕ) → at ≤ length b → Before (length b) (read_tree s b v at)
unfolding read_tree tree_at
tree_before s b v at h =
    then (length b) (record_at s b v MAX_RECORDS_DEEP 1 at (length b)) _ (record_before s b v MAX_RECORDS_DEEP 1 at (length b) h)
    (λ t q e. pick (length b) (ltb q (length b)) _ _ (λ g. let k = ltb-true q (length b) g in omega arith) (λ g. tt))

image_before : (may : ℕ → Bool) (o : Bool) (s b : List ℕ) → Before (10 + MAX_BODY) (read_image may o s b)
unfolding read_image
image_before may o s b =
    pick (10 + MAX_BODY) (not (header_fits may b)) _ _ (λ e. omega arith)
    (λ e.
    let h = headed may b (not-false (header_fits may b) e) in
    let l : length b + 5 ≤ 10 + MAX_BODY = omega (arith, h.size, h.short) in
    then (10 + MAX_BODY) (comments o s b) _ (wider (length b + 5) (10 + MAX_BODY) (comments o s b) l (comments_before o s b))
    (λ done at f.
    let c = listed o s b at (ap step_of f) in
    let k : at ≤ length b = omega (arith, c.within, c.list.stop) in
    wider (length b) (10 + MAX_BODY) (read_tree s b (width_bytes b) at) (omega arith) (tree_before s b (width_bytes b) at k)))

all_before : (s b : List ℕ) → Before (10 + MAX_BODY) (read_all s b)
unfolding read_with source_fits
all_before s b =
    pick (10 + MAX_BODY) (not (source_fits s)) _ _ (λ e. omega arith)
    (λ e.
    let h = leb-true (length s) MAX_SOURCE (not-false _ e) in
    pick (10 + MAX_BODY) (not (well_formed s)) _ _ (λ f. omega (arith, prefix_inside s)) (λ f. image_before any_version true s b))

pub read_places : (s b : List ℕ) (n p : ℕ) → read_all s b ≡ bad n p → p ≤ 10 + MAX_BODY
read_places s b n p e = rw e at (all_before s b)
