-- Every refusal of the reader has one of its numbers.
-- Assumes nothing.
use mathlib.Core.Path.{◌≡◌, refl}
use mathlib.Core.List.{List}
use mathlib.Core.Bool.{Bool, true, false, cond, not, ◌&&◌}
use Prim.Native.Nat.{ℕ, zero, suc, ◌+◌, ◌*◌}
use lib.ListN.{length}
use lib.Dec.{ltb, leb, eqb}
use Rattle.refusals.specs.Refusals.{is_one_of}
use Rattle.text.specs.Utf8.{well_formed}
use Rattle.text.specs.Newlines.{is_range}
use Rattle.image.specs.Bytes.{be16, be32}
use Rattle.image.specs.Grammar.{bare, place, after, complete, row_under_of}
use Rattle.image.specs.Read.{Read, got, bad, bind, Tree, absent, nil, any_version, header_fits, width_bytes}
use Rattle.image.specs.Read.{comment_fits, comments_from, comments, shape, opens}
use Rattle.image.specs.Read.{skips, child_at, record_at, children_at, tree_at, read_tree, read_image, source_fits, read_with, reader_numbers, ReadNumbers}

-- read, or refused with a number of the reader
abbrev Known : {A : Type 0} → Read A → Type 0
Known (got a n) = Unit
Known (bad n p) = is_one_of n reader_numbers ≡ true

pick : {A : Type 0} (t : Bool) (x y : Read A) → Known x → Known y → Known (cond t x y)
pick true x y p q = p
pick false x y p q = q

then : {A B : Type 0} (r : Read A) (k : A → ℕ → Read B) → Known r → ((a : A) (n : ℕ) → r ≡ got a n → Known (k a n)) → Known (bind r k)
then (got a n) k p q = q a n refl
then (bad n m) k p q = p

-- ---- records
opens_known : (s b : List ℕ) (v left p at end : ℕ) → Known (opens s b v left p at end)
unfolding opens
opens_known s b v left p at end =
    pick (not (shape b v p at end)) _ _ refl
    (pick (eqb left 0) _ _ refl (pick (not (is_range s (be32 b (at + 5)) (be32 b (at + 9)))) _ _ refl tt))

children_known : (one : ℕ → ℕ → ℕ → Read Tree) (stop : ℕ) → ((p at : ℕ) → Known (one p at stop)) → (n row at : ℕ)
    → Known (children_at one n row at stop)
unfolding children_at
children_known one stop f zero row at = refl
children_known one stop f (suc n) row at =
    let later = children_known one stop f n (after row) in
    pick (ltb at stop) _ _
    (pick (eqb row 0) (bad 4 at) _ refl
    (then (one (place row) at stop) _ (f (place row) at)
    (λ t q e. then (children_at one n (after row) q stop) _ (later q) (λ ts end e. tt))))
    (pick (complete row) (got nil stop) (bad 4 at) tt refl)

-- with no level left
deep_known : (s b : List ℕ) (v p at end : ℕ) → Known (record_at s b v 0 p at end)
unfolding record_at
deep_known s b v p at end = then (opens s b v 0 p at end) _ (opens_known s b v 0 p at end) (λ h q e. refl)

record_known : (s b : List ℕ) (v left p at end : ℕ) → Known (record_at s b v left p at end)
unfolding record_at
record_known s b v zero p at end = deep_known s b v p at end
record_known s b v (suc left) p at end =
    let below = record_known s b v left in
    then (opens s b v (suc left) p at end) _ (opens_known s b v (suc left) p at end)
    (λ h first e.
    then (children_at (child_at s b v left) (suc (length b)) (row_under_of p h.kind) first h.stop) _
    (children_known (child_at s b v left) h.stop
    (λ q a. pick (skips b q a h.stop) (got absent (a + 4)) _ tt (below (bare q) a h.stop))
    (suc (length b))
    (row_under_of p h.kind)
    first)
    (λ ts n e. tt))

-- ---- the whole
from_known : (o : Bool) (s b : List ℕ) (n least at : ℕ) → Known (comments_from o s b n least at)
unfolding comments_from
from_known o s b zero least at = tt
from_known o s b (suc n) least at = pick (comment_fits s b least at) _ _ (from_known o s b n _ (at + 8)) refl

comments_known : (o : Bool) (s b : List ℕ) → Known (comments o s b)
unfolding comments
comments_known o s b = pick (leb 7 (length b) && leb (be16 b 5) 8192 && leb (7 + 8 * be16 b 5) (length b)) _ _ (from_known o s b _ 0 7) refl

tree_known : (s b : List ℕ) (v at : ℕ) → Known (read_tree s b v at)
unfolding read_tree tree_at
tree_known s b v at =
    then (record_at s b v 64 1 at (length b)) _ (record_known s b v 64 1 at (length b))
    (λ t q e. pick (ltb q (length b)) _ _ refl tt)

image_known : (may : ℕ → Bool) (o : Bool) (s b : List ℕ) → Known (read_image may o s b)
unfolding read_image
image_known may o s b =
    pick (not (header_fits may b)) _ _ refl
    (then (comments o s b) _ (comments_known o s b) (λ done at e. tree_known s b (width_bytes b) at))

all_known : (may : ℕ → Bool) (o : Bool) (s b : List ℕ) → Known (read_with may o s b)
unfolding read_with
all_known may o s b = pick (not (source_fits s)) _ _ refl (pick (not (well_formed s)) _ _ refl (image_known may o s b))

-- whatever versions may be read, and whether comments are in order or not
pub numbers_with : (may : ℕ → Bool) (o : Bool) (s b : List ℕ) (n p : ℕ) → read_with may o s b ≡ bad n p → is_one_of n reader_numbers ≡ true
numbers_with may o s b n p e = rw e at (all_known may o s b)

pub read_numbers : ReadNumbers
read_numbers archive = numbers_with any_version (not archive)
