-- Laws of ranges, and of the newline count and its place.
-- Assumes nothing.
use mathlib.Core.Path.{◌≡◌, refl, ap, ◌∙◌}
use mathlib.Core.Bool.{Bool, true, false, cond, ◌&&◌}
use mathlib.Core.List.{List, [], ◌∷◌, ◌++◌}
use Prim.Native.Nat.{ℕ, zero, suc, ◌+◌, ◌-◌, ◌≤◌, ◌<◌}
use native.Mathlib.Omega.{arith}
use native.Mathlib.Nat.{zero-add, add-zero, suc-add}
use lib.ListN.{length, get_or, length-append}
use lib.Dec.{leb, eqb}
use borrow.Author.Tests.{leb-true, le-leb, lt-leb}
use Rattle.text.specs.Utf8.{boundary}
use Rattle.text.specs.Newlines.{newline_places, counted, is_range, count_newlines}
use Rattle.text.proofs.Boundaries.{boundary_inside}
use Rattle.laws.proofs.Booleans.{and_left, and_right, and_false}

pub places_next : (m n : ℕ) (s : List ℕ) (at : ℕ) → m ≡ suc n
    → newline_places m s at ≡ cond (eqb (get_or s at 0) 0x0A) (at ∷ newline_places n s (at + 1)) (newline_places n s (at + 1))
unfolding newline_places
places_next m n s at e = rw e

-- the newlines of adjoining ranges
pub places_join : (m n : ℕ) (s : List ℕ) (at : ℕ) → newline_places (m + n) s at ≡ newline_places m s at ++ newline_places n s (at + m)
unfolding newline_places
places_join zero n s at = rw (zero-add n, add-zero at) refl
places_join (suc m) n s at =
    let step : at + 1 + m ≡ at + suc m = omega arith in
    let rest = places_join m n s (at + 1) ∙ ap (λ (k : ℕ). newline_places m s (at + 1) ++ newline_places n s k) step in
    rw suc-add (go (eqb (get_or s at 0) 0x0A) _ _ _ rest)
  where
    go : (t : Bool) (xs ys zs : List ℕ) → xs ≡ ys ++ zs → cond t (at ∷ xs) xs ≡ cond t (at ∷ ys) ys ++ zs
    go true xs ys zs e = ap (λ (l : List ℕ). at ∷ l) e
    go false xs ys zs e = e

-- no more newlines than bytes
pub places_few : (n : ℕ) (s : List ℕ) (at : ℕ) → length (newline_places n s at) ≤ n
unfolding newline_places
places_few zero s at = omega arith
places_few (suc n) s at = go (eqb (get_or s at 0) 0x0A) (places_few n s (at + 1))
  where
    go : (t : Bool) → length (newline_places n s (at + 1)) ≤ n
        → length (cond t (at ∷ newline_places n s (at + 1)) (newline_places n s (at + 1))) ≤ suc n
    go true h = omega arith
    go false h = omega arith

-- a range that `get` gives is not reversed, and its ends are boundaries
pub range_order : (s : List ℕ) (from to : ℕ) → is_range s from to ≡ true → from ≤ to
unfolding is_range
range_order s from to e = leb-true from to (and_left (leb from to) _ (and_left (leb from to && boundary s from) _ e))

pub range_start : (s : List ℕ) (from to : ℕ) → is_range s from to ≡ true → boundary s from ≡ true
unfolding is_range
range_start s from to e = and_right (leb from to) _ (and_left (leb from to && boundary s from) _ e)

pub range_end : (s : List ℕ) (from to : ℕ) → is_range s from to ≡ true → boundary s to ≡ true
unfolding is_range
range_end s from to e = and_right (leb from to && boundary s from) _ e

pub range_is : (s : List ℕ) (from to : ℕ) → from ≤ to → boundary s from ≡ true → boundary s to ≡ true → is_range s from to ≡ true
unfolding is_range
range_is s from to h p q = simp (le-leb from to h, p, q)

-- and it lies in the text
pub range_inside : (s : List ℕ) (from to : ℕ) → is_range s from to ≡ true → (from ≤ to) × (to ≤ length s)
range_inside s from to e = (range_order s from to e, boundary_inside s to (range_end s from to e))

-- off a boundary or reversed there is no range
pub range_reversed : (s : List ℕ) (from to : ℕ) → to < from → is_range s from to ≡ false
unfolding is_range
range_reversed s from to h = simp (lt-leb from to h)

pub range_off_start : (s : List ℕ) (from to : ℕ) → boundary s from ≡ false → is_range s from to ≡ false
unfolding is_range
range_off_start s from to e = simp (e, and_false)

pub range_off_end : (s : List ℕ) (from to : ℕ) → boundary s to ≡ false → is_range s from to ≡ false
unfolding is_range
range_off_end s from to e = simp (e, and_false)

-- there none is counted, and the place is the range's end as given
pub count_none : (s : List ℕ) (from to : ℕ) → is_range s from to ≡ false → count_newlines s from to ≡ counted to []
unfolding count_newlines
count_none s from to e = simp e

pub count_range : (s : List ℕ) (from to : ℕ) → is_range s from to ≡ true → count_newlines s from to ≡ counted to (newline_places (to - from) s from)
unfolding count_newlines
count_range s from to e = simp e

-- counts over adjoining ranges add up
pub count_join : (s : List ℕ) (a b c : ℕ) → is_range s a b ≡ true → is_range s b c ≡ true
    → (count_newlines s a c).count ≡ (count_newlines s a b).count + (count_newlines s b c).count
count_join s a b c p q =
    let h = range_order s a b p in
    let k = range_order s b c q in
    let whole = range_is s a c (omega arith) (range_start s a b p) (range_end s b c q) in
    let parts : c - a ≡ (b - a) + (c - b) = omega arith in
    let there : a + (b - a) ≡ b = omega arith in
    rw (count_range s a c whole, count_range s a b p, count_range s b c q, parts, places_join, there)
    (length-append (newline_places (b - a) s a) (newline_places (c - b) s b))

-- ---- the count before request 1, which knew no places
-- how many of the n bytes from `at` on are U+000A
unfoldable pub newlines : ℕ → List ℕ → ℕ → ℕ
newlines zero s at = 0
newlines (suc n) s at = cond (eqb (get_or s at 0) 0x0A) 1 0 + newlines n s (at + 1)

as_many : (n : ℕ) (s : List ℕ) (at : ℕ) → length (newline_places n s at) ≡ newlines n s at
unfolding newline_places newlines
as_many zero s at = refl
as_many (suc n) s at = go (eqb (get_or s at 0) 0x0A) (newline_places n s (at + 1)) (as_many n s (at + 1))
  where
    go : (t : Bool) (more : List ℕ) → length more ≡ newlines n s (at + 1) → length (cond t (at ∷ more) more) ≡ cond t 1 0 + newlines n s (at + 1)
    go true more e = omega arith
    go false more e = omega arith

-- it is the same in every range
pub count_as_before : (s : List ℕ) (from to : ℕ) → (count_newlines s from to).count ≡ cond (is_range s from to) (newlines (to - from) s from) 0
unfolding count_newlines
count_as_before s from to = go (is_range s from to)
  where
    go : (t : Bool) → length (cond t (newline_places (to - from) s from) []) ≡ cond t (newlines (to - from) s from) 0
    go true = as_many (to - from) s from
    go false = refl
