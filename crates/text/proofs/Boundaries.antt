-- Boundaries: the first byte of a sequence is one, its other bytes are none.
-- Assumes nothing.
use mathlib.Core.Path.{◌≡◌, refl}
use mathlib.Core.Bool.{Bool, true, false}
use mathlib.Core.List.{List}
use Prim.Native.Nat.{ℕ, zero, suc, ◌+◌, ◌-◌, ◌≤◌, ◌<◌}
use native.Mathlib.Omega.{arith}
use lib.ListN.{length, get_or, get_or-eq_default}
use lib.Dec.{leb}
use borrow.Author.Tests.{le-leb, lt-leb, leb-true, leb-false}
use Rattle.text.specs.Utf8.{within, continues, sequence, boundary}
use Rattle.text.proofs.Bytes.{led, continuing_row, inner}
use Rattle.laws.proofs.Booleans.{and_left, and_false, clash}

-- boundaries lie in the text, and its end is one
pub boundary_inside : (s : List ℕ) (at : ℕ) → boundary s at ≡ true → at ≤ length s
unfolding boundary
boundary_inside s at e = leb-true at (length s) (and_left (leb at (length s)) _ e)

pub outside : (s : List ℕ) (at : ℕ) → length s < at → boundary s at ≡ false
unfolding boundary
outside s at h = simp (lt-leb at (length s) h)

pub end_boundary : (s : List ℕ) → boundary s (length s) ≡ true
unfolding boundary within
end_boundary s = simp (le-leb (length s) (length s) (omega arith), get_or-eq_default s 0 {n = length s} (omega arith))

-- a sequence starts at a boundary
pub first_boundary : (s : List ℕ) (at : ℕ) → 0 < sequence s at → boundary s at ≡ true
unfolding boundary
first_boundary s at h = let l = led s at h in simp (le-leb at (length s) (omega arith), go (continues (get_or s at 0)) refl)
  where
    go : (t : Bool) → continues (get_or s at 0) ≡ t → continues (get_or s at 0) ≡ false
    go true e = absurd (omega (arith, (led s at h).has, continuing_row (get_or s at 0) e))
    go false e = e

-- off a boundary no sequence starts
pub off_boundary : (s : List ℕ) (at : ℕ) → boundary s at ≡ false → sequence s at ≡ 0
off_boundary s at e = go (sequence s at) refl
  where
    go : (n : ℕ) → sequence s at ≡ n → sequence s at ≡ 0
    go zero p = p
    go (suc n) p = absurd (clash (boundary s at) (first_boundary s at (omega arith)) e)

-- inside a sequence there is none
pub inner_none : (s : List ℕ) (at k : ℕ) → 0 < k → k < sequence s at → boundary s (at + k) ≡ false
unfolding boundary
inner_none s at k p q = rw (inner s at k p q) (and_false (leb (at + k) (length s)))

-- a sequence that starts before a boundary ends there at the latest
pub sequence_before : (s : List ℕ) (i at : ℕ) → boundary s at ≡ true → i < at → i + sequence s i ≤ at
sequence_before s i at e h = go (leb (i + sequence s i) at) refl
  where
    go : (t : Bool) → leb (i + sequence s i) at ≡ t → i + sequence s i ≤ at
    go true q = leb-true (i + sequence s i) at q
    go false q =
        let same : i + (at - i) ≡ at = omega arith in
        let none = inner_none s i (at - i) (omega arith) (omega (arith, leb-false (i + sequence s i) at q)) in
        absurd (clash (boundary s at) e (rw same at none))
