-- What places and rows mean: the digits of a sum, one by one.
-- Assumes nothing.
use mathlib.Core.Path.{◌≡◌, refl, ap, ap₂, ◌∙◌}
use mathlib.Core.Bool.{Bool, true, false, cond, ◌&&◌}
use Prim.Native.Nat.{ℕ, ◌+◌, ◌*◌, ◌-◌, ◌/◌, ◌%◌, ◌≤◌, ◌<◌}
use native.Mathlib.Omega.{arith}
use lib.Dec.{leb, eqb}
use borrow.Author.Tests.{eq-eqb, ne_eqb}
use Rattle.image.specs.Kinds.{LIST}
use Rattle.image.specs.Grammar.{list, many, is_list, is_many, element, ◌⊳◌, kind_fits_of, row_under_of, row_of}
use Rattle.image.specs.Unpacked.{Unpacked}

-- ---- marks
no_list : (p : ℕ) → p < 4096 → is_list p ≡ false
no_list p h = ne_eqb (p / 4096 % 2) 1 (λ e. omega arith)

a_list : (p : ℕ) → p < 4096 → is_list (list p) ≡ true
a_list p h = eq-eqb ((4096 + p) / 4096 % 2) 1 (omega arith)

-- the mark of `*` is in the first place
no_many : (p r : ℕ) → p < 32768 → is_many (p ⊳ r) ≡ false
no_many p r h = ne_eqb ((p + 65536 * r) / 32768 % 2) 1 (λ e. omega arith)

a_many : (p r : ℕ) → p < 32768 → is_many (many p ⊳ r) ≡ true
a_many p r h = eq-eqb ((32768 + p + 65536 * r) / 32768 % 2) 1 (omega arith)

-- ---- kinds
-- the kinds of a place without marks: its lowest, and so many above it
kinds : (low more k : ℕ) → low < 128 → more < 32 → kind_fits_of (low + 128 * more) k ≡ (leb low k && leb k (low + more))
unfolding kind_fits_of
kinds low more k h m =
    ap (λ (t : Bool). cond t (eqb k LIST) (leb ((low + 128 * more) % 128) k && leb k ((low + 128 * more) % 128 + (low + 128 * more) / 128 % 32)))
    (no_list (low + 128 * more) (omega arith))
    ∙ ap₂ (λ (a b : ℕ). leb a k && leb k (a + b)) (lowest low more h m) (above low more h m)
  where
    lowest : (a b : ℕ) → a < 128 → b < 32 → (a + 128 * b) % 128 ≡ a
    lowest a b h m = omega arith

    above : (a b : ℕ) → a < 128 → b < 32 → (a + 128 * b) / 128 % 32 ≡ b
    above a b h m = omega arith

pub unpacked : Unpacked
unfolding kind_fits_of row_under_of
unpacked = record {
  alone = λ n k h. ap (λ (p : ℕ). kind_fits_of p k) (by_itself n) ∙ kinds n 0 k h (omega arith) ∙ ap (λ (m : ℕ). leb n k && leb k m) (none_above n);
  ranges = λ low high k h o r. kinds low (high - low) k h (omega arith) ∙ ap (λ (m : ℕ). leb low k && leb k m) (up low high o);
  assigns = λ k. refl;
  assigned = refl;
  unassigned = λ p h. ne_eqb (p / 8192 % 2) 1 (λ e. omega arith);
  lists = λ p k h. ap (λ (t : Bool). cond t (eqb k LIST) (leb (list p % 128) k && leb k (list p % 128 + list p / 128 % 32))) (a_list p h);
  elements = λ p k h. ap (λ (t : Bool). cond t (many (element (list p))) (row_of k)) (a_list p h) ∙ ap many (inside p h);
  optional = λ p h. eq-eqb ((16384 + p) / 16384 % 2) 1 (omega arith);
  bare_optional = λ p h. omega arith;
  no_mark = λ p h. ne_eqb (p / 16384 % 2) 1 (λ e. omega arith);
  again = λ p r h. ap (λ (t : Bool). cond t (many p ⊳ r) ((many p ⊳ r) / 65536)) (a_many p r h);
  bare_many = λ p h. omega arith;
  first = λ p r h. omega arith;
  next = λ p r h. ap (λ (t : Bool). cond t (p ⊳ r) ((p ⊳ r) / 65536)) (no_many p r h) ∙ rest p r h;
}
  where
    by_itself : (n : ℕ) → n ≡ n + 128 * 0
    by_itself n = omega arith

    none_above : (n : ℕ) → n + 0 ≡ n
    none_above n = omega arith

    up : (low high : ℕ) → low ≤ high → low + (high - low) ≡ high
    up low high o = omega arith

    inside : (p : ℕ) → p < 4096 → element (list p) ≡ p
    inside p h = omega arith

    rest : (p r : ℕ) → p < 32768 → (p + 65536 * r) / 65536 ≡ r
    rest p r h = omega arith
