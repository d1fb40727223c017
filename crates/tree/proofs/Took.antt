-- Bytes taken from a list one after the other.
-- Assumes nothing.
use mathlib.Core.Path.{◌≡◌, refl, sym, ap, ap₂, ◌∙◌}
use mathlib.Core.List.{List, [], ◌∷◌, ◌++◌, append_assoc, append-nil}
use Prim.Native.Nat.{ℕ, ◌+◌, ◌-◌, ◌*◌, ◌/◌, ◌%◌, ◌≤◌, ◌<◌}
use native.Mathlib.Omega.{arith}
use native.Mathlib.Numerals.{add-one}
use lib.ListN.{length, get_or, take, drop, length-append, take-append-drop}
use lib.Seq.{drop-cons, drop-drop, take-append_seam, drop-length}
use Rattle.image.specs.Bytes.{be16, be32, part}
use Rattle.image.specs.Write.{bytes4, bytes2, Bytes}
use Rattle.image.proofs.Exact.{four, part_length}

-- y was taken between `at` and `end`: so many bytes, and, where the list is one of bytes, the same
pub record Took (l : List ℕ) (at end : ℕ) (y : List ℕ) : Type 0 where
  pub ends : end ≡ at + length y
  pub within : end ≤ length l
  pub bytes : Bytes l → drop at l ≡ y ++ drop end l

pub took_none : (l : List ℕ) (at : ℕ) → at ≤ length l → Took l at at []
took_none l at h = record { ends = omega arith; within = h; bytes = λ small. refl }

pub took_join : {l y z : List ℕ} {at m end : ℕ} → Took l at m y → Took l m end z → Took l at end (y ++ z)
took_join {l} {y} {z} {at} {m} {end} t u =
    record {
      ends = rw (length-append y z) (omega (arith, t.ends, u.ends));
      within = u.within;
      bytes = λ small. t.bytes small ∙ ap (λ (r : List ℕ). y ++ r) (u.bytes small) ∙ sym (append_assoc y z (drop end l));
    }

-- any part of the list
pub took_part : (l : List ℕ) (at end : ℕ) → at ≤ end → end ≤ length l → Took l at end (part at end l)
took_part l at end p q =
    let far : at + (end - at) ≡ end = omega arith in
    record {
      ends = rw (part_length l at end p q) (omega arith);
      within = q;
      bytes = λ small.
          sym (take-append-drop (end - at) (drop at l))
          ∙ ap (λ (r : List ℕ). part at end l ++ r) (drop-drop (end - at) at l ∙ ap (λ (n : ℕ). drop n l) far);
    }

-- a byte, and the numbers in two and in four bytes
pub took_byte : (l : List ℕ) (at : ℕ) → at + 1 ≤ length l → Took l at (at + 1) (get_or l at 0 ∷ [])
took_byte l at h = record { ends = refl; within = h; bytes = λ small. rw (add-one, drop-cons l at 0 (omega arith)) }

pub took_four : (l : List ℕ) (at end : ℕ) → end ≡ at + 4 → end ≤ length l → Took l at end (bytes4 (be32 l at))
took_four l at end e h =
    record {
      ends = e;
      within = h;
      bytes = λ small.
          (took_part l at end (omega arith) h).bytes small
          ∙ ap (λ (r : List ℕ). r ++ drop end l) (ap (λ (n : ℕ). part at n l) e ∙ four l at small (omega arith));
    }

-- the two bytes of a number are those it is written as
digits : (x y : ℕ) → x < 256 → y < 256 → bytes2 (x * 256 + y) ≡ x ∷ y ∷ []
digits x y a b =
    let n = x * 256 + y in
    let e₁ : n / 256 ≡ x = omega arith in
    let e₂ : n % 256 ≡ y = omega arith in
    cc

pub took_two : (l : List ℕ) (at end : ℕ) → end ≡ at + 2 → end ≤ length l → Took l at end (bytes2 (be16 l at))
unfolding be16
took_two l at end e h =
    let both = took_join (took_byte l at (omega arith)) (took_byte l (at + 1) (omega arith)) in
    let far : at + 1 + 1 ≡ end = omega arith in
    record {
      ends = e;
      within = h;
      bytes = λ small.
          both.bytes small
          ∙ ap₂ (λ (r z : List ℕ). r ++ z) (sym (digits (get_or l at 0) (get_or l (at + 1) 0) (small at) (small (at + 1)))) (ap (λ (n : ℕ). drop n l) far);
    }

-- what was taken is that part of the list
pub took_is : {l y : List ℕ} {at end : ℕ} → Took l at end y → Bytes l → part at end l ≡ y
took_is {l} {y} {at} {end} t small =
    let n : end - at ≡ length y = omega (arith, t.ends) in
    ap (λ (k : ℕ). take k (drop at l)) n ∙ ap (take (length y)) (t.bytes small) ∙ take-append_seam y (drop end l)

-- all of the list
pub took_all : {l y : List ℕ} → Took l 0 (length l) y → Bytes l → l ≡ y
took_all {l} {y} t small = t.bytes small ∙ ap (λ (r : List ℕ). y ++ r) (drop-length l) ∙ append-nil y
