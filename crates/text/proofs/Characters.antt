-- Laws of characters: where they stand, and what the code's numbers say of them.
-- Assumes nothing.
use mathlib.Core.Path.{◌≡◌, refl, sym, ap, ◌∙◌}
use mathlib.Core.Bool.{Bool, true, false, cond}
use mathlib.Core.List.{List}
use mathlib.Core.Logic.{◌⊎◌, inl, inr}
use Prim.Native.Nat.{ℕ, zero, suc, ◌+◌, ◌-◌, ◌≤◌, ◌<◌}
use native.Mathlib.Omega.{arith}
use lib.ListN.{length}
use lib.Dec.{leb, ltb, eqb}
use borrow.Author.Tests.{eq-eqb, ne_eqb, eqb-true, eqb-false, leb-true, lt-leb, ltb-true, ltb-false}
use Rattle.std.proofs.lemmas.Bool.Decides.{nat_tests}
use Rattle.text.specs.Utf8.{some_bytes, sequence, scalar, decoded, char_at, ends, ending, char_before}
use Rattle.text.specs.declared.utf8.Char.{Char}
use Rattle.std.specs.Prelude.{Option, None, Some}
use Rattle.text.proofs.Runs.{none_past}
use Rattle.text.proofs.Sequences.{sequence_fits}
use Rattle.laws.proofs.Booleans.{and_left, and_right}

-- a sequence stands in the text, whatever the place asked for
pub sequence_inside : (s : List ℕ) (at : ℕ) → 0 < sequence s at → at + sequence s at ≤ length s
sequence_inside s at h = go (ltb at (length s)) refl
  where
    go : (t : Bool) → ltb at (length s) ≡ t → at + sequence s at ≤ length s
    go true e = sequence_fits s at (omega (arith, ltb-true at (length s) e))
    go false e = absurd (omega (arith, none_past s at (ltb-false at (length s) e)))

pub decoded_none : (s : List ℕ) (at n : ℕ) → n ≡ 0 → None ≡ decoded s at n
unfolding decoded
decoded_none s at n e = sym (simp (eq-eqb n 0 e))

pub decoded_char : (s : List ℕ) (at n c : ℕ) → (n ≡ 0 → ⊥) → c ≡ scalar s at n → Some (record { code = c; bytes = n }) ≡ decoded s at n
unfolding decoded
decoded_char s at n c h e = ap (λ k. Some (record { code = k; bytes = n })) e ∙ sym (simp (ne_eqb n 0 h))

-- how many bytes the code finds, where it finds any
pub bytes_of : (m n : ℕ) → some_bytes m ≡ Some n → (n ≡ m) × (0 < n)
bytes_of m n e = grind (arith, nat_tests)

pub bytes_none : (m : ℕ) → some_bytes m ≡ None → m ≡ 0
bytes_none m e = grind (arith, nat_tests)

pub at_decoded : (s : List ℕ) (at n : ℕ) (d : Option Char) → n ≡ sequence s at → d ≡ decoded s at n → d ≡ char_at s at
unfolding char_at
at_decoded s at n d e f = f ∙ ap (decoded s at) e

pub before_decoded : (s : List ℕ) (from to n : ℕ) (d : Option Char) → n ≡ ending s from to → d ≡ decoded s (to - n) n
    → d ≡ char_before s from to
unfolding char_before
before_decoded s from to n d e f = f ∙ ap (λ k. decoded s (to - k) k) e

-- what `ends` says
pub ends_fits : (s : List ℕ) (from to k : ℕ) → ends s from to k ≡ true → (from + k ≤ to) × (sequence s (to - k) ≡ k)
unfolding ends
ends_fits s from to k e = (
  leb-true (from + k) to (and_left (leb (from + k) to) (eqb (sequence s (to - k)) k) e),
  eqb-true (sequence s (to - k)) k (and_right (leb (from + k) to) (eqb (sequence s (to - k)) k) e),
)

-- the least k from 1 to 4 for which one does, or none
pub ending_at :
    (s : List ℕ) (from to k : ℕ) → 0 < k → k < 5 → ends s from to k ≡ true
    → ((j : ℕ) → 0 < j → j < k → ends s from to j ≡ false)
    → Some k ≡ some_bytes (ending s from to)
unfolding ending
ending_at s from to zero h l e f = absurd (omega arith)
ending_at s from to (suc zero) h l e f = rw e
ending_at s from to (suc (suc zero)) h l e f = rw (f 1 (omega arith) (omega arith), e)
ending_at s from to (suc (suc (suc zero))) h l e f = rw (f 1 (omega arith) (omega arith), f 2 (omega arith) (omega arith), e)
ending_at s from to (suc (suc (suc (suc zero)))) h l e f =
    rw (f 1 (omega arith) (omega arith), f 2 (omega arith) (omega arith), f 3 (omega arith) (omega arith), e)
ending_at s from to (suc (suc (suc (suc (suc k))))) h l e f = absurd (omega arith)

pub ending_none : (s : List ℕ) (from to : ℕ) → ((j : ℕ) → 0 < j → j < 5 → ends s from to j ≡ false) → None ≡ some_bytes (ending s from to)
unfolding ending
ending_none s from to f =
    rw (f 1 (omega arith) (omega arith), f 2 (omega arith) (omega arith), f 3 (omega arith) (omega arith), f 4 (omega arith) (omega arith))

pub ending_ends : (s : List ℕ) (from to : ℕ) → 0 < ending s from to → ends s from to (ending s from to) ≡ true
unfolding ending
ending_ends s from to = go (ends s from to 1) (ends s from to 2) (ends s from to 3) (ends s from to 4) refl refl refl refl
  where
    go :
        (a b c d : Bool)
        → ends s from to 1 ≡ a
        → ends s from to 2 ≡ b
        → ends s from to 3 ≡ c
        → ends s from to 4 ≡ d
        → 0 < cond a 1 (cond b 2 (cond c 3 (cond d 4 0)))
        → ends s from to (cond a 1 (cond b 2 (cond c 3 (cond d 4 0)))) ≡ true
    go true b c d p q r u h = p
    go false true c d p q r u h = q
    go false false true d p q r u h = r
    go false false false true p q r u h = u
    go false false false false p q r u h = absurd (omega arith)

-- the sequence before `to` starts at `from` or after it, and is the one that starts there
pub ending_fits : (s : List ℕ) (from to : ℕ) → 0 < ending s from to
    → (from + ending s from to ≤ to) × (sequence s (to - ending s from to) ≡ ending s from to)
ending_fits s from to h = ends_fits s from to (ending s from to) (ending_ends s from to h)

-- nothing ends in an empty or reversed range
pub ending_empty : (s : List ℕ) (from to : ℕ) → to ≤ from → ending s from to ≡ 0
unfolding ending ends
ending_empty s from to h =
    simp (lt-leb (from + 1) to (omega arith), lt-leb (from + 2) to (omega arith), lt-leb (from + 3) to (omega arith), lt-leb (from + 4) to (omega arith))

pub before_empty : (s : List ℕ) (from to : ℕ) → to ≤ from → char_before s from to ≡ None
before_empty s from to h = sym (before_decoded s from to 0 None (sym (ending_empty s from to h)) (decoded_none s (to - 0) 0 refl))

-- nor in what is no range of the text
pub before_outside : (s : List ℕ) (from to : ℕ) → (to < from) ⊎ (length s < to) → char_before s from to ≡ None
before_outside s from to h = go (ending s from to) refl
  where
    none : {A : Type 0} → (to < from) ⊎ (length s < to) → from ≤ to → to ≤ length s → A
    none (inl f) p q = absurd (omega arith)
    none (inr f) p q = absurd (omega arith)

    go : (n : ℕ) → ending s from to ≡ n → char_before s from to ≡ None
    go zero e = sym (before_decoded s from to 0 None (sym e) (decoded_none s (to - 0) 0 refl))
    go (suc n) e =
        let fits = ending_fits s from to (omega arith) in
        let inside = sequence_inside s (to - ending s from to) (omega arith) in
        none h (omega (arith, fits.0)) (omega arith)

-- a character has the bytes that were decoded, and not none
pub decoded_is : (s : List ℕ) (at k : ℕ) (c : Char) → decoded s at k ≡ Some c → (c.bytes ≡ k) × (0 < k) × (c.code ≡ scalar s at k)
unfolding decoded
decoded_is s at k c = go (eqb k 0) refl
  where
    go : (t : Bool) → eqb k 0 ≡ t → cond t None (Some (record { code = scalar s at k; bytes = k })) ≡ Some c
        → (c.bytes ≡ k) × (0 < k) × (c.code ≡ scalar s at k)
    go true q e = let z : ◌≡◌ {A = ℕ} 0 1 = cc in absurd (omega arith)
    go false q e = (cc, omega (arith, eqb-false k 0 q), cc)

pub at_inside : (s : List ℕ) (at : ℕ) (c : Char) → char_at s at ≡ Some c → (0 < c.bytes) × (at + c.bytes ≤ length s) × (c.bytes ≡ sequence s at)
unfolding char_at
at_inside s at c e =
    let d = decoded_is s at (sequence s at) c e in
    let inside = sequence_inside s at d.1 in
    (omega arith, omega arith, d.0)

pub before_inside : (s : List ℕ) (from to : ℕ) (c : Char) → char_before s from to ≡ Some c
    → (0 < c.bytes) × (from + c.bytes ≤ to) × (c.bytes ≡ ending s from to)
unfolding char_before
before_inside s from to c e =
    let d = decoded_is s (to - ending s from to) (ending s from to) c e in
    let inside = ending_fits s from to d.1 in
    (omega arith, omega (arith, inside.0), d.0)

pub none_at_end : (s : List ℕ) (at : ℕ) → length s ≤ at → char_at s at ≡ None
none_at_end s at h = sym (at_decoded s at 0 None (sym (none_past s at h)) (decoded_none s at 0 refl))
