-- Laws of `run` and `prefix`: a text read one sequence after the other.
-- Assumes nothing.
use mathlib.Core.Path.{◌≡◌, refl, sym, ap, ◌∙◌}
use mathlib.Core.List.{List}
use mathlib.Core.Bool.{Bool, true, false, cond, ◌&&◌}
use Prim.Native.Nat.{ℕ, zero, suc, ◌+◌, ◌/◌, ◌%◌, ◌≤◌, ◌<◌}
use native.Mathlib.Omega.{arith}
use native.Mathlib.Nat.{add-zero, add-suc}
use native.Mathlib.Numerals.{add-one}
use lib.ListN.{length, get_or}
use lib.Dec.{leb, eqb}
use borrow.Author.Tests.{eq-eqb, ne_eqb, le-ltb, leb-true, eqb-true}
use Rattle.text.specs.Utf8.{sequence, highs, plain, stride, run, prefix, well_formed, ill_formed}
use Rattle.std.specs.Prelude.{None, Some}
use Rattle.text.proofs.Sequences.{ascii, sequence_fits}
use Rattle.laws.proofs.Booleans.{and_left, and_right}

pub none_past : (s : List ℕ) (at : ℕ) → length s ≤ at → sequence s at ≡ 0
unfolding sequence
none_past s at h = simp (le-ltb at (length s) h)

pub run_stop : (n : ℕ) (s : List ℕ) (at : ℕ) → sequence s at ≡ 0 → run n s at ≡ at
unfolding run
run_stop zero s at e = refl
run_stop (suc n) s at e = simp (eq-eqb (sequence s at) 0 e)

run_next : (n : ℕ) (s : List ℕ) (at : ℕ) → 0 < sequence s at → run (suc n) s at ≡ run n s (at + sequence s at)
unfolding run
run_next n s at h = simp (ne_eqb (sequence s at) 0 (λ e. omega arith))

-- `prefix` is found by going on from `at`
pub record Going (s : List ℕ) (at : ℕ) : Type 0 where
  pub turns : ℕ
  pub enough : length s ≤ at + turns
  pub same : prefix s ≡ run turns s at

pub start : (s : List ℕ) → Going s 0
unfolding prefix
start s = record { turns = length s; enough = omega arith; same = refl }

pub next : (s : List ℕ) (at n : ℕ) → at < length s → n ≡ sequence s at → 0 < n → Going s at → Going s (at + n)
next s at n h e k g = go g.turns g.enough g.same
  where
    go : (m : ℕ) → length s ≤ at + m → prefix s ≡ run m s at → Going s (at + n)
    go zero f p = absurd (omega arith)
    go (suc m) f p = record { turns = m; enough = omega arith; same = p ∙ run_next m s at (omega arith) ∙ ap (λ j. run m s (at + j)) (sym e) }

-- the same over bytes that are each a sequence
low_byte : (b : ℕ) → b / 0x80 ≡ 0 → b < 0x80
low_byte b e = omega arith

pub highs_more : (k : ℕ) (s : List ℕ) (at n : ℕ) → n ≡ highs k s at → n + get_or s (at + k) 0 / 0x80 ≡ highs (k + 1) s at
unfolding highs
highs_more k s at n e = rw (add-one k, e)

next_low : (n : ℕ) (s : List ℕ) (at : ℕ) → at + n ≤ length s → highs n s at ≡ 0 → Going s at → Going s (at + n)
unfolding highs
next_low zero s at l h g = rw add-zero g
next_low (suc n) s at l h g =
    let k : at + n < length s = omega arith in
    let one = ascii s (at + n) k (low_byte (get_or s (at + n) 0) (omega arith)) in
    rw (add-suc at n, ← add-one (at + n)) (next s (at + n) 1 k (sym one) (omega arith) (next_low n s at (omega arith) (omega arith) g))

pub plain_fits : (n : ℕ) (s : List ℕ) (at : ℕ) → plain n s at ≡ true → at + n ≤ length s
plain_fits n s at h = leb-true (at + n) (length s) (and_left (leb (at + n) (length s)) (eqb (highs n s at) 0) h)

pub next_plain : (n : ℕ) (s : List ℕ) (at : ℕ) → plain n s at ≡ true → Going s at → Going s (at + n)
next_plain n s at h g = next_low n s at (plain_fits n s at h) (eqb-true (highs n s at) 0 (and_right (leb (at + n) (length s)) (eqb (highs n s at) 0) h)) g

-- the check goes on
pub stride_odd : (s : List ℕ) (at n : ℕ) → (at % 16 ≡ 0 → ⊥) → n ≡ sequence s at → n ≡ stride s at
unfolding stride
stride_odd s at n h e = rw (ne_eqb (at % 16) 0 h, e)

pub stride_plain : (s : List ℕ) (at : ℕ) → at % 16 ≡ 0 → plain 16 s at ≡ true → 16 ≡ stride s at
unfolding stride
stride_plain s at h e = sym (rw (eq-eqb (at % 16) 0 h, e))

pub stride_one : (s : List ℕ) (at n : ℕ) → at % 16 ≡ 0 → plain 16 s at ≡ false → n ≡ sequence s at → n ≡ stride s at
unfolding stride
stride_one s at n h f e = rw (eq-eqb (at % 16) 0 h, f, e)

pub next_stride : (s : List ℕ) (at n : ℕ) → at < length s → n ≡ stride s at → 0 < n → Going s at → Going s (at + n)
unfolding stride
next_stride s at n h e k g = go (eqb (at % 16) 0 && plain 16 s at) refl e
  where
    go : (b : Bool) → (eqb (at % 16) 0 && plain 16 s at) ≡ b → n ≡ cond b 16 (sequence s at) → Going s (at + n)
    go true q f = rw f (next_plain 16 s at (and_right (eqb (at % 16) 0) (plain 16 s at) q) g)
    go false q f = next s at n h f k g

pub stride_fits : (s : List ℕ) (at : ℕ) → at ≤ length s → at + stride s at ≤ length s
unfolding stride
stride_fits s at h = go (eqb (at % 16) 0 && plain 16 s at) refl
  where
    go : (b : Bool) → (eqb (at % 16) 0 && plain 16 s at) ≡ b → at + cond b 16 (sequence s at) ≤ length s
    go true q = plain_fits 16 s at (and_right (eqb (at % 16) 0) (plain 16 s at) q)
    go false q = sequence_fits s at h

pub stride_none : (s : List ℕ) (at : ℕ) → stride s at ≡ 0 → sequence s at ≡ 0
unfolding stride
stride_none s at e = go (eqb (at % 16) 0 && plain 16 s at) e
  where
    go : (b : Bool) → cond b 16 (sequence s at) ≡ 0 → sequence s at ≡ 0
    go true f = absurd (omega arith)
    go false f = f

pub stop : (s : List ℕ) (at : ℕ) → sequence s at ≡ 0 → Going s at → prefix s ≡ at
stop s at e g = g.same ∙ run_stop g.turns s at e

pub checked_bad : (s : List ℕ) (at : ℕ) → prefix s ≡ at → at < length s → Some (record { number = 2; place = at }) ≡ ill_formed s
unfolding ill_formed well_formed
checked_bad s at e h = sym (rw (e, ne_eqb at (length s) (λ p. omega arith)))

pub checked_good : (s : List ℕ) → prefix s ≡ length s → None ≡ ill_formed s
unfolding ill_formed well_formed
checked_good s e = sym (rw (eq-eqb (prefix s) (length s) e))
