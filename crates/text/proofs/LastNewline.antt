-- Where the last newline is that a count counts.
-- Assumes nothing.
use mathlib.Core.Path.{◌≡◌, refl, sym, ap, subst, ◌∙◌}
use mathlib.Core.Bool.{Bool, true, false, cond}
use mathlib.Core.List.{List, [], ◌∷◌}
use Prim.Native.Nat.{ℕ, zero, suc, ◌+◌, ◌-◌, ◌≤◌, ◌<◌}
use native.Mathlib.Omega.{arith}
use native.Mathlib.Decide.{dec_lt}
use lib.ListN.{length, get_or}
use lib.Dec.{eqb}
use borrow.Author.Tests.{eqb-true, eqb-false}
use Rattle.text.specs.Utf8.{boundary, within}
use Rattle.text.specs.Newlines.{newline_places, last_or, counted, is_range, count_newlines}
use Rattle.text.specs.declared.newlines.Newlines.{Newlines}
use Rattle.text.proofs.Counts.{range_order, count_none, count_range}

-- a newline is there, and none comes after it up to `to`
pub record LastOf (s : List ℕ) (from to place : ℕ) : Type 0 where
  pub low : from ≤ place
  pub high : place < to
  pub there : get_or s place 0 ≡ 0x0A
  pub last : (k : ℕ) → place < k → k < to → get_or s k 0 ≡ 0x0A → ⊥

-- where no place is listed, no byte is a newline
none_there : (n : ℕ) (s : List ℕ) (at k : ℕ) → length (newline_places n s at) ≡ 0 → at ≤ k → k < at + n → get_or s k 0 ≡ 0x0A → ⊥
unfolding newline_places
none_there zero s at k z a b q = absurd (omega arith)
none_there (suc n) s at k z a b q =
    go (eqb (get_or s at 0) 0x0A) refl (newline_places n s (at + 1)) z (dec_lt at k) (λ w d. none_there n s (at + 1) k w (omega arith) (omega arith) q)
  where
    go : (t : Bool) → eqb (get_or s at 0) 0x0A ≡ t → (more : List ℕ) → length (cond t (at ∷ more) more) ≡ 0 → Dec (at < k)
        → (length more ≡ 0 → at < k → ⊥) → ⊥
    go true e more w d later = absurd (omega arith)
    go false e more w (yes d) later = later w d
    go false e more w (no d) later =
        let same : k ≡ at = omega arith in
        eqb-false (get_or s at 0) 0x0A e (ap (λ (i : ℕ). get_or s i 0) (sym same) ∙ q)

-- the last of the places that are listed
last_there : (n : ℕ) (s : List ℕ) (at end : ℕ) → 0 < length (newline_places n s at) → LastOf s at (at + n) (last_or end (newline_places n s at))
unfolding newline_places
last_there zero s at end h = absurd (omega arith)
last_there (suc n) s at end h =
    let to : at + 1 + n ≡ at + suc n = omega arith in
    go (eqb (get_or s at 0) 0x0A) refl (newline_places n s (at + 1)) h
    (λ z k a b q. none_there n s (at + 1) k z (omega arith) (omega arith) q)
    (λ d w. further (subst (λ (k : ℕ). LastOf s (at + 1) k (last_or d (newline_places n s (at + 1)))) to (last_there n s (at + 1) d w)))
  where
    further : {place : ℕ} → LastOf s (at + 1) (at + suc n) place → LastOf s at (at + suc n) place
    further l = record { low = omega (arith, l.low); high = l.high; there = l.there; last = l.last }

    go : (t : Bool) → eqb (get_or s at 0) 0x0A ≡ t → (more : List ℕ) → 0 < length (cond t (at ∷ more) more)
        → (length more ≡ 0 → (k : ℕ) → at < k → k < at + suc n → get_or s k 0 ≡ 0x0A → ⊥)
        → ((d : ℕ) → 0 < length more → LastOf s at (at + suc n) (last_or d more))
        → LastOf s at (at + suc n) (last_or end (cond t (at ∷ more) more))
    go false e more w none later = later end w
    go true e (x ∷ xs) w none later = later at (omega arith)
    go true e [] w none later =
        record { low = omega arith; high = omega arith; there = eqb-true (get_or s at 0) 0x0A e; last = none refl }

-- "the place in the source of the last newline it counts"
pub last_counted : (s : List ℕ) (from to : ℕ) → 0 < (count_newlines s from to).count → LastOf s from to (count_newlines s from to).place
last_counted s from to h = go (is_range s from to) refl
  where
    go : (t : Bool) → is_range s from to ≡ t → LastOf s from to (count_newlines s from to).place
    go false e = absurd (omega (arith, h, ap (λ (c : Newlines). c.count) (count_none s from to e)))
    go true e =
        let o = range_order s from to e in
        let same = count_range s from to e in
        let end : from + (to - from) ≡ to = omega arith in
        subst (λ (p : ℕ). LastOf s from to p) (sym (ap (λ (c : Newlines). c.place) same))
        (subst (λ (k : ℕ). LastOf s from k (last_or to (newline_places (to - from) s from))) end
        (last_there (to - from) s from to (omega (arith, h, ap (λ (c : Newlines). c.count) same))))

-- "or the range's end if it counts none"
pub none_counted : (s : List ℕ) (from to : ℕ) → (count_newlines s from to).count ≡ 0 → (count_newlines s from to).place ≡ to
unfolding count_newlines
none_counted s from to z = go (cond (is_range s from to) (newline_places (to - from) s from) []) z
  where
    go : (l : List ℕ) → length l ≡ 0 → last_or to l ≡ to
    go [] e = refl
    go (x ∷ xs) e = absurd (omega arith)

-- ---- a newline, `é`, U+0085, U+2028 and a newline
abbrev lines : List ℕ
lines = 0x0A ∷ 0xC3 ∷ 0xA9 ∷ 0xC2 ∷ 0x85 ∷ 0xE2 ∷ 0x80 ∷ 0xA8 ∷ 0x0A ∷ []

-- all of it, without its last byte, without its first, neither; then nothing, reversed, past the end, and off a boundary at either end
lines_counted : (count_newlines lines 0 9 ≡ counted 9 (0 ∷ 8 ∷ []))
    × (count_newlines lines 0 8 ≡ counted 8 (0 ∷ []))
    × (count_newlines lines 1 9 ≡ counted 9 (8 ∷ []))
    × (count_newlines lines 1 8 ≡ counted 8 [])
    × (count_newlines lines 9 9 ≡ counted 9 [])
    × (count_newlines lines 9 0 ≡ counted 0 [])
    × (count_newlines lines 0 10 ≡ counted 10 [])
    × (count_newlines lines 2 9 ≡ counted 9 [])
    × (count_newlines lines 0 6 ≡ counted 6 [])
unfolding count_newlines is_range boundary within newline_places
lines_counted = (refl, refl, refl, refl, refl, refl, refl, refl, refl)
