-- The bytes of a sequence: the first starts it, the others continue it, and the same bytes at another place are the same sequence.
-- Assumes nothing.
use mathlib.Core.Path.{◌≡◌, refl, sym, ap, ◌∙◌}
use mathlib.Core.Bool.{Bool, true, false, cond, ◌&&◌, ◌||◌}
use mathlib.Core.List.{List}
use Prim.Native.Nat.{ℕ, zero, suc, ◌+◌, ◌<◌}
use native.Mathlib.Omega.{arith}
use native.Mathlib.Nat.{add-zero}
use lib.ListN.{length, get_or}
use lib.Dec.{leb, ltb}
use borrow.Author.Tests.{lt-ltb, leb-false, ltb-true}
use Rattle.text.specs.Utf8.{Row, row_in, row_of, within, continues, followed, sequence}
use Rattle.text.proofs.Sequences.{Follows, follows}
use Rattle.text.proofs.Tests.{within_low, within_high, within_above, within_below}

-- what it is for a sequence to start at a place
pub record Led (s : List ℕ) (at : ℕ) : Type 0 where
  pub inside : at < length s
  pub follows : followed s at (row_of (get_or s at 0)) ≡ true
  pub has : sequence s at ≡ (row_of (get_or s at 0)).bytes

pub led : (s : List ℕ) (at : ℕ) → 0 < sequence s at → Led s at
unfolding sequence
led s at = go (ltb at (length s)) refl (followed s at (row_of (get_or s at 0))) refl
  where
    go :
        (t : Bool) → ltb at (length s) ≡ t → (u : Bool) → followed s at (row_of (get_or s at 0)) ≡ u
        → 0 < cond (t && u) (row_of (get_or s at 0)).bytes 0 → Led s at
    go true e true f h = record { inside = ltb-true at (length s) e; follows = f; has = simp (e, f) }
    go true e false f h = absurd (omega arith)
    go false e true f h = absurd (omega arith)
    go false e false f h = absurd (omega arith)

pub leads : (s : List ℕ) (at : ℕ) → at < length s → followed s at (row_of (get_or s at 0)) ≡ true → sequence s at ≡ (row_of (get_or s at 0)).bytes
unfolding sequence
leads s at h e = simp (lt-ltb at (length s) h, e)

-- a byte that continues a sequence starts none
pub continuing_row : (b : ℕ) → continues b ≡ true → (row_of b).bytes ≡ 0
unfolding row_in
continuing_row b e =
    let low = within_low 0x80 0xBF b e in
    let high = within_high 0x80 0xBF b e in
    simp (
      within_above 0x00 0x7F b (omega arith) (omega arith),
      within_below 0xC2 0xDF b (omega arith),
      within_below 0xE0 0xE0 b (omega arith),
      within_below 0xE1 0xEC b (omega arith),
      within_below 0xED 0xED b (omega arith),
      within_below 0xEE 0xEF b (omega arith),
      within_below 0xF0 0xF0 b (omega arith),
      within_below 0xF1 0xF3 b (omega arith),
      within_below 0xF4 0xF4 b (omega arith),
    )

-- a test that a row asks for only where it has more than m bytes
asks_same : (n m : ℕ) (f : ℕ → Bool) (x y : ℕ) → (m < n → x ≡ y) → leb n m || f x ≡ leb n m || f y
asks_same n m f x y h = go (leb n m) refl
  where
    go : (t : Bool) → leb n m ≡ t → t || f x ≡ t || f y
    go true e = refl
    go false e = ap f (h (leb-false n m e))

pub followed_same :
    (s t : List ℕ) (i j : ℕ) (r : Row) → ((k : ℕ) → k < r.bytes → get_or s (i + k) 0 ≡ get_or t (j + k) 0) → followed s i r ≡ followed t j r
unfolding followed
followed_same s t i j r h =
    rw (
      asks_same r.bytes 1 (within r.second_low r.second_high) (get_or s (i + 1) 0) (get_or t (j + 1) 0) (h 1),
      asks_same r.bytes 2 continues (get_or s (i + 2) 0) (get_or t (j + 2) 0) (h 2),
      asks_same r.bytes 3 continues (get_or s (i + 3) 0) (get_or t (j + 3) 0) (h 3),
    )

-- the bytes of a sequence at another place are that sequence
pub sequence_same :
    (s t : List ℕ) (i j : ℕ)
    → 0 < sequence s i
    → j < length t
    → ((k : ℕ) → k < sequence s i → get_or s (i + k) 0 ≡ get_or t (j + k) 0)
    → sequence t j ≡ sequence s i
sequence_same s t i j h inside same =
    let l = led s i h in
    let first : get_or s i 0 ≡ get_or t j 0 = rw (add-zero i, add-zero j) at (same 0 h) in
    let row = row_of (get_or s i 0) in
    let more : followed t j row ≡ true = sym (followed_same s t i j row (λ k q. same k (omega (arith, l.has)))) ∙ l.follows in
    leads t j inside (rw (← first) more) ∙ ap (λ b. (row_of b).bytes) (sym first) ∙ sym l.has

-- the further bytes of a sequence continue it
pub inner : (s : List ℕ) (at k : ℕ) → 0 < k → k < sequence s at → continues (get_or s (at + k) 0) ≡ true
inner s at k some h = let l = led s at (omega arith) in go k (sequence s at) (rw l.has (follows s at (get_or s at 0) l.follows)) some h
  where
    go : (k n : ℕ) → Follows s at n → 0 < k → k < n → continues (get_or s (at + k) 0) ≡ true
    go zero n w p q = absurd (omega arith)
    go (suc zero) n w p q = w.second q
    go (suc (suc zero)) n w p q = w.third q
    go (suc (suc (suc zero))) n w p q = w.fourth q
    go (suc (suc (suc (suc k)))) n w p q = absurd (omega (arith, w.four))
