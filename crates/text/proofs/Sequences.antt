-- Laws of `sequence`.
-- Assumes nothing.
use mathlib.Core.Path.{◌≡◌, refl, sym}
use mathlib.Core.Bool.{Bool, true, false, cond, ◌&&◌, ◌||◌}
use mathlib.Core.List.{List, [], ◌∷◌}
use mathlib.Core.Logic.{◌⊎◌}
use Prim.Native.Nat.{ℕ, zero, suc, ◌+◌, ◌≤◌, ◌<◌}
use native.Mathlib.Omega.{arith}
use lib.ListN.{length, get_or, get_or-eq_default}
use lib.Dec.{leb, ltb}
use borrow.Author.Tests.{lt-ltb, le-leb, lt-leb, ltb-true, ltb-false, leb-true}
use Rattle.text.specs.Utf8.{Row, row, table37, row_in, row_of, some_bytes, within, continues, followed, sequence}
use Rattle.std.specs.Prelude.{None, Some}
use Rattle.std.specs.Bool.{then_some}
use Rattle.std.proofs.lemmas.Bool.Decides.{nat_tests}
use Rattle.laws.proofs.Booleans.{and_left, and_right, or_right}
use Rattle.text.proofs.Tests.{within_in, within_low, within_high}

-- a byte below 80 is a sequence by itself
ascii_row : (b : ℕ) → b < 0x80 → row_of b ≡ row 0x00 0x7F 0x00 0x00 1
unfolding row_in within
ascii_row b h = simp (le-leb 0 b (omega arith), le-leb b 0x7F (omega arith))

pub ascii : (s : List ℕ) (at : ℕ) → at < length s → get_or s at 0 < 0x80 → sequence s at ≡ 1
unfolding sequence followed
ascii s at h k = simp (lt-ltb at (length s) h, ascii_row (get_or s at 0) k)

-- what a test finds of each row of a table, and of the row of 0 bytes, it finds of the row for a byte
abbrev pub all : (Row → Bool) → List Row → Bool
all f [] = f (row 0 0 0 0 0)
all f (r ∷ rs) = f r && all f rs

pub row_has : (f : Row → Bool) (rs : List Row) (b : ℕ) → all f rs ≡ true → f (row_in rs b) ≡ true
unfolding row_in
row_has f [] b e = e
row_has f (r ∷ rs) b e = go (row_has f rs b (and_right (f r) (all f rs) e)) (within r.first_low r.first_high b)
  where
    go : f (row_in rs b) ≡ true → (t : Bool) → f (cond t r (row_in rs b)) ≡ true
    go more true = and_left (f r) (all f rs) e
    go more false = more

-- a test that a row asks for only where it has more than m bytes
asked : (n m : ℕ) (t : Bool) → leb n m || t ≡ true → m < n → t ≡ true
asked n m t e h = or_right (leb n m) t e (lt-leb n m h)

-- a row has four bytes at most, and each second byte continues
sound : Row → Bool
sound r = leb r.bytes 4 && (leb r.bytes 1 || (leb 0x80 r.second_low && leb r.second_high 0xBF))

row_sound : (b : ℕ) → sound (row_of b) ≡ true
unfolding sound
row_sound b = row_has sound table37 b refl

four_at_most : (b : ℕ) → (row_of b).bytes ≤ 4
unfolding sound
four_at_most b = leb-true (row_of b).bytes 4 (and_left (leb (row_of b).bytes 4) _ (row_sound b))

second_continues : (b x : ℕ) → 1 < (row_of b).bytes → within (row_of b).second_low (row_of b).second_high x ≡ true → continues x ≡ true
unfolding sound
second_continues b x h e =
    let r = row_of b in
    let low = leb 0x80 r.second_low in
    let high = leb r.second_high 0xBF in
    let both = asked r.bytes 1 (low && high) (and_right (leb r.bytes 4) _ (row_sound b)) h in
    let a = leb-true 0x80 r.second_low (and_left low high both) in
    let z = leb-true r.second_high 0xBF (and_right low high both) in
    within_in 0x80 0xBF x
    (omega (arith, within_low r.second_low r.second_high x e))
    (omega (arith, within_high r.second_low r.second_high x e))

-- a byte other than 0 stands in the text
pub stands : (s : List ℕ) (i : ℕ) → 0 < get_or s i 0 → i < length s
stands s i h = go (ltb i (length s)) refl
  where
    go : (t : Bool) → ltb i (length s) ≡ t → i < length s
    go true e = ltb-true i (length s) e
    go false e = absurd (omega (arith, get_or-eq_default s 0 (ltb-false i (length s) e)))

fits : (n at len : ℕ) → n ≤ 4 → at < len → (1 < n → at + 1 < len) → (2 < n → at + 2 < len) → (3 < n → at + 3 < len) → at + n ≤ len
fits zero at len m h a b c = omega arith
fits (suc zero) at len m h a b c = omega arith
fits (suc (suc zero)) at len m h a b c = let k = a (omega arith) in omega arith
fits (suc (suc (suc zero))) at len m h a b c = let k = b (omega arith) in omega arith
fits (suc (suc (suc (suc zero)))) at len m h a b c = let k = c (omega arith) in omega arith
fits (suc (suc (suc (suc (suc n))))) at len m h a b c = absurd (omega arith)

-- what `followed` says of the bytes after the first, of which there are three at most
pub record Follows (s : List ℕ) (at n : ℕ) : Type 0 where
  pub four : n ≤ 4
  pub second : 1 < n → continues (get_or s (at + 1) 0) ≡ true
  pub third : 2 < n → continues (get_or s (at + 2) 0) ≡ true
  pub fourth : 3 < n → continues (get_or s (at + 3) 0) ≡ true

pub follows : (s : List ℕ) (at b : ℕ) → followed s at (row_of b) ≡ true → Follows s at (row_of b).bytes
unfolding followed
follows s at b e =
    let r = row_of b in
    let t₁ = leb r.bytes 1 || within r.second_low r.second_high (get_or s (at + 1) 0) in
    let t₂ = leb r.bytes 2 || continues (get_or s (at + 2) 0) in
    let t₃ = leb r.bytes 3 || continues (get_or s (at + 3) 0) in
    record {
      four = four_at_most b;
      second = λ k. second_continues b (get_or s (at + 1) 0) k (asked r.bytes 1 _ (and_left t₁ t₂ (and_left (t₁ && t₂) t₃ e)) k);
      third = asked r.bytes 2 _ (and_right t₁ t₂ (and_left (t₁ && t₂) t₃ e));
      fourth = asked r.bytes 3 _ (and_right (t₁ && t₂) t₃ e);
    }

-- a byte that continues a sequence stands in the text
continuing_stands : (s : List ℕ) (i : ℕ) → continues (get_or s i 0) ≡ true → i < length s
continuing_stands s i e = let more = within_low 0x80 0xBF (get_or s i 0) e in stands s i (omega arith)

followed_fits : (s : List ℕ) (at b : ℕ) → at < length s → followed s at (row_of b) ≡ true → at + (row_of b).bytes ≤ length s
followed_fits s at b h e =
    let w = follows s at b e in
    fits (row_of b).bytes at (length s) w.four h
    (λ k. continuing_stands s (at + 1) (w.second k))
    (λ k. continuing_stands s (at + 2) (w.third k))
    (λ k. continuing_stands s (at + 3) (w.fourth k))

-- a sequence ends in the text
pub sequence_fits : (s : List ℕ) (at : ℕ) → at ≤ length s → at + sequence s at ≤ length s
unfolding sequence
sequence_fits s at h = go (ltb at (length s)) refl (followed s at (row_of (get_or s at 0))) refl
  where
    go : (t : Bool) → ltb at (length s) ≡ t → (u : Bool) → followed s at (row_of (get_or s at 0)) ≡ u
        → at + cond (t && u) (row_of (get_or s at 0)).bytes 0 ≤ length s
    go true e true f = followed_fits s at (get_or s at 0) (ltb-true at (length s) e) f
    go true e false f = omega arith
    go false e true f = omega arith
    go false e false f = omega arith

-- rows by the first byte, as the code tells them apart
module _ (b : ℕ) where
  pub row_none : (0x7F < b) → (b < 0xC2) ⊎ (0xF4 < b) → (row_of b).bytes ≡ 0
  unfolding row_in within
  row_none h k = grind (arith, nat_tests)

  pub row_two : 0xC2 ≤ b → b ≤ 0xDF → (row_of b).bytes ≡ 2
  unfolding row_in within
  row_two h k = grind (arith, nat_tests)

  pub row_three : 0xE0 ≤ b → b ≤ 0xEF → (row_of b).bytes ≡ 3
  unfolding row_in within
  row_three h k = grind (arith, nat_tests)

  pub row_four : 0xF0 ≤ b → b ≤ 0xF4 → (row_of b).bytes ≡ 4
  unfolding row_in within
  row_four h k = grind (arith, nat_tests)

-- a byte that may come second
abbrev pub second : ℕ → ℕ → Bool
second b = within (row_of b).second_low (row_of b).second_high

-- what the code finds of a sequence whose first byte is b
module _ (s : List ℕ) (at b : ℕ) (inside : at < length s) (first : b ≡ get_or s at 0) where
  by_row : (n : ℕ) → (row_of b).bytes ≡ n → sequence s at ≡ cond (followed s at (row_of b)) n 0
  unfolding sequence
  by_row n e = rw (← first, e, lt-ltb at (length s) inside)

  pub sequence_one : b < 0x80 → Some 1 ≡ some_bytes (sequence s at)
  sequence_one h = sym (rw (ascii s at inside (omega arith)))

  pub sequence_none : (row_of b).bytes ≡ 0 → None ≡ some_bytes (sequence s at)
  sequence_none e = rw (by_row 0 e) (go (followed s at (row_of b)))
    where
      go : (t : Bool) → None ≡ some_bytes (cond t 0 0)
      go true = refl
      go false = refl

  module _ (t : Bool) where
    pub sequence_two : (row_of b).bytes ≡ 2 → t ≡ second b (get_or s (at + 1) 0) → then_some t 2 ≡ some_bytes (sequence s at)
    unfolding followed
    sequence_two e f = rw (by_row 2 e, e, f) (go (second b (get_or s (at + 1) 0)))
      where
        go : (t : Bool) → then_some t 2 ≡ some_bytes (cond (t && true && true) 2 0)
        go true = refl
        go false = refl

    pub sequence_three : (row_of b).bytes ≡ 3 → t ≡ (second b (get_or s (at + 1) 0) && continues (get_or s (at + 2) 0))
        → then_some t 3 ≡ some_bytes (sequence s at)
    unfolding followed
    sequence_three e f = rw (by_row 3 e, e, f) (go (second b (get_or s (at + 1) 0)) (continues (get_or s (at + 2) 0)))
      where
        go : (t u : Bool) → then_some (t && u) 3 ≡ some_bytes (cond (t && u && true) 3 0)
        go true true = refl
        go true false = refl
        go false u = refl

    pub sequence_four :
        (row_of b).bytes ≡ 4 → t ≡ (second b (get_or s (at + 1) 0) && continues (get_or s (at + 2) 0) && continues (get_or s (at + 3) 0))
        → then_some t 4 ≡ some_bytes (sequence s at)
    unfolding followed
    sequence_four e f = rw (by_row 4 e, e, f) (go (second b (get_or s (at + 1) 0) && continues (get_or s (at + 2) 0) && continues (get_or s (at + 3) 0)))
      where
        go : (t : Bool) → then_some t 4 ≡ some_bytes (cond t 4 0)
        go true = refl
        go false = refl
