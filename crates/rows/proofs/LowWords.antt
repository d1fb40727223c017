-- The fixed words are ASCII, by computation over the whole of them.
-- Assumes nothing.
use Prim.Native.Nat.{ℕ, zero, suc, ◌<◌}
use native.Mathlib.Omega.{arith}
use mathlib.Core.Path.{◌≡◌, refl}
use mathlib.Core.Bool.{Bool, true, false, cond}
use mathlib.Core.List.{List, [], ◌∷◌}
use lib.ListN.{get_or}
use lib.Dec.{ltb}
use borrow.Author.Tests.{ltb-true}
use Rattle.rows.specs.Ascii.{bytes}
use Rattle.rows.specs.Words.{words, joined}

-- each byte of a list is below 0x80
unfoldable low : List ℕ → Bool
low [] = true
low (b ∷ bs) = cond (ltb b 0x80) (low bs) false

low_at : (l : List ℕ) (k : ℕ) → low l ≡ true → get_or l k 0 < 0x80
unfolding low
low_at [] k h = omega arith
low_at (b ∷ bs) k h = go (λ j. low_at bs j) k (ltb b 0x80) refl h
  where
    go : ((j : ℕ) → low bs ≡ true → get_or bs j 0 < 0x80) → (k : ℕ) (x : Bool) → ltb b 0x80 ≡ x → cond x (low bs) false ≡ true → get_or (b ∷ bs) k 0 < 0x80
    go more k false e h = absurd (let z : ◌≡◌ {A = ℕ} 0 1 = cc in omega arith)
    go more zero true e h = ltb-true b 0x80 e
    go more (suc k) true e h = more k h

low_words : low words ≡ true
unfolding low words joined bytes
low_words = refl

pub word_low : (k : ℕ) → get_or words k 0 < 0x80
word_low k = low_at words k low_words
