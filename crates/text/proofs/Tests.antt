-- Laws of `within`, the test that definitions of specs/ go by.
-- Assumes nothing.
use mathlib.Core.Path.{◌≡◌}
use mathlib.Core.Bool.{true, false}
use Prim.Native.Nat.{ℕ, ◌≤◌, ◌<◌}
use lib.Dec.{leb}
use borrow.Author.Tests.{le-leb, lt-leb, leb-true}
use Rattle.laws.proofs.Booleans.{and_left, and_right}
use Rattle.text.specs.Utf8.{within}

pub within_in : (low high x : ℕ) → low ≤ x → x ≤ high → within low high x ≡ true
unfolding within
within_in low high x h k = simp (le-leb low x h, le-leb x high k)

pub within_below : (low high x : ℕ) → x < low → within low high x ≡ false
unfolding within
within_below low high x h = simp (lt-leb low x h)

pub within_above : (low high x : ℕ) → low ≤ x → high < x → within low high x ≡ false
unfolding within
within_above low high x h k = simp (le-leb low x h, lt-leb x high k)

pub within_low : (low high x : ℕ) → within low high x ≡ true → low ≤ x
unfolding within
within_low low high x e = leb-true low x (and_left (leb low x) (leb x high) e)

pub within_high : (low high x : ℕ) → within low high x ≡ true → x ≤ high
unfolding within
within_high low high x e = leb-true x high (and_right (leb low x) (leb x high) e)
