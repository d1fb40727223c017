-- The code point by the number of bytes, at numbers that the bytes are.
-- Assumes nothing.
use mathlib.Core.Path.{◌≡◌, sym}
use mathlib.Core.List.{List}
use Prim.Native.Nat.{ℕ, ◌+◌, ◌*◌, ◌%◌, ◌<◌}
use lib.ListN.{get_or}
use borrow.Author.Tests.{lt-leb, eq-eqb, ne_eqb}
use Rattle.text.specs.Utf8.{scalar}

module _ (s : List ℕ) (at n w x y z : ℕ) (p : w ≡ get_or s at 0) (q : x ≡ get_or s (at + 1) 0) (r : y ≡ get_or s (at + 2) 0) (u : z ≡ get_or s (at + 3) 0) where
  pub of_two : 1 < n → n ≡ 2 → w % 32 * 64 + x % 64 ≡ scalar s at n
  unfolding scalar
  of_two h e = rw (p, q) (sym (simp (lt-leb n 1 h, eq-eqb n 2 e)))

  pub of_three : 1 < n → (n ≡ 2 → ⊥) → n ≡ 3 → w % 16 * 4096 + x % 64 * 64 + y % 64 ≡ scalar s at n
  unfolding scalar
  of_three h d e = rw (p, q, r) (sym (simp (lt-leb n 1 h, ne_eqb n 2 d, eq-eqb n 3 e)))

  pub of_four : 1 < n → (n ≡ 2 → ⊥) → (n ≡ 3 → ⊥) → w % 8 * 262144 + x % 64 * 4096 + y % 64 * 64 + z % 64 ≡ scalar s at n
  unfolding scalar
  of_four h d e = rw (p, q, r, u) (sym (simp (lt-leb n 1 h, ne_eqb n 2 d, ne_eqb n 3 e)))
