-- A number in the unused width place of a row that is no `Str` changes nothing of the document: a dry run may keep a mark there.
-- Assumes nothing.
use mathlib.Core.Path.{◌≡◌, refl, ap, ◌∙◌}
use Prim.Native.Nat.{ℕ, ◌+◌, ◌*◌, ◌<◌}
use native.Mathlib.Omega.{arith}
use mathlib.Core.Bool.{Bool, true, false, cond}
use mathlib.Core.List.{List}
use lib.ListN.{set}
use lib.Seq.{get_or-set_other}
use lib.Dec.{eqb}
use borrow.Author.Tests.{eqb-true, eqb-false, ne_eqb}
use Rattle.rows.specs.Kinds.{STR}
use Rattle.rows.specs.Places.{KIND, WIDTH, PLACES}
use Rattle.rows.specs.View.{view_of, cell}

module _ (s : List ℕ) (i x : ℕ) where
  pub other : (k p : ℕ) → p < 8 → cell (set s (i * PLACES + WIDTH) x) k p ≡ cell s k p
  other k p h = get_or-set_other s (i * PLACES + WIDTH) (k * 9 + p) x 0 (λ e. omega arith)

  wide_same : (cell s i KIND ≡ STR → ⊥) → (k : ℕ)
      → cond (eqb (cell (set s (i * PLACES + WIDTH) x) k KIND) STR) (cell (set s (i * PLACES + WIDTH) x) k WIDTH) 0
      ≡ cond (eqb (cell s k KIND) STR) (cell s k WIDTH) 0
  wide_same n k = ap (λ (z : ℕ). cond (eqb z 5) (cell (set s (i * PLACES + WIDTH) x) k WIDTH) 0) (other k 0 (omega arith)) ∙ go (eqb k i) refl
    where
      go : (b : Bool) → eqb k i ≡ b
          → cond (eqb (cell s k KIND) STR) (cell (set s (i * PLACES + WIDTH) x) k WIDTH) 0 ≡ cond (eqb (cell s k KIND) STR) (cell s k WIDTH) 0
      go true e = let q = eqb-true k i e in rw (q, ne_eqb (cell s i KIND) STR n)
      go false e = let q = eqb-false k i e in rw (get_or-set_other s (i * PLACES + WIDTH) (k * PLACES + WIDTH) x 0 (λ z. q (omega arith)))

  -- the document is the same
  pub scratched : (cell s i KIND ≡ STR → ⊥) → view_of (set s (i * PLACES + WIDTH) x) ≡ view_of s
  unfolding view_of
  scratched n =
      λ j.
      record {
        kind = λ k. other k 0 (omega arith) j;
        number = λ k. other k 1 (omega arith) j;
        number2 = λ k. other k 2 (omega arith) j;
        second = λ k. other k 3 (omega arith) j;
        after = λ k. other k 4 (omega arith) j;
        text = λ k. record { origin = other k 5 (omega arith) j; start = other k 6 (omega arith) j; size = other k 7 (omega arith) j };
        width = λ k. wide_same n k j;
      }
