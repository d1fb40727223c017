-- A place and a row are numbers; this is what they mean in document 01's words. Every place of the grammar is `assign`, or made by `up_to`, `list`,
-- `may` and `many` of kinds below 128, so that the bounds hold. proofs/Unpacked.antt proves it.
use Rattle.std.specs.Prelude.{◌≡◌, true, false, ◌&&◌, ℕ, ◌+◌, ◌≤◌, ◌<◌, leb, eqb}
use Rattle.image.specs.Kinds.{LIST, OPERATOR}
use Rattle.image.specs.Grammar.{up_to, list, assign, may, many, is_assign, is_optional, bare, ◌⊳◌, place, after, kind_fits_of, row_under_of}

pub record Unpacked : Type 0 where
  -- a kind by itself: that kind alone stands there
  pub alone : (n k : ℕ) → n < 128 → kind_fits_of n k ≡ (leb n k && leb k n)
  -- any kind of low to high
  pub ranges : (low high k : ℕ) → low < 128 → low ≤ high → high < low + 32 → kind_fits_of (up_to low high) k ≡ (leb low k && leb k high)
  -- the operator of a compound assignment: an operator stands there, and no other place has its mark
  pub assigns : (k : ℕ) → kind_fits_of assign k ≡ (leb OPERATOR k && leb k OPERATOR)
  pub assigned : is_assign assign ≡ true
  pub unassigned : (p : ℕ) → p < 8192 → is_assign p ≡ false
  -- "3 of p": a list stands there, and its children are any number of p
  pub lists : (p k : ℕ) → p < 4096 → kind_fits_of (list p) k ≡ eqb k LIST
  pub elements : (p k : ℕ) → p < 4096 → row_under_of (list p) k ≡ many p
  -- "p?"
  pub optional : (p : ℕ) → p < 16384 → is_optional (may p) ≡ true
  pub bare_optional : (p : ℕ) → p < 16384 → bare (may p) ≡ p
  pub no_mark : (p : ℕ) → p < 16384 → is_optional p ≡ false
  -- "p*": it stays the first place, and none is due
  pub again : (p r : ℕ) → p < 32768 → after (many p ⊳ r) ≡ many p ⊳ r
  pub bare_many : (p : ℕ) → p < 16384 → bare (many p) ≡ p
  -- the places of a record in order
  pub first : (p r : ℕ) → p < 65536 → place (p ⊳ r) ≡ p
  pub next : (p r : ℕ) → p < 32768 → after (p ⊳ r) ≡ r
