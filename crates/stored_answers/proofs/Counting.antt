-- The sum of counts, as a loop makes it.
-- Assumes nothing.
use mathlib.Core.Path.{◌≡◌, refl, sym, ap, ap₂, ◌∙◌}
use mathlib.Core.List.{List}
use Prim.Native.Nat.{ℕ, ◌+◌, ◌≤◌, ◌<◌}
use native.Mathlib.Omega.{arith}
use native.Mathlib.Numerals.{add-one}
use lib.ListN.{length, drop, get_or}
use lib.Seq.{drop-cons, drop-length}
use Rattle.stored_answers.specs.Numbers.{onward}
use Rattle.stored_answers.specs.Differences.{total_from, total}

-- going on from place i with the sum n gives the whole sum
pub record Counting (counts : List ℕ) (n i : ℕ) : Type 0 where
  pub inside : i ≤ length counts
  pub rest : total_from n (drop i counts) ≡ total counts

module _ (counts : List ℕ) (n i : ℕ) (C : Counting counts n i) where
  pub counting_more : (m : ℕ) → i < length counts → m ≡ onward n (get_or counts i 0) → Counting counts m (i + 1)
  counting_more m h e =
      record {
        inside = omega arith;
        rest = ap₂ (λ (k : ℕ) (j : ℕ). total_from k (drop j counts)) e (add-one i) ∙ sym (ap (total_from n) (drop-cons counts i 0 h)) ∙ C.rest;
      }

  pub counting_end : length counts ≤ i → n ≡ total counts
  counting_end h =
      let e : i ≡ length counts = omega (arith, C.inside) in
      sym (ap (λ (j : ℕ). total_from n (drop j counts)) e ∙ ap (total_from n) (drop-length counts)) ∙ C.rest
