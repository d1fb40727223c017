-- Laws of records one after the other.
-- Assumes nothing.
use mathlib.Core.Path.{◌≡◌, refl, sym, ap, ◌∙◌}
use mathlib.Core.Bool.{Bool, true, false, cond, ◌&&◌}
use mathlib.Core.List.{List, [], ◌∷◌}
use Prim.Native.Nat.{ℕ, zero, suc, ◌-◌, ◌≤◌, ◌<◌}
use native.Mathlib.Omega.{arith}
use lib.Dec.{ltb, leb}
use lib.ListN.{length}
use borrow.Author.Tests.{lt-ltb, le-ltb, le-leb, leb-true, ltb-true, ltb-false}
use Rattle.laws.proofs.Booleans.{and_left, and_right}
use Rattle.image.specs.Read.{stop_at}
use Rattle.comments.specs.Record.{InImage}
use Rattle.comments.specs.AllIn.{offsets_of, offsets_from, all_in, AllIn}

module _ (b : List ℕ) (to : ℕ) where
  none_of : (n at : ℕ) → to ≤ at → offsets_of n b at to ≡ []
  unfolding offsets_of
  none_of zero at h = refl
  none_of (suc n) at h = rw (le-ltb at to h) refl

  -- further turns give nothing
  enough : (n m at : ℕ) → to - at ≤ n → to - at ≤ m → offsets_of n b at to ≡ offsets_of m b at to
  unfolding offsets_of
  enough zero m at h k = sym (none_of m at (omega (arith, h)))
  enough (suc n) zero at h k = none_of (suc n) at (omega (arith, k))
  enough (suc n) (suc m) at h k = go (enough n m (stop_at b at)) (ltb at to) refl
    where
      go : (to - stop_at b at ≤ n → to - stop_at b at ≤ m → offsets_of n b (stop_at b at) to ≡ offsets_of m b (stop_at b at) to) → (t : Bool) → ltb at to ≡ t
          → cond t (at ∷ offsets_of n b (stop_at b at) to) [] ≡ cond t (at ∷ offsets_of m b (stop_at b at) to) []
      go rest true e =
          let l = ltb-true at to e in
          ap (λ (xs : List ℕ). at ∷ xs) (rest (omega (arith, h, l)) (omega (arith, k, l)))
      go rest false e = refl

  pub first_offset : (at next : ℕ) → at < to → next ≡ stop_at b at → offsets_from b at to ≡ at ∷ offsets_from b next to
  unfolding offsets_of
  first_offset at next l f = rw f (go (to - at) refl)
    where
      go : (n : ℕ) → to - at ≡ n → offsets_of n b at to ≡ at ∷ offsets_from b (stop_at b at) to
      go zero e = absurd (omega (arith, e, l))
      go (suc n) e = rw (lt-ltb at to l) (ap (λ (xs : List ℕ). at ∷ xs) (enough n (to - stop_at b at) (stop_at b at) (omega (arith, e, l)) (omega arith)))

  pub no_offset : (at : ℕ) → to ≤ at → offsets_from b at to ≡ []
  no_offset at h = none_of (to - at) at h

  all_none : (n at : ℕ) → to ≤ at → all_in n b at to ≡ true
  unfolding all_in
  all_none zero at h = refl
  all_none (suc n) at h = rw (le-ltb at to h) refl

  all_enough : (n m at : ℕ) → to - at ≤ n → to - at ≤ m → all_in n b at to ≡ all_in m b at to
  unfolding all_in
  all_enough zero m at h k = sym (all_none m at (omega (arith, h)))
  all_enough (suc n) zero at h k = all_none (suc n) at (omega (arith, k))
  all_enough (suc n) (suc m) at h k = go (all_enough n m (stop_at b at)) (ltb at to) refl
    where
      go : (to - stop_at b at ≤ n → to - stop_at b at ≤ m → all_in n b (stop_at b at) to ≡ all_in m b (stop_at b at) to) → (t : Bool) → ltb at to ≡ t
          → cond t (leb (stop_at b at) (length b) && all_in n b (stop_at b at) to) true
          ≡ cond t (leb (stop_at b at) (length b) && all_in m b (stop_at b at) to) true
      go rest true e =
          let l = ltb-true at to e in
          ap (λ (t : Bool). leb (stop_at b at) (length b) && t) (rest (omega (arith, h, l)) (omega (arith, k, l)))
      go rest false e = refl

  step_in : (at : ℕ) → at < to → all_in (to - at) b at to ≡ leb (stop_at b at) (length b) && all_in (to - stop_at b at) b (stop_at b at) to
  unfolding all_in
  step_in at l = go (to - at) refl
    where
      go : (n : ℕ) → to - at ≡ n → all_in n b at to ≡ leb (stop_at b at) (length b) && all_in (to - stop_at b at) b (stop_at b at) to
      go zero e = absurd (omega (arith, e, l))
      go (suc n) e =
          rw (lt-ltb at to l)
          (ap (λ (t : Bool). leb (stop_at b at) (length b) && t) (all_enough n (to - stop_at b at) (stop_at b at) (omega (arith, e, l)) (omega arith)))

-- the first of records that lie in the image, and the others
module _ {b : List ℕ} {at to : ℕ} (l : at < to) (a : AllIn b at to) where
  pub first_in : InImage b at
  first_in =
      record {
        fits = leb-true _ _ (and_left (leb (stop_at b at) (length b)) (all_in (to - stop_at b at) b (stop_at b at) to) (sym (step_in b to at l) ∙ a.inside));
      }

  pub rest_in : AllIn b (stop_at b at) to
  rest_in =
      record {
        inside = and_right (leb (stop_at b at) (length b)) (all_in (to - stop_at b at) b (stop_at b at) to) (sym (step_in b to at l) ∙ a.inside);
      }

-- where the first lies in the image with the others, all do
pub in_first : (b : List ℕ) (at to : ℕ) → at < to → stop_at b at ≤ length b → AllIn b (stop_at b at) to → AllIn b at to
in_first b at to l h a = record { inside = step_in b to at l ∙ rw (← a.inside) (rw (le-leb _ _ h) refl) }

pub in_none : (b : List ℕ) (at to : ℕ) → to ≤ at → AllIn b at to
in_none b at to h = record { inside = all_none b to (to - at) at h }

-- where one more is given, it is the one that is next, and the others follow; where none is, the end is reached
module _ (b : List ℕ) (at to : ℕ) where
  pub given_next : {x : ℕ} {xs : List ℕ} → offsets_from b at to ≡ x ∷ xs → (at < to) × (x ≡ at) × (xs ≡ offsets_from b (stop_at b at) to)
  given_next {x} {xs} e = go (ltb at to) refl
    where
      go : (t : Bool) → ltb at to ≡ t → (at < to) × (x ≡ at) × (xs ≡ offsets_from b (stop_at b at) to)
      go true f =
          let l = ltb-true at to f in
          let g = sym (first_offset b to at _ l refl) ∙ e in
          (l, cc, cc)
      go false f =
          let g = sym (no_offset b to at (ltb-false at to f)) ∙ e in
          absurd (cc)

  pub given_none : offsets_from b at to ≡ [] → to ≤ at
  given_none e = go (ltb at to) refl
    where
      go : (t : Bool) → ltb at to ≡ t → to ≤ at
      go true f =
          let g = sym (first_offset b to at _ (ltb-true at to f) refl) ∙ e in
          absurd (cc)
      go false f = ltb-false at to f
