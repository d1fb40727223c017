-- Invariants of the loops that fill a buffer and that compare one.
use native.Mathlib.Omega.{arith}
use native.Mathlib.Numerals.{add-one}
use Prim.Native.Nat.{ℕ, suc, ◌+◌, ◌-◌, ◌≤◌, ◌<◌}
use mathlib.Core.Path.{◌≡◌, refl, sym, ◌∙◌}
use mathlib.Core.Bool.{Bool, true, false, ◌&&◌}
use mathlib.Core.List.{List, [], ◌∷◌, ◌++◌, append_assoc, append-nil}
use lib.ListN.{length, take, drop, get_or, set, length-set}
use lib.Seq.{take-suc-set, take_all, drop-cons, drop-length}
use Rattle.stored_answers.specs.Numbers.{onward, listed, agree}

-- The first i values stand in b, and those from `here` on make the list whole.
pub record Filling {A : Type 0} (f : ℕ → A) (w n at : ℕ) (b : List A) (i here : ℕ) : Type 0 where
  pub size : length b ≡ n
  pub inside : i ≤ n
  pub done : take i b ++ listed f w (n - i) here ≡ listed f w n at

module _ {A : Type 0} (f : ℕ → A) (w : ℕ) where
  listed_more : (n i here : ℕ) → i < n → listed f w (n - i) here ≡ f here ∷ listed f w (n - suc i) (onward here w)
  unfolding listed
  listed_more n i here h = let e : n - i ≡ suc (n - suc i) = omega arith in rw e

  listed_none : (n i here : ℕ) → n ≤ i → listed f w (n - i) here ≡ []
  unfolding listed
  listed_none n i here h = let e : n - i ≡ 0 = omega arith in rw e

  pub filling_start : (b : List A) (at : ℕ) → Filling f w (length b) at b 0 at
  filling_start b at = let e : length b - 0 ≡ length b = omega arith in record { size = refl; inside = omega arith; done = rw e }

  pub filling_more : (n at : ℕ) (b : List A) (i here : ℕ) (v : A) (next : ℕ) → Filling f w n at b i here
      → i < n → v ≡ f here → next ≡ onward here w → Filling f w n at (set b i v) (i + 1) next
  filling_more n at b i here v next F h e k =
      let inb : i < length b = omega (arith, F.size) in
      record {
        size = simp length-set F.size;
        inside = omega arith;
        done = rw (add-one, take-suc-set b i v inb, append_assoc, e, k) (rw (listed_more n i here h) at F.done);
      }

  pub filling_end : (n at : ℕ) (b : List A) (i here : ℕ) → Filling f w n at b i here → n ≤ i → b ≡ listed f w n at
  filling_end n at b i here F h = rw (listed_none n i here h, append-nil, take_all i b (omega (arith, F.size))) at F.done

-- What is left of b decides.
pub record Agreeing {A : Type 0} (same : A → A → Bool) (f : ℕ → A) (w : ℕ) (b : List A) (at i here : ℕ) : Type 0 where
  pub inside : i ≤ length b
  pub rest : agree same f w (drop i b) here ≡ agree same f w b at

module _ {A : Type 0} (same : A → A → Bool) (f : ℕ → A) (w : ℕ) (b : List A) (at i here : ℕ) (F : Agreeing same f w b at i here) where
  here_more : (x : A) → i < length b → agree same f w b at ≡ (same (get_or b i x) (f here) && agree same f w (drop (i + 1) b) (onward here w))
  unfolding agree
  here_more x h = sym F.rest ∙ rw (add-one, drop-cons b i x h)

  pub agreeing_more : (x : A) (next : ℕ) → i < length b → same (get_or b i x) (f here) ≡ true → next ≡ onward here w → Agreeing same f w b at (i + 1) next
  agreeing_more x next h e k =
      record {
        inside = omega arith;
        rest = sym (here_more x h ∙ rw (e, k));
      }

  pub agreeing_not : (x : A) → i < length b → same (get_or b i x) (f here) ≡ false → false ≡ agree same f w b at
  agreeing_not x h e = sym (here_more x h ∙ rw e)

  pub agreeing_end : length b ≤ i → true ≡ agree same f w b at
  unfolding agree
  agreeing_end h =
      let e : i ≡ length b = omega (arith, F.inside) in rw (e, drop-length) at F.rest
