-- Laws of `not`, `&&`, `||` and of tests on numbers.
-- Assumes nothing.
use mathlib.Core.Path.{◌≡◌, refl, ap}
use mathlib.Core.Bool.{Bool, true, false, cond, not, ◌&&◌, ◌||◌}
use Prim.Native.Nat.{ℕ, ◌≤◌}
use native.Mathlib.Omega.{arith}
use native.Mathlib.Decide.{dec_le}
use lib.Dec.{ltb, leb}
use borrow.Author.Tests.{lt-ltb, le-ltb, le-leb, lt-leb}

-- ---- true is not false
pub true_false : {A : Type 0} → true ≡ false → A
true_false e = let z : ◌≡◌ {A = ℕ} 0 1 = ap (λ (t : Bool). cond t 0 1) e in absurd (omega arith)

pub false_true : {A : Type 0} → false ≡ true → A
false_true e = let z : ◌≡◌ {A = ℕ} 1 0 = ap (λ (t : Bool). cond t 0 1) e in absurd (omega arith)

pub clash : (x : Bool) → x ≡ true → x ≡ false → ⊥
clash x e f = let z : ◌≡◌ {A = ℕ} 0 1 = cc in omega arith

-- ---- `&&`
pub and_left : (x y : Bool) → x && y ≡ true → x ≡ true
and_left true y e = refl
and_left false y e = e

pub and_right : (x y : Bool) → x && y ≡ true → y ≡ true
and_right true y e = e
and_right false y e = false_true e

pub both : (x y : Bool) → (x && y) ≡ true → (x ≡ true) × (y ≡ true)
both x y e = (and_left x y e, and_right x y e)

pub and_false : (x : Bool) → x && false ≡ false
and_false true = refl
and_false false = refl

-- ---- `||`
pub or_right : (x y : Bool) → x || y ≡ true → x ≡ false → y ≡ true
or_right x y e f = simp f at e

pub or_first : (x y : Bool) → (x || y) ≡ false → x ≡ false
or_first true y e = e
or_first false y e = refl

pub or_rest : (x y : Bool) → (x || y) ≡ false → y ≡ false
or_rest true y e = true_false e
or_rest false y e = e

pub or_none : (x : Bool) → (x || false) ≡ x
or_none true = refl
or_none false = refl

-- ---- tests on numbers
-- "at most", as the only test of a list
pub at_most : (a b : ℕ) → leb a b ≡ not (ltb b a || false)
at_most a b = go (dec_le a b)
  where
    go : Dec (a ≤ b) → leb a b ≡ not (ltb b a || false)
    go (yes h) = rw (le-leb a b h, le-ltb b a h)
    go (no h) = rw (lt-leb a b (omega arith), lt-ltb b a (omega arith))
