-- What a reading that got something was made of: one reading after the other, and a test before one.
-- Assumes nothing.
use mathlib.Core.Path.{◌≡◌, refl, ap}
use mathlib.Core.Bool.{Bool, true, false, cond, false≢true}
use Prim.Native.Nat.{ℕ}
use Rattle.image.specs.Read.{Read, got, bad, bind}
use Rattle.image.proofs.Shapes.{is_got}

pub never : {A B : Type 0} {n p e : ℕ} {a : A} → ◌≡◌ {A = Read A} (bad n p) (got a e) → B
never h = absurd (false≢true (ap is_got h))

pub bind_got : {A B : Type 0} (r : Read A) (k : A → ℕ → Read B) (b : B) (e : ℕ) → bind r k ≡ got b e
    → (a : A) × (n : ℕ) × (r ≡ got a n) × (k a n ≡ got b e)
bind_got (got a n) k b e h = (a, n, refl, h)
bind_got (bad n p) k b e h = never h

pub passed : {A : Type 0} (t : Bool) (r : Read A) (n p : ℕ) (a : A) (e : ℕ) → cond t r (bad n p) ≡ got a e → (t ≡ true) × (r ≡ got a e)
passed true r n p a e h = (refl, h)
passed false r n p a e h = never h

pub stayed : {A : Type 0} (t : Bool) (r : Read A) (n p : ℕ) (a : A) (e : ℕ) → cond t (bad n p) r ≡ got a e → (t ≡ false) × (r ≡ got a e)
stayed true r n p a e h = never h
stayed false r n p a e h = (refl, h)
