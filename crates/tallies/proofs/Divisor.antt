-- Euclid's steps: each keeps the divisor, what they come to divides both numbers, and every common divisor divides it.
-- Assumes nothing.
use mathlib.Core.Path.{◌≡◌}
use mathlib.Core.Logic.{⊎_elim}
use Prim.Native.Nat.{ℕ, zero, suc, ◌%◌, ◌<◌, ◌∣◌}
use native.Mathlib.Nat.{eq-zero-or-pos, mod-lt, dvd_refl, dvd-zero, dvd-mod_iff, pos_of_dvd_of_pos}
use native.Mathlib.Omega.{arith}
use borrow.Author.Tests.{eq-eqb, ne_eqb}
use Rattle.tallies.specs.Fraction.{divisor_in, common_divisor}

-- ---- one step
no_step : (n a b : ℕ) → b ≡ 0 → divisor_in (suc n) a b ≡ a
unfolding divisor_in
no_step n a b e = rw (eq-eqb b 0 e)

one_step : (n a b : ℕ) → 0 < b → divisor_in (suc n) a b ≡ divisor_in n b (a % b)
unfolding divisor_in
one_step n a b p = rw (ne_eqb b 0 (omega arith))

-- more steps than are needed change nothing
enough : (n m a b : ℕ) → b < n → b < m → divisor_in n a b ≡ divisor_in m a b
enough zero m a b h k = absurd (omega arith)
enough (suc n) zero a b h k = absurd (omega arith)
enough (suc n) (suc m) a b h k =
    ⊎_elim
    (λ (e : b ≡ 0). rw (no_step n a b e, no_step m a b e))
    (λ (p : 0 < b). rw (one_step n a b p, one_step m a b p) (enough n m b (a % b) (omega (arith, mod-lt a p)) (omega (arith, mod-lt a p))))
    (eq-zero-or-pos b)

pub at_end : (a b : ℕ) → b ≡ 0 → common_divisor a b ≡ a
at_end a b e = no_step b a b e

pub keeps : (a b : ℕ) → 0 < b → common_divisor a b ≡ common_divisor b (a % b)
keeps a b p = rw (one_step b a b p) (enough b (suc (a % b)) b (a % b) (mod-lt a p) (omega arith))

-- ---- it divides both
divides_more : (a b d : ℕ) → 0 < b → (d ∣ b) × (d ∣ a % b) → (d ∣ a) × (d ∣ b)
divides_more a b d p h = ((dvd-mod_iff d h.0).0 h.1, h.0)

divides_in : (n a b : ℕ) → b < n → (divisor_in n a b ∣ a) × (divisor_in n a b ∣ b)
divides_in zero a b h = absurd (omega arith)
divides_in (suc n) a b h =
    ⊎_elim
    (λ (e : b ≡ 0). rw (no_step n a b e, e) (dvd_refl a, dvd-zero a))
    (λ (p : 0 < b). rw (one_step n a b p) (divides_more a b _ p (divides_in n b (a % b) (omega (arith, mod-lt a p)))))
    (eq-zero-or-pos b)

pub divides : (a b : ℕ) → (common_divisor a b ∣ a) × (common_divisor a b ∣ b)
divides a b = divides_in (suc b) a b (omega arith)

pub positive : (a b : ℕ) → 0 < b → 0 < common_divisor a b
positive a b p = pos_of_dvd_of_pos (divides a b).1 p

-- ---- and what divides both divides it
greatest_in : (n a b d : ℕ) → d ∣ a → d ∣ b → d ∣ divisor_in n a b
unfolding divisor_in
greatest_in zero a b d h k = h
greatest_in (suc n) a b d h k =
    ⊎_elim
    (λ (e : b ≡ 0). rw (no_step n a b e) h)
    (λ (p : 0 < b). rw (one_step n a b p) (greatest_in n b (a % b) d k ((dvd-mod_iff d k).1 h)))
    (eq-zero-or-pos b)

pub greatest : (a b d : ℕ) → d ∣ a → d ∣ b → d ∣ common_divisor a b
greatest a b d h k = greatest_in (suc b) a b d h k
