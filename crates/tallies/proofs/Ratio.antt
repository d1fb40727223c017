-- Wrapped over given, each over Euclid's divisor, is the same ratio in lowest terms.
-- Assumes nothing.
use mathlib.Core.Path.{◌≡◌, refl, sym, ap}
use mathlib.Core.Logic.{◌⊎◌, inl, inr}
use Prim.Native.Nat.{ℕ, zero, ◌*◌, ◌/◌, ◌<◌, ◌∣◌}
use native.Mathlib.Nat.{eq-zero-or-pos, dvd-mul_right, div-mul_cancel, dvd_of_mul-dvd-mul_right, eq-one_of_dvd-one, one-mul}
use native.Mathlib.Omega.{arith}
use borrow.Author.Tests.{eq-eqb, ne_eqb}
use Rattle.tallies.specs.declared.Fraction.{Fraction}
use Rattle.tallies.specs.Fraction.{common_divisor, reduced, Reduced, AlwaysReduced}
use Rattle.tallies.proofs.Divisor.{divides, positive, greatest}

-- ---- the two cases of the definition
pub none_given : (wrapped given : ℕ) → given ≡ 0 → record { over = 0; under = 1 } ≡ reduced wrapped given
unfolding reduced
none_given wrapped given e = rw (eq-eqb given 0 e)

pub some_given : (wrapped given d : ℕ) → 0 < given → d ≡ common_divisor wrapped given → record { over = wrapped / d; under = given / d } ≡ reduced wrapped given
unfolding reduced
some_given wrapped given d p e = rw (ne_eqb given 0 (omega arith), e)

-- ---- what is reduced
-- wrapped = over * g and given = under * g
same_ratio : (over under g wrapped given : ℕ) → over * g ≡ wrapped → under * g ≡ given → over * given ≡ wrapped * under
same_ratio over under g wrapped given e f = rw (← e, ← f) (omega arith)

-- a number that divides both, times g, divides wrapped and given
scaled : (over d x g wrapped : ℕ) → over * g ≡ wrapped → over ≡ d * x → d * g ∣ wrapped
scaled over d x g wrapped e f =
    let same : d * g * x ≡ wrapped = omega (arith, ap (λ (o : ℕ). o * g) f) in
    rw same at (dvd-mul_right (d * g) x)

one_alone : (d g : ℕ) → 0 < g → d * g ∣ g → d ≡ 1
one_alone d g p h = eq-one_of_dvd-one (dvd_of_mul-dvd-mul_right d p (rw (one-mul g) h))

module _ (wrapped given : ℕ) (p : 0 < given) where
  abbrev g : ℕ
  g = common_divisor wrapped given

  abbrev lowest_terms : Fraction
  lowest_terms = record { over = wrapped / g; under = given / g }

  wrapped_back : wrapped / g * g ≡ wrapped
  wrapped_back = div-mul_cancel g (divides wrapped given).0

  given_back : given / g * g ≡ given
  given_back = div-mul_cancel g (divides wrapped given).1

  lowest_reduced : Reduced wrapped given lowest_terms
  lowest_reduced = record {
    ratio = λ _. same_ratio (wrapped / g) (given / g) g wrapped given wrapped_back given_back;
    lowest = λ d x y e f.
        one_alone d g (positive wrapped given p)
        (greatest wrapped given (d * g) (scaled (wrapped / g) d x g wrapped wrapped_back e) (scaled (given / g) d y g given given_back f));
    nothing = λ e. absurd (omega arith);
  }

nothing_reduced : (wrapped given : ℕ) → given ≡ 0 → Reduced wrapped given (record { over = 0; under = 1 })
nothing_reduced wrapped given e = record {
  ratio = λ h. absurd (omega arith);
  lowest = λ d x y f h. eq-one_of_dvd-one (rw (sym h) at (dvd-mul_right d y));
  nothing = λ _. refl;
}

pub always_reduced : AlwaysReduced
always_reduced wrapped given = go (eq-zero-or-pos given)
  where
    go : (given ≡ zero) ⊎ (zero < given) → Reduced wrapped given (reduced wrapped given)
    go (inl e) = rw (← none_given wrapped given e) (nothing_reduced wrapped given e)
    go (inr p) = rw (← some_given wrapped given (common_divisor wrapped given) p refl) (lowest_reduced wrapped given p)
