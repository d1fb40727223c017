-- Request 2: "wrapped over given as a reduced fraction (0 over 1 when none is given)".
use Rattle.std.specs.Prelude.{◌≡◌, cond, ℕ, zero, suc, ◌*◌, ◌/◌, ◌%◌, ◌<◌, eqb}
use Rattle.tallies.specs.declared.Fraction.{Fraction}

-- Euclid's greatest common divisor, in n steps at most; the second number falls at each
unfoldable pub divisor_in : ℕ → ℕ → ℕ → ℕ
divisor_in zero a b = a
divisor_in (suc n) a b = cond (eqb b 0) a (divisor_in n b (a % b))

abbrev pub common_divisor : ℕ → ℕ → ℕ
common_divisor a b = divisor_in (suc b) a b

unfoldable pub reduced : ℕ → ℕ → Fraction
reduced wrapped given =
    cond (eqb given 0) (record { over = 0; under = 1 })
    (record { over = wrapped / common_divisor wrapped given; under = given / common_divisor wrapped given })

-- What "reduced" means: the same ratio where some are given, with no common divisor but 1; 0 over 1 when none is given.
pub record Reduced (wrapped given : ℕ) (f : Fraction) : Type 0 where
  pub ratio : 0 < given → f.over * given ≡ wrapped * f.under
  pub lowest : (d x y : ℕ) → f.over ≡ d * x → f.under ≡ d * y → d ≡ 1
  pub nothing : given ≡ 0 → f ≡ record { over = 0; under = 1 }

abbrev pub AlwaysReduced : Type 0
AlwaysReduced = (wrapped given : ℕ) → Reduced wrapped given (reduced wrapped given)
