-- What a state may be within, as numbers one by one.
use Rattle.std.specs.Prelude.{ℕ}
use Rattle.layout_call.specs.declared.fits.Within.{Within}

abbrev pub within_tests : {A : Type 0} → (ℕ → ℕ → ℕ → ℕ → A) → Within → A
within_tests f w = f w.declarations w.comments w.size w.rows
