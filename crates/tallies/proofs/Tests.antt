-- What 14 tests, as facts on numbers.
-- Assumes nothing.
use mathlib.Core.Path.{◌≡◌}
use mathlib.Core.Bool.{false}
use Prim.Native.Nat.{◌≤◌, ◌<◌}
use borrow.Author.Tests.{le-ltb, lt-leb}
use Rattle.refusals.specs.Refusals.{any}
use Rattle.tallies.specs.declared.Tallies.{Tallies}
use Rattle.tallies.specs.Tallies.{MAX_FILES, MAX_TALLY, Within, tally_tests}

-- tallies that 14 lets pass
pub record Passing (t : Tallies) : Type 0 where
  pub files : t.files < MAX_FILES
  pub sums : Within t.all
  pub column : t.all.column ≤ MAX_TALLY
  pub wrapped : t.all.wrapped ≤ t.all.given

pub passes : (t : Tallies) → Passing t → any (tally_tests t) ≡ false
passes t h =
    rw (
      lt-leb _ _ h.files,
      le-ltb _ _ h.sums.bytes,
      le-ltb _ _ h.sums.newlines,
      le-ltb _ _ h.column,
      le-ltb _ _ h.sums.given,
      le-ltb _ _ h.sums.wrapped,
      le-ltb _ _ h.sums.placed,
      le-ltb _ _ h.sums.left,
      le-ltb _ _ h.wrapped,
    )
