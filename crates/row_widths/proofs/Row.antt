-- One row of each pass, by what the code tests.
-- Assumes nothing.
use mathlib.Core.Path.{◌≡◌}
use Prim.Native.Nat.{ℕ, ◌+◌, ◌*◌}
use mathlib.Core.Bool.{true, false, ◌&&◌}
use mathlib.Core.List.{List}
use lib.ListN.{set}
use lib.Dec.{eqb}
use Rattle.rows.specs.Kinds.{STR, ASCII}
use Rattle.rows.specs.Places.{KIND, NUMBER, WIDTH, PLACES}
use Rattle.rows.specs.Node.{Text}
use Rattle.rows.specs.View.{cell}
use Rattle.renderer_rules.specs.Page.{row_text}
use Rattle.row_widths.specs.Passes.{TURNED, any_width, row_summed, row_turned, row_back}

module _ (f : Text → ℕ) (s : List ℕ) (i : ℕ) where
  pub summed_str : (w : ℕ) → eqb (cell s i KIND) STR ≡ true → w ≡ f (row_text s i) → set s (i * PLACES + WIDTH) w ≡ row_summed (any_width f) s i
  unfolding row_summed
  summed_str w e q = rw (e, q)

  pub summed_other : eqb (cell s i KIND) STR ≡ false → s ≡ row_summed (any_width f) s i
  unfolding row_summed
  summed_other e = rw e

  pub turned_ascii : (k w : ℕ) → eqb (cell s i KIND) ASCII ≡ true → k ≡ STR → w ≡ f (row_text s i)
      → set (set (set s (i * PLACES + KIND) k) (i * PLACES + NUMBER) TURNED) (i * PLACES + WIDTH) w ≡ row_turned f s i
  unfolding row_turned
  turned_ascii k w e h q = rw (e, h, q)

  pub turned_other : eqb (cell s i KIND) ASCII ≡ false → s ≡ row_turned f s i
  unfolding row_turned
  turned_other e = rw e

module _ (s : List ℕ) (i : ℕ) where
  pub back_turned : (k : ℕ) → (eqb (cell s i KIND) STR && eqb (cell s i NUMBER) TURNED) ≡ true → k ≡ ASCII
      → set (set (set s (i * PLACES + KIND) k) (i * PLACES + NUMBER) 0) (i * PLACES + WIDTH) 0 ≡ row_back s i
  unfolding row_back
  back_turned k e h = rw (e, h)

  pub back_other : (eqb (cell s i KIND) STR && eqb (cell s i NUMBER) TURNED) ≡ false → s ≡ row_back s i
  unfolding row_back
  back_other e = rw e
