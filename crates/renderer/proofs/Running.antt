-- Texts and widths of a store whose numbers have 32 bits are small.
-- Assumes nothing.
use Prim.Native.Nat.{ℕ, ◌+◌, ◌*◌, ◌<◌}
use native.Mathlib.Omega.{arith}
use mathlib.Core.Bool.{Bool, true, false, cond}
use mathlib.Core.List.{List}
use lib.ListN.{get_or}
use lib.Dec.{eqb}
use Rattle.rows.specs.Limits.{CELL_LIMIT}
use Rattle.rows.specs.Kinds.{STR}
use Rattle.rows.specs.Places.{KIND, ORIGIN, START, SIZE, WIDTH, PLACES}
use Rattle.rows.specs.View.{view_of, cell}
use Rattle.renderer_rules.specs.Page.{page_of}
use Rattle.renderer_rules.specs.Safe.{SmallTexts}
use Rattle.renderer.proofs.Written.{text_fits}

-- numbers of 32 bits
pub small_cells : (max : ℕ) (source image store : List ℕ) → ((k : ℕ) → get_or store k 0 < CELL_LIMIT)
    → SmallTexts (view_of store) (page_of max source image)
unfolding view_of
small_cells max source image store h =
    record {
      bytes = λ i. let t = text_fits source image (cell store i ORIGIN) (cell store i START) (cell store i SIZE) in let s = h (i * PLACES + 7) in omega arith;
      columns = λ i. h (i * PLACES + 7);
      width = λ i. only_str (eqb (cell store i KIND) STR) (cell store i WIDTH) (h (i * PLACES + WIDTH));
    }
  where
    only_str : (b : Bool) (n : ℕ) → n < CELL_LIMIT → cond b n 0 < CELL_LIMIT
    only_str true n h = h
    only_str false n h = omega arith
