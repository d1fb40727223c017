-- Texts and widths of a store whose numbers have 32 bits are small, whatever rule they are measured by.
-- Assumes nothing.
use Prim.Native.Nat.{ℕ, ◌+◌, ◌*◌, ◌<◌}
use native.Mathlib.Omega.{arith}
use mathlib.Core.Bool.{Bool, true, false, cond}
use mathlib.Core.List.{List}
use lib.Dec.{eqb}
use Rattle.rows.specs.Limits.{CELL_LIMIT}
use Rattle.rows.specs.Kinds.{STR}
use Rattle.rows.specs.Node.{Text}
use Rattle.rows.specs.Places.{KIND, WIDTH, PLACES}
use Rattle.rows.specs.View.{view_of, cell}
use Rattle.widths.proofs.ByRule.{by_fits}
use Rattle.renderer_rules.specs.Page.{text_bytes}
use Rattle.renderer_rules.specs.Safe.{SmallTexts}
use Rattle.renderer_rules.proofs.Most.{text_size}
use Rattle.node_widths.specs.Summed.{str_columns}
use Rattle.node_widths.specs.Measured.{ascii_columns, rule_page}
use Rattle.stop_facts.specs.HandedOn.{AreCells}

measured : (rule : ℕ) (s b : List ℕ) (t : Text) → t.size < CELL_LIMIT → ascii_columns rule s b t < CELL_LIMIT
unfolding ascii_columns str_columns
measured rule s b t h =
    omega (arith, by_fits rule t.size (text_bytes s b t) 4294967295 (omega arith) (omega (arith, text_size s b t)))

only_str : (c : Bool) (n : ℕ) → n < CELL_LIMIT → cond c n 0 < CELL_LIMIT
only_str true n h = h
only_str false n h = omega arith

pub small : (max rule : ℕ) (s b store : List ℕ) → AreCells store → SmallTexts (view_of store) (rule_page max rule s b)
unfolding view_of
small max rule s b store h =
    record {
      bytes =
          λ i.
          omega (
            arith,
            text_size s b (record { origin = cell store i 5; start = cell store i 6; size = cell store i 7 }),
            h (i * PLACES + 7),
          );
      columns = λ i. measured rule s b (record { origin = cell store i 5; start = cell store i 6; size = cell store i 7 }) (h (i * PLACES + 7));
      width = λ i. only_str (eqb (cell store i KIND) STR) (cell store i WIDTH) (h (i * PLACES + WIDTH));
    }
