-- The loop's invariant, `Adding`: the text's width is what was added so far and what is found by going on from `at`.
use Prim.Native.Nat.{◌-◌}
use lib.ListN.{length}
use Rattle.widths.specs.Widths.{table_width}
use Rattle.widths.proofs.Adding.{Adding}
use Rattle.widths.proofs.sums.text_columns.Given as goal

abbrev pub invariant-loop-c : goal.invariant-loop-c
invariant-loop-c l = Adding (table_width l.table) l.text l.at l.sum

abbrev pub decreases-loop-c : goal.decreases-loop-c
decreases-loop-c l = length l.text - l.at
