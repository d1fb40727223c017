use mathlib.Core.Path.{◌≡◌}
use lib.ListN.{drop}
use Rattle.std.proofs.lemmas.List.Edits.{sets}
use Prim.Native.Nat.{◌+◌}
use Rattle.acts.proofs.store.put_cells.Given as goal

-- to write what is left is to write all
abbrev pub invariant-loop-k : goal.invariant-loop-k
invariant-loop-k l = sets l.store (l.i + l.k) (drop l.k l.cells) ≡ sets l.initial.store l.i l.cells
