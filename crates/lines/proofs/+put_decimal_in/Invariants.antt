-- One digit fewer each time.
-- Assumes nothing.
use Prim.Native.Nat.{ℕ}
use Rattle.lines.proofs.+put_decimal_in.Given as goal

abbrev pub decreases-put_decimal_in : goal.decreases-put_decimal_in
decreases-put_decimal_in g l = l.most
