-- What is ahead of the first n bytes is set from here on.
use lib.ListN.{take}
use Rattle.writer.proofs.Stores.{Setting}
use Rattle.writer.proofs.output.set_front.Given as goal

abbrev pub invariant-loop-k : goal.invariant-loop-k
invariant-loop-k l = Setting l.initial.out l.pos (take l.n l.bytes) l.out l.k
