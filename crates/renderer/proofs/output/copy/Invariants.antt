-- What is ahead of the part that has room is written from here on.
use lib.ListN.{length, take}
use Rattle.renderer.proofs.Written.{Copied}
use Rattle.renderer.proofs.output.copy.Given as goal

abbrev pub invariant-loop-k : goal.invariant-loop-k
invariant-loop-k l = Copied (length l.initial.out) l.initial.out l.at (take l.room l.text) l.out l.k
