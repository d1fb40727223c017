-- Going on from here, with the frames passed, gives the whole answer.
use mathlib.Core.Path.{◌≡◌}
use Rattle.batch.proofs.Buffer.{Passed}
use Rattle.batch.proofs.frames.count_frames.Given as goal

abbrev pub invariant-loop-frame : goal.invariant-loop-frame
invariant-loop-frame l = record {
  buffer : l.frame-iterator.frames.now ≡ l.frames;
  here : l.frame-iterator.at ≡ l.at;
  passed : Passed l.frames l.at l.files;
}
