-- With the bytes so far, the texts from here on are all.
use mathlib.Core.Path.{◌≡◌}
use Rattle.file.specs.Whole.{to_choice}
use Rattle.batch.proofs.Texts.{Adding}
use Rattle.batch.proofs.counting.count_texts.Given as goal

abbrev pub invariant-loop-frame : goal.invariant-loop-frame
invariant-loop-frame l = record {
  buffer : l.frame-iterator.frames.now ≡ l.frames;
  adding : Adding (to_choice l.choice) l.frames l.frame-iterator.at l.bytes;
}
