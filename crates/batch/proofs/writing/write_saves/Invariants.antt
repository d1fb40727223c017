-- Writing what is left from here on gives the whole table and all texts.
use mathlib.Core.Path.{◌≡◌}
use Rattle.file.specs.Whole.{to_choice}
use Rattle.batch.proofs.Texts.{Putting}
use Rattle.batch.proofs.writing.write_saves.Given as goal

abbrev pub invariant-loop-frame : goal.invariant-loop-frame
invariant-loop-frame l = record {
  buffer : l.frame-iterator.frames.now ≡ l.frames;
  putting : Putting (to_choice l.choice) l.frames l.initial.table l.initial.out l.table l.out l.frame-iterator.at l.cell l.text;
}
