-- The levels left fall at each record, and three functions take turns within a level, so that the measure is three times the levels and a
-- place among the three. The loop over the children keeps that the whole run ends as the run from here on does.
-- Assumes nothing.
use mathlib.Core.Path.{◌≡◌}
use Prim.Native.Nat.{◌+◌, ◌-◌, ◌*◌}
use lib.ListN.{length}
use Rattle.image.specs.Places.{row_number}
use Rattle.steps.specs.Writer.{record_from}
use Rattle.writer.specs.Put.{Same, children_put}
use Rattle.writer.proofs.Loops.{Going}
use Rattle.writer.proofs.step.Step.+putting.Given as goal

abbrev pub decreases-put_child : goal.decreases-put_child
decreases-put_child l = 3 * l.left + 1

abbrev pub decreases-put_children : goal.decreases-put_children
decreases-put_children l = 3 * l.left + 2

abbrev pub decreases-put_record : goal.decreases-put_record
decreases-put_record l = 3 * l.left

abbrev pub invariant-put_children-loop-here : goal.invariant-put_children-loop-here
invariant-put_children-loop-here l = record {
  list : l.here.steps.now ≡ l.self.steps.now;
  going : Going (record_from l.self.steps.now l.left) l.self.steps.now (children_put l.fn.out l.self l.left (row_number l.places)) (row_number l.row)
      l.here.at l.out.pos l.out.bytes.now;
  same : Same l.fn.out l.out;
}

abbrev pub decreases-put_children-loop-here : goal.decreases-put_children-loop-here
decreases-put_children-loop-here l = length l.here.steps.now - l.here.at
