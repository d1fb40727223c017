-- The levels left fall at each record, and three functions take turns within a level, so that the measure is three times the levels and a
-- place among the three. The loop over the children keeps that the whole reading ends as the reading from here on does.
-- Assumes nothing.
use Prim.Native.Nat.{◌+◌, ◌-◌, ◌*◌}
use Rattle.image.specs.Open.{children_due}
use Rattle.image.specs.Read.{width_bytes, child_at}
use Rattle.image.specs.Places.{row_number}
use Rattle.image.proofs.Reading.{Here, Going}
use Rattle.image.proofs.reader.Reader.+reading.Given as goal

abbrev pub decreases-read_child : goal.decreases-read_child
decreases-read_child l = 3 * l.self.now.left + 1

abbrev pub decreases-read_children : goal.decreases-read_children
decreases-read_children l = 3 * l.self.now.left + 2

abbrev pub decreases-read_record : goal.decreases-read_record
decreases-read_record l = 3 * l.self.now.left

abbrev pub invariant-read_children-loop-here : goal.invariant-read_children-loop-here
invariant-read_children-loop-here l =
    Here l.self l.here
    × Going (child_at l.self.source.now l.self.image.now (width_bytes l.self.image.now) l.self.left)
    (children_due l.self (row_number l.places)) (row_number l.row)
    l.here.at l.self.end

abbrev pub decreases-read_children-loop-here : goal.decreases-read_children-loop-here
decreases-read_children-loop-here l = l.here.end - l.here.at
