-- Of a whole file, no more is counted than is kept.
-- Assumes nothing.
use Rattle.report.proofs.Turns.{whole_turn}
use Rattle.report.proofs.progress.take_next.Goals as goal

pub returns-in-Ok-Some : goal.returns-in-Ok-Some
returns-in-Ok-Some c =
    let next = c.args in
    whole_turn next.lengths.now next.source.now next.image.now next.p next.came _ _ c.in-Ok-Some.is
    (rw c.in-Ok-Some.is at c.in-Ok-Some.field-0-is) c.source_kept-s.ensures
    c.image_kept-i.ensures
    c.count_next.ensures
