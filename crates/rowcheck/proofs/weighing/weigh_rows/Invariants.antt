use mathlib.Core.List.{reverse}
use Rattle.rows.specs.View.{view_of}
use Rattle.renderer_rules.specs.Check.{places_fit, wrong_row_of}
use Rattle.rowcheck.proofs.Pending.{Checking, check_left}
use Rattle.rowcheck.proofs.Ahead.{Weighing, ends_of}
use Rattle.rowcheck.proofs.weighing.weigh_rows.Given as goal

abbrev pub invariant-loop-row : goal.invariant-loop-row
invariant-loop-row l =
    let s = l.rows.store.now in
    let places = places_fit l.rows.source.now l.rows.image.now s in
    let outer = reverse l.outer.items in
    Checking places s l.stop (wrong_row_of places (view_of s) l.stop 0 l.from) (ends_of outer) l.part.end l.row
    × Weighing s l.from l.stop l.margin l.needs outer l.part l.row

abbrev pub decreases-loop-row : goal.decreases-loop-row
decreases-loop-row l = check_left l.stop l.row (ends_of (reverse l.outer.items))
