use mathlib.Core.Path.{sym, ◌∙◌}
use Rattle.rowcheck.proofs.Pending.{stop_far, stop_past, stop_fits}
use Rattle.rowcheck.proofs.weigh_to.Goals.{then-stop-gt-MAX_ROWS-via-then-stop-gt-MAX_ROWS, then-stop-gt-MAX_ROWS-via-else-stop-gt-MAX_ROWS+then-rows-stop}
use Rattle.rowcheck.proofs.weigh_to.Goals as goal

pub returns-then-stop-gt-MAX_ROWS : goal.returns-then-stop-gt-MAX_ROWS
returns-then-stop-gt-MAX_ROWS c =
    record {
      row = sym (elim c.then-stop-gt-MAX_ROWS.branch [
        | then-stop-gt-MAX_ROWS-via-then-stop-gt-MAX_ROWS w ↦ stop_far _ _ _ _ _ w.if-stop-gt-MAX_ROWS.true
        | then-stop-gt-MAX_ROWS-via-else-stop-gt-MAX_ROWS+then-rows-stop w ↦ stop_past _ _ _ _ _ w.if-stop-gt-MAX_ROWS.false w.if-rows-stop.true
      ]);
      needs = λ n e. absurd (cc);
    }

pub returns : goal.returns
returns c =
    let w = c.weigh_rows.ensures in
    record { row = w.row ∙ sym (stop_fits _ _ _ _ _ c.if-stop-gt-MAX_ROWS.false c.if-rows-stop.false); needs = w.needs }
