use borrow.Author.Tests.{eq-eqb, ne_eqb}
use Rattle.acts.proofs.Laws.{room_first, room_past, laid_then}
use Rattle.layout_call.proofs.closing.close_document.Goals.{then-mode-eq-NEW_MODE, else-mode-eq-NEW_MODE}
use Rattle.layout_call.proofs.closing.close_document.Goals as goal

pub place_waiting-requires : goal.place_waiting-requires
place_waiting-requires c =
    room_first _ (rw (eq-eqb _ _ c.if-mode-eq-NEW_MODE.true) at c.requires)

pub push-requires-clause-room : goal.push-requires-clause-room
push-requires-clause-room c =
    elim c.if-mode-eq-NEW_MODE.branch [
      | then-mode-eq-NEW_MODE w ↦
          rw w.layout-is (room_past (rw (eq-eqb _ _ w.if-mode-eq-NEW_MODE.true) at c.requires) w.place_waiting.ensures.laid)
      | else-mode-eq-NEW_MODE w ↦ rw w.layout-is (rw (ne_eqb _ _ w.if-mode-eq-NEW_MODE.false) at c.requires)
    ]

pub returns : goal.returns
returns c =
    elim c.if-mode-eq-NEW_MODE.branch [
      | then-mode-eq-NEW_MODE w ↦
          let p = rw w.layout-is at c.push.ensures in
          rw (eq-eqb _ _ w.if-mode-eq-NEW_MODE.true)
          (record { laid = laid_then w.place_waiting.ensures.laid p.laid; same = cc (p.same, w.place_waiting.ensures.same) })
      | else-mode-eq-NEW_MODE w ↦ rw (ne_eqb _ _ w.if-mode-eq-NEW_MODE.false) (rw w.layout-is at c.push.ensures)
    ]
