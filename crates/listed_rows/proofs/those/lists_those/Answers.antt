use mathlib.Core.Path.{sym, ◌∙◌}
use native.Mathlib.Omega.{arith}
use Prim.Native.Nat.{◌<◌}
use Rattle.rows.specs.Places.{AFTER}
use Rattle.rows.specs.View.{view_of, cell}
use Rattle.listed_rows.proofs.Seeing.{passed, none_left, another, found_more, all_seen}
use Rattle.listed_rows.proofs.those.lists_those.Goals as goal
use Rattle.listed_rows.proofs.those.lists_those.Goals.{then-found-listed-via-then-found-listed, then-found-listed-via-else-found-listed+then-listed_row-row}
use Rattle.listed_rows.proofs.those.lists_those.Goals.{then-next-place+else-found-listed+else-listed_row-row, else-next-place}

pub returns-then-found-listed : goal.returns-then-found-listed
unfolding view_of
returns-then-found-listed c =
    let s = c.loop-row.invariant in
    let h = c.loop-row-test.true in
    let a : c.args.next < cell c.args.store.now c.loop-row.row AFTER = omega (arith, c.if-next-place.true, c.place.ensures.0) in
    elim c.then-found-listed.branch [
      | then-found-listed-via-then-found-listed w ↦ sym (none_left _ _ _ _ _ _ s h a w.if-found-listed.true)
      | then-found-listed-via-else-found-listed+then-listed_row-row w ↦
          sym
          (another _ _ _ _ _ _ s h a (let l = s.low in omega (arith, w.if-found-listed.false))
          (λ e. w.if-listed_row-row.true (w.listed_row.ensures ∙ e)))
    ]

pub loop-row-preserved : goal.loop-row-preserved
unfolding view_of
loop-row-preserved c =
    let s = c.loop-row.invariant in
    let h = c.loop-row-test.true in
    elim c.if-next-place.branch [
      | then-next-place+else-found-listed+else-listed_row-row w ↦
          rw w.found-is
          (found_more _ _ _ _ _ _ s h (omega (arith, w.if-next-place.true, c.place.ensures.0))
          (let l = s.low in omega (arith, w.if-found-listed.false))
          (sym w.listed_row.ensures ∙ w.if-listed_row-row.false))
      | else-next-place w ↦ rw w.found-is (passed _ _ _ _ _ _ s h (omega (arith, w.if-next-place.false, c.place.ensures.0)))
    ]

pub returns : goal.returns
returns c = sym (all_seen _ _ _ _ _ _ c.loop-row.invariant c.loop-row-test.false)
