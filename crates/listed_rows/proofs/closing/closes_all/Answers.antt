use Rattle.listed_rows.proofs.Shut.{shut_start, not_shut, shut_on}
use Rattle.listed_rows.proofs.closing.closes_all.Goals as goal

pub loop-place-init : goal.loop-place-init
loop-place-init c = shut_start _ _ _

pub returns-then-not-close : goal.returns-then-not-close
returns-then-not-close c =
    not_shut c.args.store.now c.args.listed.now c.args.pen _ c.loop-place.place c.loop-place-test.true c.loop-place.auto.place c.loop-place.invariant _
    c.listed_row.ensures _ c.row_kind-kind.ensures _ _ c.close.ensures c.if-not-close.true

pub loop-place-preserved : goal.loop-place-preserved
loop-place-preserved c =
    shut_on c.args.store.now c.args.listed.now c.args.pen _ c.loop-place.place c.loop-place-test.true c.loop-place.auto.place c.loop-place.invariant _
    c.listed_row.ensures _ c.row_kind-kind.ensures _ _ c.close.ensures c.if-not-close.false
