use Rattle.layout_call.proofs.Ends.{fits_unless, goes, ends_unfit, ends_short, counted_called}
use Rattle.layout_call.proofs.layout_accepted.Goals as goal

pub returns-then-not-call_fits : goal.returns-then-not-call_fits
returns-then-not-call_fits c =
    rw c.at.ensures
    (ends_unfit _ _ c.args.state c.args.args c.args.store.now c.requires.rule c.requires.read _ c.call_fits.ensures c.if-not-call_fits.true)

pub invariant_of-call : goal.invariant_of-call
invariant_of-call c =
    let fits =
    fits_unless _ _ c.args.state c.args.args c.args.store.now c.requires.rule c.requires.read _ c.call_fits.ensures c.if-not-call_fits.false
    in
    record { goes = goes _ _ c.args.state c.args.args c.args.store.now c.args.file.accepts fits }

pub returns-in-Some : goal.returns-in-Some
returns-in-Some c =
    let fits =
    fits_unless _ _ c.args.state c.args.args c.args.store.now c.requires.rule c.requires.read _ c.call_fits.ensures c.if-not-call_fits.false
    in
    rw c.at-in-Some.ensures
    (ends_short _ _ c.args.state c.args.args c.args.store.now c.args.file.accepts fits _ c.in-Some.ensures)

pub laid-requires : goal.laid-requires
laid-requires c =
    fits_unless _ _ c.args.state c.args.args c.args.store.now c.requires.rule c.requires.read _ c.call_fits.ensures c.if-not-call_fits.false

pub returns : goal.returns
returns c =
    let fits =
    fits_unless _ _ c.args.state c.args.args c.args.store.now c.requires.rule c.requires.read _ c.call_fits.ensures c.if-not-call_fits.false
    in
    counted_called _ _ c.args.state c.args.args c.args.store.now c.args.file.accepts fits c.in_default.ensures _ _ c.laid.ensures
