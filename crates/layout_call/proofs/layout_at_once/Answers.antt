use Rattle.layout_call.proofs.Ends.{fits_unless, goes, at_once_unfit}
use Rattle.layout_call.proofs.layout_at_once.Goals as goal

pub returns-then-not-call_fits : goal.returns-then-not-call_fits
returns-then-not-call_fits c =
    rw c.at.ensures
    (at_once_unfit _ _ c.args.state c.args.args c.args.store.now c.requires.rule c.requires.read _ c.call_fits.ensures c.if-not-call_fits.true)

pub invariant_of-call : goal.invariant_of-call
invariant_of-call c =
    let fits =
    fits_unless _ _ c.args.state c.args.args c.args.store.now c.requires.rule c.requires.read _ c.call_fits.ensures c.if-not-call_fits.false
    in
    record { goes = goes _ _ c.args.state c.args.args c.args.store.now c.args.file.accepts fits }

pub laid-requires : goal.laid-requires
laid-requires c =
    fits_unless _ _ c.args.state c.args.args c.args.store.now c.requires.rule c.requires.read _ c.call_fits.ensures c.if-not-call_fits.false
