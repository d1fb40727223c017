use Rattle.layout_call.proofs.Ends.{fits_told}
use Rattle.layout_call.proofs.call_fits.Goals as goal

pub returns : goal.returns
returns c = fits_told _ _ c.args.state c.args.args c.args.store.now c.args.file.accepts _ _ c.count_declarations.ensures c.state_fits.ensures
