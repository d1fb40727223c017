-- The true run, or the dry run first.
-- Assumes nothing.
use Rattle.render_call.proofs.Opening.{listed_none}
use Rattle.render_call.proofs.Steps.{fits_most}
use Rattle.render_call.proofs.call.Call.render_accepted.Goals as goal

pub write_rows-requires : goal.write_rows-requires
write_rows-requires c = (
  fits_most _ _ _ _ _ _ c.requires.passing _ _ (listed_none c.args.listed.now c.args.self.now.state.listed_rows c.if-self-eq0.true)
      c.requires.needs.bytes c.if-needs-out.true,
  c.requires.needs.marks,
)
