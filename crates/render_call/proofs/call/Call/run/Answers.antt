use mathlib.Core.Path.{refl}
use native.Mathlib.Omega.{arith}
use Rattle.render_call.proofs.Held.{few, all_in, made_of}
use Rattle.render_call.proofs.call.Call.run.Goals as goal

pub shared_ref_as_front-rows : goal.shared_ref_as_front-rows
shared_ref_as_front-rows c = few _ _ c.args.self.now.state c.args.self.now.args c.args.store.now c.args.listed.now (omega arith) c.requires

pub open_rows-requires-clause-within : goal.open_rows-requires-clause-within
open_rows-requires-clause-within c = all_in _ _ c.args.self.now.state c.args.self.now.args c.args.store.now c.args.listed.now (omega arith) c.requires

pub go_on-entered-requires-clause-made : goal.go_on-entered-requires-clause-made
go_on-entered-requires-clause-made c =
    made_of _ _ c.args.self.now.state c.args.self.now.args c.args.store.now c.args.listed.now (omega arith) c.requires _ c.open_rows.ensures.0
    c.open_rows.ensures.1 refl c.start_text.ensures.pen c.start_text.ensures.at c.start_text.ensures.widest refl
