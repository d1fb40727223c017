use Rattle.layout_call.proofs.Standing.{room}
use Rattle.layout_call.proofs.call.Call.lay_all.Goals as goal

pub lay-requires : goal.lay-requires
lay-requires c = rw c.cursor-cursor.ensures (room c.args.self.now.file.accepts c.args.self.now.goes)
