use native.Mathlib.Omega.{arith}
use Rattle.renderer.proofs.Writes.{empty_writes, room_push, then_over, room_over}
use Rattle.renderer.proofs.writing.Writing.empty_line.Goals as goal

pub new_line-requires : goal.new_line-requires
new_line-requires c = room_over c.push.ensures (room_push _ _ _ _ _ _ c.requires c.push.ensures (omega arith))

pub returns : goal.returns
returns c = empty_writes _ _ _ _ _ _ _ c.push.ensures (then_over c.push.ensures c.new_line.ensures)
