-- All of it where it fits, else as much as fits.
use mathlib.Core.Path.{sym, ap, ◌∙◌}
use Prim.Native.Nat.{◌-◌}
use native.Mathlib.Omega.{arith}
use lib.ListN.{length}
use lib.Seq.{sets, take_all}
use Rattle.writer.proofs.Stores.{sets_out, sets_room}
use Rattle.writer.proofs.output.set_all.Goals as goal

pub returns-then-out-pos : goal.returns-then-out-pos
returns-then-out-pos c = sym (sets_out c.args.bytes.now c.args.out.now c.args.pos c.if-out-pos.true)

pub returns-then-bytes-room : goal.returns-then-bytes-room
returns-then-bytes-room c =
    c.set_front.ensures ∙ ap (sets c.args.out.now c.args.pos) (take_all (length c.args.bytes.now) c.args.bytes.now (omega arith))

pub returns-else-bytes-room : goal.returns-else-bytes-room
returns-else-bytes-room c =
    let n = length c.args.out.now - c.args.pos in
    c.set_part.ensures
    ∙ sets_room c.args.bytes.now c.args.out.now c.args.pos n (omega (arith, c.if-out-pos.false)) (omega (arith, c.if-bytes-room.false))
