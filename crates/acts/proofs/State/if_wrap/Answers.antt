use Rattle.acts.proofs.Nested.{room_if_wrap, room_if_wrap_first, room_if_wrap_second}
use Rattle.acts.proofs.Closes.{closes_if_wrap}
use Rattle.acts.proofs.State.if_wrap.Goals as goal

pub push_row-requires : goal.push_row-requires
push_row-requires c = room_if_wrap c.args.number _ _ c.requires

pub word-requires : goal.word-requires
word-requires c = room_if_wrap_first c.args.number _ _ c.requires c.push_row.ensures.written

pub word-requires-2 : goal.word-requires-2
word-requires-2 c =
    room_if_wrap_second c.args.number _ _ c.requires c.push_row.ensures.written c.word.ensures.laid

pub returns : goal.returns
returns c = closes_if_wrap c.push_row.ensures c.word.ensures c.word-2.ensures c.set_second.ensures c.close.ensures
