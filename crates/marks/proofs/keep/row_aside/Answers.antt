use Rattle.marks.proofs.Aside.{aside_two, aside_one, aside_none}
use Rattle.marks.proofs.keep.row_aside.Goals as goal

pub returns-in-Two : goal.returns-in-Two
returns-in-Two c =
    aside_two c.args.in_use c.args.store.now c.args.marks.now c.args.row _ _ _ _ _ _ _ _ c.in-Two.ensures
    c.take_mark-one.ensures.0 c.take_mark-one.ensures.1 c.take_mark-two.ensures.0 c.take_mark-two.ensures.1
    c.from_le_bytes.ensures

pub returns-in-One : goal.returns-in-One
returns-in-One c =
    aside_one c.args.in_use c.args.store.now c.args.marks.now c.args.row _ _ _ _ _ c.in-One.ensures
    c.take_mark.ensures.0 c.take_mark.ensures.1 c.from.ensures

pub returns-in-None : goal.returns-in-None
returns-in-None c = aside_none c.args.in_use _ c.args.row _ c.in-None.ensures
