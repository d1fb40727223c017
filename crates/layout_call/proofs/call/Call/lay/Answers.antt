use Rattle.acts.proofs.Laws.{room_first, room_past, laid_then}
use Rattle.layout_call.proofs.Standing.{has_part, part_laid}
use Rattle.layout_call.proofs.call.Call.lay.Goals as goal

pub begin-requires : goal.begin-requires
begin-requires c = room_first _ c.requires

pub declarations-requires : goal.declarations-requires
declarations-requires c =
    rw (c.declaration_at-p.ensures, c.declaration_at-q.ensures)
    (has_part c.args.self.now.file.accepts _ _ c.args.self.now.goes.ahead _ (room_first _ (room_past c.requires c.begin.ensures.laid)))

pub end-requires : goal.end-requires
end-requires c =
    let room = room_past c.requires c.begin.ensures.laid in
    room_past room
    (part_laid c.args.self.now.file.accepts _ _ c.args.self.now.goes.ahead _
    (rw (c.declaration_at-p.ensures, c.declaration_at-q.ensures) at c.declarations.ensures)
    (room_first _ room)).laid

pub returns : goal.returns
returns c =
    let part =
    part_laid c.args.self.now.file.accepts _ _ c.args.self.now.goes.ahead _
    (rw (c.declaration_at-p.ensures, c.declaration_at-q.ensures) at c.declarations.ensures)
    (room_first _ (room_past c.requires c.begin.ensures.laid))
    in
    record {
      laid = laid_then c.begin.ensures.laid (laid_then part.laid c.end.ensures.laid);
      same = cc (c.begin.ensures.same, part.same, c.end.ensures.same);
    }
