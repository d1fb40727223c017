use Rattle.comments.proofs.Pops.{room_newlines, laid_newlines}
use Rattle.comments.specs.Parsed.{given_by}
use Rattle.comments.proofs.newlines.Goals as goal

pub break_line-requires : goal.break_line-requires
break_line-requires c = rw c.newlines_up_to-n.ensures (room_newlines (given_by c.args.parsed.now) c.args.position c.requires)

pub returns : goal.returns
returns c =
    record {
      laid =
          laid_newlines (given_by c.args.parsed.now) c.args.position _ c.newlines_up_to-n.ensures c.break_line.ensures.laid
          c.move_to.ensures.laid;
      same = cc (c.break_line.ensures.same, c.move_to.ensures.same);
    }
