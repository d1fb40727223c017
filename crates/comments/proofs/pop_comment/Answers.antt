-- The steps in their order.
-- Assumes nothing.
use native.Mathlib.Omega.{arith}
use Rattle.comments.proofs.Fronts.{inside, good}
use Rattle.comments.proofs.Pops.{laid_comment, room_gap, room_remark}
use Rattle.tree.specs.CommentList.{span}
use Rattle.comments.specs.Parsed.{given_by}
use Rattle.comments.proofs.pop_comment.Goals as goal

pub pop_front-requires : goal.pop_front-requires
pop_front-requires c = omega (arith, inside _ _ _ c.requires.placed_value, c.args.parsed.now.listed.few)

pub before_comment-requires : goal.before_comment-requires
before_comment-requires c =
    room_gap (given_by c.args.parsed.now) c.args.leading (span c.args.comment.start c.args.comment.end) c.pop_front.ensures.laid c.requires.room

pub overflow_sub-comment : goal.overflow_sub-comment
overflow_sub-comment c = omega (arith, (good c.args.parsed.now.listed _ _ c.requires.placed_value).order)

pub push_comment-requires : goal.push_comment-requires
push_comment-requires c =
    record {
      start_le_end = omega (arith, (good c.args.parsed.now.listed _ _ c.requires.placed_value).order);
      room =
          room_remark (given_by c.args.parsed.now) c.args.leading (span c.args.comment.start c.args.comment.end)
          c.pop_front.ensures.laid c.before_comment.ensures.laid c.move_to.ensures.laid c.requires.room;
    }

pub returns : goal.returns
returns c =
    record {
      laid =
          laid_comment (given_by c.args.parsed.now) c.args.leading (span c.args.comment.start c.args.comment.end)
          c.pop_front.ensures.laid c.before_comment.ensures.laid c.move_to.ensures.laid c.push_comment.ensures.laid;
      same = cc (c.pop_front.ensures.same, c.before_comment.ensures.same, c.move_to.ensures.same, c.push_comment.ensures.same);
    }
