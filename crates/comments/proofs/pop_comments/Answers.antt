use mathlib.Core.Path.{◌∙◌}
use native.Mathlib.Omega.{arith}
use Rattle.comments.proofs.Fronts.{count_of, inside, is_none, is_some_lem}
use Rattle.comments.proofs.Pops.{going_room, one_more, go_on, end_none, end_late}
use Rattle.comments.specs.Parsed.{given_by}
use Rattle.comments.proofs.pop_comments.Goals as goal

pub returns : goal.returns
returns c =
    record {
      laid = end_none (given_by c.args.parsed.now) (is_none _ c.front.ensures c.in_default.is) c.loop-comment.invariant.1;
      same = c.loop-comment.invariant.0;
    }

pub returns-then-position-comment : goal.returns-then-position-comment
returns-then-position-comment c =
    record {
      laid =
          end_late (given_by c.args.parsed.now) _ (is_some_lem _ c.front.ensures c.in-Some.is) c.if-position-comment.true
          c.loop-comment.invariant.1;
      same = c.loop-comment.invariant.0;
    }

pub pop_comment-requires : goal.pop_comment-requires
pop_comment-requires c =
    let some = is_some_lem _ c.front.ensures c.in-Some.is in
    record {
      placed_value = some;
      room =
          going_room (given_by c.args.parsed.now) _ some c.if-position-comment.false
          (omega (arith, count_of c.args.parsed.now.image.now, inside _ _ _ some)) c.loop-comment.invariant.1;
    }

pub loop-comment-smaller : goal.loop-comment-smaller
loop-comment-smaller c =
    omega (
      arith,
      inside _ _ _ (is_some_lem _ c.front.ensures c.in-Some.is),
      one_more (given_by c.args.parsed.now) c.loop-comment.keep _ c.pop_comment.ensures.laid,
    )

pub loop-comment-preserved : goal.loop-comment-preserved
loop-comment-preserved c =
    let some = is_some_lem _ c.front.ensures c.in-Some.is in (
      c.pop_comment.ensures.same ∙ c.loop-comment.invariant.0,
      go_on (given_by c.args.parsed.now) _ some c.if-position-comment.false
          (omega (arith, count_of c.args.parsed.now.image.now, inside _ _ _ some)) c.pop_comment.ensures.laid c.loop-comment.invariant.1,
    )
