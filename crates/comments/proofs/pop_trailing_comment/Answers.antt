-- The definition by what waits at the front, and by the place that was found.
-- Assumes nothing.
use mathlib.Core.Path.{refl, sym, ◌∙◌}
use native.Mathlib.Omega.{arith}
use Rattle.comments.proofs.Fronts.{inside, good, is_none, is_some_lem}
use Rattle.comments.proofs.Pops.{no_place, no_comment, elsewhere, trailing_one}
use Rattle.comments.specs.Parsed.{given_by}
use Rattle.acts.proofs.Laws.{room_same, room_first, room_past, laid_same, laid_then, laid_skip}
use Rattle.acts.specs.Laid.{st}
use Rattle.comments.proofs.pop_trailing_comment.Goals as goal

pub returns-then-comment-place : goal.returns-then-comment-place
returns-then-comment-place c =
    record {
      laid =
          laid_same (sym (elsewhere (given_by c.args.parsed.now) (st c.args.state.now.cursor) _
          _ (sym c.next_something.ensures ∙ c.in-Some-next_something.is)
          (is_some_lem _ c.front.ensures c.in-Some.is) c.if-comment-place.true))
          laid_skip;
      same = refl;
    }

pub pop_front-requires : goal.pop_front-requires
pop_front-requires c =
    omega (arith, inside _ _ _ (is_some_lem _ c.front.ensures c.in-Some.is), c.args.parsed.now.listed.few)

pub push_comment-requires : goal.push_comment-requires
push_comment-requires c = record {
  start_le_end = omega (arith, (good c.args.parsed.now.listed _ _ (is_some_lem _ c.front.ensures c.in-Some.is)).order);
  room = room_first _ (room_past (room_same (trailing_one (given_by c.args.parsed.now)
      (st c.args.state.now.cursor) _ _ (sym c.next_something.ensures ∙ c.in-Some-next_something.is)
      (is_some_lem _ c.front.ensures c.in-Some.is) c.if-comment-place.false)
      c.requires)
      c.pop_front.ensures.laid);
}

pub returns-in_default : goal.returns-in_default
returns-in_default c =
    record {
      laid =
          laid_same (sym (no_comment (given_by c.args.parsed.now)
          (st c.args.state.now.cursor) (is_none _ c.front.ensures c.in_default.is)))
          laid_skip;
      same = refl;
    }

pub returns-in_default-next_something : goal.returns-in_default-next_something
returns-in_default-next_something c =
    record {
      laid =
          laid_same (sym (no_place (given_by c.args.parsed.now)
          (st c.args.state.now.cursor) (sym c.next_something.ensures ∙ c.in_default-next_something.is)))
          laid_skip;
      same = refl;
    }

pub returns : goal.returns
returns c =
    record {
      laid =
          laid_same (sym (trailing_one (given_by c.args.parsed.now) (st c.args.state.now.cursor) _ _
          (sym c.next_something.ensures ∙ c.in-Some-next_something.is)
          (is_some_lem _ c.front.ensures c.in-Some.is) c.if-comment-place.false))
          (laid_then c.pop_front.ensures.laid
          (laid_then c.push_comment.ensures.laid c.move_to.ensures.laid));
      same = cc (c.pop_front.ensures.same, c.push_comment.ensures.same, c.move_to.ensures.same);
    }
