-- The loop, and then newlines that are counted or not.
-- Assumes nothing.
use mathlib.Core.Path.{sym, ◌∙◌}
use Rattle.comments.proofs.Pops.{room_comments, room_counted, laid_counted, laid_uncounted, both, not_first, first_holds, second_holds, none_holds}
use Rattle.comments.specs.Parsed.{given_by}
use Rattle.comments.proofs.place_comments.Goals.{then-waiting, else-waiting}
use Rattle.comments.proofs.place_comments.Goals.{then-commented-via-then-commented, then-commented-via-else-commented+then-kept}
use Rattle.comments.proofs.place_comments.Goals as goal

pub pop_comments-requires : goal.pop_comments-requires
pop_comments-requires c =
    let k = c.args.kept.now in
    room_comments (given_by c.args.parsed.now) c.args.position k.leading k.trailing k.only c.requires

pub newlines-newlines-requires : goal.newlines-newlines-requires
newlines-newlines-requires c =
    let k = c.args.kept.now in
    room_counted (given_by c.args.parsed.now) c.args.position k.leading k.trailing k.only
    (elim c.if-waiting.branch [
      | then-waiting w ↦ both (sym c.is_waiting-waiting.ensures ∙ w.if-waiting.true) w.commented-is
      | else-waiting w ↦ not_first k.trailing (sym c.is_waiting-waiting.ensures ∙ w.if-waiting.false) (w.commented-is ∙ w.if-waiting.false)
    ])
    (elim c.then-commented.branch [
      | then-commented-via-then-commented w ↦ first_holds k.only w.if-commented.true
      | then-commented-via-else-commented+then-kept w ↦ second_holds w.if-commented.false w.if-kept.true
    ])
    c.pop_comments.ensures.laid c.requires

pub returns-then-commented : goal.returns-then-commented
returns-then-commented c =
    let k = c.args.kept.now in
    record {
      laid =
          laid_counted (given_by c.args.parsed.now) c.args.position k.leading k.trailing k.only
          (elim c.if-waiting.branch [
            | then-waiting w ↦ both (sym c.is_waiting-waiting.ensures ∙ w.if-waiting.true) w.commented-is
            | else-waiting w ↦ not_first k.trailing (sym c.is_waiting-waiting.ensures ∙ w.if-waiting.false) (w.commented-is ∙ w.if-waiting.false)
          ])
          (elim c.then-commented.branch [
            | then-commented-via-then-commented w ↦ first_holds k.only w.if-commented.true
            | then-commented-via-else-commented+then-kept w ↦ second_holds w.if-commented.false w.if-kept.true
          ])
          c.pop_comments.ensures.laid c.newlines-newlines.ensures.laid;
      same = cc (c.pop_comments.ensures.same, c.newlines-newlines.ensures.same);
    }

pub returns : goal.returns
returns c =
    let k = c.args.kept.now in
    rw c.uncounted.ensures
    (record {
      laid =
          laid_uncounted (given_by c.args.parsed.now) c.args.position k.leading k.trailing k.only
          (elim c.if-waiting.branch [
            | then-waiting w ↦ both (sym c.is_waiting-waiting.ensures ∙ w.if-waiting.true) w.commented-is
            | else-waiting w ↦ not_first k.trailing (sym c.is_waiting-waiting.ensures ∙ w.if-waiting.false) (w.commented-is ∙ w.if-waiting.false)
          ])
          (none_holds c.if-commented.false c.if-kept.false) c.pop_comments.ensures.laid c.ignore_newlines.ensures.laid;
      same = cc (c.pop_comments.ensures.same, c.ignore_newlines.ensures.same);
    })
