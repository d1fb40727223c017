-- Where no comment waits and newlines are not looked at, the cursor goes to the position.
-- Assumes nothing.
use mathlib.Core.Path.{sym, ◌∙◌}
use Rattle.comments.proofs.Pops.{laid_quiet}
use Rattle.comments.specs.Parsed.{given_by}
use Rattle.comments.proofs.pop_whitespace.Goals as goal

pub returns : goal.returns
returns c =
    let k = c.args.kept.now in
    rw c.uncounted.ensures
    (record {
      laid =
          laid_quiet (given_by c.args.parsed.now) c.args.position k.leading k.trailing (sym c.is_waiting.ensures ∙ c.if-is_waiting.false)
          c.if-kept.false c.move_to.ensures.laid;
      same = c.move_to.ensures.same;
    })
