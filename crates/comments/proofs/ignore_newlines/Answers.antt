use mathlib.Core.Path.{sym, ◌∙◌}
use Rattle.comments.proofs.Fronts.{is_none, is_some_lem}
use Rattle.comments.proofs.Pops.{ignored_none, ignored_some, laid_ignored}
use Rattle.comments.specs.Parsed.{given_by}
use Rattle.acts.specs.Laid.{st}
use Rattle.comments.proofs.ignore_newlines.Goals as goal

pub returns-in-None : goal.returns-in-None
returns-in-None c =
    let g = given_by c.args.parsed.now in
    let p = c.args.position in
    let none = is_none _ c.front.ensures c.in-None.is in
    record {
      laid = laid_ignored g p (sym (ignored_none g p (st c.args.state.now.cursor) none)) c.move_to.ensures.laid;
      same = c.move_to.ensures.same;
    }

pub returns-in-Some : goal.returns-in-Some
returns-in-Some c =
    let g = given_by c.args.parsed.now in
    let p = c.args.position in
    let some = is_some_lem _ c.front.ensures c.in-Some.is in
    record {
      laid = laid_ignored g p (c.min.ensures ∙ sym (ignored_some g p (st c.args.state.now.cursor) _ some)) c.move_to-in-Some.ensures.laid;
      same = c.move_to-in-Some.ensures.same;
    }
