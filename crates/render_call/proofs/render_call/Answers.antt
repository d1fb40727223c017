use Rattle.std.proofs.lemmas.Result.{err_from_is_err_and}
use Rattle.render_call.proofs.Steps.{refused_by}
use Rattle.render_call.proofs.render_call.Goals as goal

pub returns-in_err-needs : goal.returns-in_err-needs
returns-in_err-needs c =
    let p = err_from_is_err_and c.from_residual.result c.from_residual.ensures.1 in
    rw (p.1, p.2) (refused_by _ _ _ _ _ _ _ _ _ c.refusal.ensures.refused _ c.in_err-needs.was)
