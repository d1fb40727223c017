use Rattle.std.proofs.Common.{◌≡◌}
use Rattle.std.proofs.lemmas.Result.{IfOk-at_ok}
use Rattle.layout_call.specs.declared.accepted.Accepted.{Accepted}
use Rattle.layout_call.specs.Steps.{Reads}
use Rattle.layout_call.proofs.layout_call.Goals as goal

pub layout_accepted-requires-clause-read : goal.layout_accepted-requires-clause-read
layout_accepted-requires-clause-read c =
    IfOk-at_ok (λ (a : Accepted). Reads a.parsed.source.now a.parsed.image.now c.args.args.archive) c.in_ok-file.was c.check.ensures.read

pub returns : goal.returns
returns c =
    let same =
    IfOk-at_ok (λ (a : Accepted). (a.parsed.source.now ≡ c.args.source.now) × (a.parsed.image.now ≡ c.args.image.now))
    c.in_ok-file.was c.check.ensures.same
    in
    rw (same.0, same.1) at c.layout_accepted.ensures
