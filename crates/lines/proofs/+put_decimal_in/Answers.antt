use Rattle.std.proofs.Common.{◌≡◌, ◌+◌, ◌%◌}
use native.Mathlib.Omega.{arith}
use Rattle.lines.proofs.Lines.{appended_none, appended_one, appended_more}
use Rattle.lines.proofs.+put_decimal_in.Goals as goal
use Rattle.lines.proofs.+put_decimal_in.Goals.{then-n-ge10, else-n-ge10}

pub returns-then-most-eq0-clause-bytes : goal.returns-then-most-eq0-clause-bytes
returns-then-most-eq0-clause-bytes g t c = appended_none _ _ _ c.if-most-eq0.true

pub returns-clause-bytes : goal.returns-clause-bytes
returns-clause-bytes g t c =
    let digit : c.from.result ≡ 48 + c.args.n % 10 = omega (arith, c.from.ensures) in
    let last = c.push.ensures.ascii (omega arith) in
    elim c.if-n-ge10.branch [
      | then-n-ge10 w ↦ appended_more _ _ _ _ _ _ _ c.if-most-eq0.false w.if-n-ge10.true digit w.put_decimal_in.ensures.bytes (λ i. (w.line-is i).bytes) last
      | else-n-ge10 w ↦ appended_one _ _ _ _ _ _ c.if-most-eq0.false w.if-n-ge10.false digit (λ i. (w.line-is i).bytes) last
    ]
