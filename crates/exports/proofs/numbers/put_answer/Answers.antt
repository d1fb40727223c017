-- The 0 first, and the numbers behind it.
use Rattle.std.proofs.Common.{sym, ap, ◌∙◌, List, ℕ, Result, length, length-take, length-drop, length-set, arith}
use Rattle.refusals.specs.Answers.{numbers_of}
use Rattle.refusals.specs.Reasons.{answer_of}
use Rattle.refusals.specs.declared.Refused.{Refused}
use Rattle.exports.proofs.Told.{put_front}
use Rattle.exports.proofs.numbers.put_answer.Goals as goal

pub returns-in-Ok : goal.returns-in-Ok
returns-in-Ok g c =
    let given = c.copy_from_slice.ensures.after in
    let size = simp (length-take, length-drop, length-set) at (sym (ap length given) ∙ c.copy_from_slice.ensures.len) in
    put_front _ _ c.args.out.now _ given (omega (arith, size, c.requires.given)) (omega (arith, size, c.requires.given))
    ∙ sym (ap (λ (r : Result (List ℕ) Refused). numbers_of (λ l. l) (answer_of (λ l. l) r) c.args.out.now) c.in-Ok.is)
