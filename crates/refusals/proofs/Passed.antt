-- What a function answers where a `?` ends it: the refusal that the `?` met.
-- Assumes nothing.
use mathlib.Core.Path.{◌≡◌}
use Rattle.std.specs.Prelude.{Some, Result, Ok, Err, IsErrAnd}
use Rattle.refusals.specs.Answers.{refused}
use Rattle.refusals.specs.Reasons.{refusal, answer_of, refusal_in}
use Rattle.refusals.specs.declared.Refused.{Refused}

pub passed : {A B : Type 0} (given : A → B) (r : Result A Refused) (e : Refused) → IsErrAnd r (λ x. x ≡ e) → answer_of given r ≡ refused (refusal e)
passed given (Ok a) e h = absurd h
passed given (Err x) e h = rw h
