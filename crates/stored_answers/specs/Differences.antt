-- What differs from stored answers, and what is told of it.
use Rattle.std.specs.Prelude.{Bool, cond, not, ◌&&◌, List, [], ◌∷◌, ℕ, eqb, length, Result, Ok, Err}
use Rattle.refusals.specs.Reasons.{number_of}
use Rattle.refusals.specs.declared.Refused.{Refused}
use Rattle.stored_answers.specs.Numbers.{onward, long, has_bytes}
use Rattle.stored_answers.specs.declared.difference.Difference.{Difference}
use Rattle.stored_answers.specs.declared.difference.Told.{Told}
use Rattle.stored_answers.specs.declared.difference.Difference.TheVariants.{Number, Place}
use Rattle.stored_answers.specs.declared.report.Compared.{Compared}

-- the first of two differences
abbrev pub first_of : Result (Unit {0}) Difference → Result (Unit {0}) Difference → Result (Unit {0}) Difference
first_of (Ok u) b = b
first_of (Err e) b = Err e

-- a difference where a test fails
abbrev pub or_same : Bool → Difference → Result (Unit {0}) Difference
or_same same what = cond same (Ok tt) (Err what)

-- the number and the place that are stored against those that were answered
abbrev pub told_found : Told → ℕ → ℕ → Result (Unit {0}) Difference
told_found t number place = first_of (or_same (eqb t.number number) Number) (or_same (eqb t.place place) Place)

-- bytes against those stored at `at` with their number before them
abbrev pub bytes_found : List ℕ → List ℕ → ℕ → Difference → Result (Unit {0}) Difference
bytes_found b d at what = first_of (or_same (eqb (long d at) (length b)) what) (or_same (has_bytes b d (onward at 4)) what)

-- how many cases that is
abbrev pub differs : Result (Unit {0}) Difference → ℕ
differs (Ok u) = 0
differs (Err e) = 1

-- the sum of counts
abbrev pub total_from : ℕ → List ℕ → ℕ
total_from n [] = n
total_from n (x ∷ xs) = total_from (onward n x) xs

abbrev pub total : List ℕ → ℕ
total counts = total_from 0 counts

-- no case differs, and none is cut off
abbrev pub all_same : Compared → Bool
all_same c = not c.cut && eqb c.differ 0

-- the number of an answer: that of a refusal, or 0
abbrev pub number_in : {A : Type 0} → Result A Refused → ℕ
number_in (Ok a) = 0
number_in (Err r) = number_of r.reason
