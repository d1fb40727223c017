-- What a run over a list of steps leaves. It checks the list and puts the image's bytes into its output, where bytes past the output's end are
-- dropped: over an output without room it counts.
use Rattle.std.specs.Prelude.{◌≡◌, true, cond, List, ℕ, suc, ◌+◌, ◌*◌, ◌≤◌, ltb, length, Option, None, Some, Result, Ok, Err}
use Rattle.std.proofs.lemmas.List.Edits.{sets}
use Rattle.refusals.specs.Reasons.{number_of}
use Rattle.refusals.specs.declared.Refused.{Refused}
use Rattle.image.specs.Read.{Read, got, bad}
use Rattle.image.specs.Write.{Plain, written, writtens}
use Rattle.steps.specs.Rows.{short}
use Rattle.steps.specs.Writer.{payload_from, record_from, children_from}
use Rattle.writer.specs.Steps.{child_from}
use Rattle.writer.specs.declared.output.Output.{Output}
use Rattle.writer.specs.declared.step.Step.{Step}

-- ---- what it leaves
-- where the list goes on, the place behind what was put, and the output; a refusal's number and place; or where the list goes on behind the step
-- that closes a record. A length of 2^32 or more has no four bytes, so that the output is told only if it ends before.
pub data Ran : Type 0 where
  held : ℕ → ℕ → List ℕ → Ran
  long : ℕ → ℕ → Ran
  closed : ℕ → List ℕ → Ran
  fault : ℕ → ℕ → Ran

abbrev pub up_to : ℕ → ℕ → List ℕ → Ran
up_to at pos out = cond (ltb pos 4294967296) (held at pos out) (long at pos)

-- what was read is put at `pos` as the bytes that f gives
abbrev pub put_by : {A : Type 0} → (A → List ℕ) → ℕ → List ℕ → Read A → Ran
put_by f pos out (got a end) = up_to end (pos + length (f a)) (sets out pos (f a))
put_by f pos out (bad n p) = fault n p

abbrev pub child_by : ℕ → List ℕ → Read (Option Plain) → Ran
child_by pos out (got None past) = closed past out
child_by pos out (got (Some x) past) = up_to past (pos + length (written x)) (sets out pos (written x))
child_by pos out (bad n p) = fault n p

-- what an answer stands for, with the output at exit: where the list goes on
abbrev pub put_of : Result ℕ Refused → Output → Ran
put_of (Ok at) o = up_to at o.pos o.bytes.now
put_of (Err r) o = fault (number_of r.reason) r.place

-- what is put of a list at one of its steps: a payload, a record, a child, children
abbrev pub payload_put : Output → Step → ℕ → ℕ → Ran
payload_put o s p kind = put_by (λ x. x) o.pos o.bytes.now (payload_from s.steps.now p kind s.at)

abbrev pub record_put : Output → Step → ℕ → ℕ → Ran
record_put o s left p = put_by written o.pos o.bytes.now (record_from s.steps.now left p s.at)

abbrev pub child_put : Output → Step → ℕ → ℕ → Ran
child_put o s left row = child_by o.pos o.bytes.now (child_from (record_from s.steps.now left) s.steps.now row s.at)

abbrev pub children_put : Output → Step → ℕ → ℕ → Ran
children_put o s left row =
    put_by writtens o.pos o.bytes.now (children_from (record_from s.steps.now left) s.steps.now (suc (length s.steps.now)) row s.at)

-- it is still the same output
abbrev pub Same : Output → Output → Type 0
Same s t = t.bytes.ghost_name ≡ s.bytes.ghost_name

-- ---- no sum wraps
-- An absent child has one byte in the list and four in the image; of every other step the image has no more than twice its bytes. So what is put
-- stays below twice the list, where the step that opens a record leaves two bytes for each of its places.
pub record AtChildren (row at pos : ℕ) : Type 0 where
  pub places : ℕ
  pub few : short places row ≡ true
  pub below : pos + 2 * places ≤ 2 * at + 1
