-- The code's refusal as document 01's: "Number and place are all that comes back."
use Rattle.std.specs.Prelude.{ℕ, Option, None, Some, Result, Ok, Err}
use Rattle.refusals.specs.declared.Reason.{Reason}
use Rattle.refusals.specs.declared.Reason.TheVariants as reason
use Rattle.refusals.specs.declared.Refused.{Refused}
use Rattle.refusals.specs.Refusals.{Refusal}
use Rattle.refusals.specs.Answers.{Answer, refused, accepted}

-- the numbers of the table: documents 01 and 02
abbrev pub number_of : Reason → ℕ
number_of reason.SourceTooLong = 1
number_of reason.SourceNotUtf8 = 2
number_of reason.Header = 3
number_of reason.Record = 4
number_of reason.Depth = 5
number_of reason.Span = 6
number_of reason.Comments = 7
number_of reason.RowsNeeded = 8
number_of reason.MarksNeeded = 9
number_of reason.BytesNeeded = 10
number_of reason.Rows = 11
number_of reason.State = 12
number_of reason.Frame = 13
number_of reason.Tallies = 14
number_of reason.Width = 15
number_of reason.Steps = 16
number_of reason.ImageNeeds = 17
number_of reason.Frames = 18
number_of reason.BatchNeeds = 19
number_of reason.Rule = 20
number_of reason.StoredWidth = 21
number_of reason.Allotment = 22
number_of reason.Listed = 23
number_of reason.Formula = 24

abbrev pub refusal : Refused → Refusal
refusal r = record { number = number_of r.reason; place = r.place }

-- what a call answers, by what it gives where it accepts
abbrev pub answer_of : {A B : Type 0} → (A → B) → Result A Refused → Answer B
answer_of given (Ok a) = accepted (given a)
answer_of given (Err r) = refused (refusal r)

-- what a test answers: nothing, or why not
abbrev pub refusal_in : {A : Type 0} → Result A Refused → Option Refusal
refusal_in (Ok a) = None
refusal_in (Err r) = Some (refusal r)
