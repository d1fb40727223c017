-- A rendering call's state, arguments and answer as document 01's, and its refusals before it renders.
use Rattle.std.specs.Prelude.{List, [], ◌∷◌, ◌++◌, map, ℕ, ◌-◌, length, take, replicate, Option, Result, Ok, Err}
use Rattle.refusals.specs.Refusals.{Refusal, first, refuse_if, any}
use Rattle.refusals.specs.Reasons.{answer_of}
use Rattle.refusals.specs.Answers.{Answer}
use Rattle.refusals.specs.declared.Refused.{Refused}
use Rattle.cut_rule.specs.Rules as cut
use Rattle.cut_rule.specs.Run.{CallResult, written}
use Rattle.cut_rule.specs.States as states
use Rattle.cut_rule.specs.Parts.{before_marks, before_text, width_line, allotment_line, listed_line}
use Rattle.cut_rule.specs.Tests.{render_tests}
use Rattle.renderer_rules.specs.Stops.{OpenRow}
use Rattle.listed_rows.specs.Numbers.{open_row}
use Rattle.whole_run.specs.Parts.{parts_of}
use Rattle.whole_run.specs.Demands.{rules_of}
use Rattle.render_call.specs.declared.RenderState.{RenderState}
use Rattle.render_call.specs.declared.RenderArgs.{RenderArgs}
use Rattle.render_call.specs.declared.Written.{Written}
use Rattle.render_call.specs.declared.Drawn.{Drawn}

-- The rows that a state lists: the first so many numbers of its list. Where the list has fewer, rows 0 stand for the others, so that a count over
-- 256 is refused by 23.
unfoldable pub listed_of : ℕ → List ℕ → List OpenRow
listed_of n numbers = map open_row (take n numbers ++ replicate (n - length numbers) 0)

-- "Rendering state: `indent`, `next_indent`, `column`, marks in use, next row"; the width, and the rule of width; the rows listed
abbrev pub to_state : RenderState → List ℕ → states.RenderState
to_state s listed = record {
  pen = s.pen;
  in_use = s.in_use;
  row = s.row;
  width = s.width.0;
  rule = s.rule;
  listed = listed_of s.listed_rows listed;
}

-- "A rendering call names the row to stop before", chooses a width and a rule, and "is given a number of rows it may enter"; `room` is the length of
-- the output that it is lent.
abbrev pub goes_to : RenderArgs → cut.RenderTo states.RenderChoice
goes_to args = record { stop = args.stop; choice = record { width = args.width.0; rule = args.rule } }

abbrev pub to_args : RenderArgs → ℕ → cut.RenderArgs states.RenderChoice
to_args args room = record { to = goes_to args; allotment = args.allotment; room = room }

-- A call's answer, with the list as it leaves it: "the new state and the bytes written", with "the count returned"; "Number and place are all that
-- comes back."
abbrev pub rendering_answer : (s b : List ℕ) → List ℕ → Result Written Refused → Answer (CallResult (rules_of s b))
rendering_answer s b listed = answer_of (λ w. written (to_state w.state listed) w.bytes.0 w.entered)

-- A rendering with its greatest column: the answer, and that column, 0 where it is refused.
abbrev pub rendering_of : Result Drawn Refused → Result Written Refused
rendering_of (Ok d) = Ok d.written
rendering_of (Err r) = Err r

abbrev pub widest_of : Result Drawn Refused → ℕ
widest_of (Ok d) = d.widest.0
widest_of (Err r) = 0

-- 20, "rendering 1, 3 by the same tests, then 11, 12", with 2 between 1 and 3, and 15, 22 and 23: the lines before the rows are counted
abbrev pub early_refusal : List ℕ → List ℕ → RenderArgs → states.RenderState → List ℕ → List ℕ → Option Refusal
early_refusal s b args z store marks = first (before_marks (parts_of s b) (to_args args 0) z store marks)

-- and 9: all but 10, which alone reads the room
abbrev pub run_refusal : List ℕ → List ℕ → RenderArgs → states.RenderState → List ℕ → List ℕ → Option Refusal
run_refusal s b args z store marks = first (before_text (parts_of s b) (to_args args 0) z store marks)

-- 12, 15, 22 and 23 alone
abbrev pub state_refusal : RenderArgs → states.RenderState → List ℕ → List ℕ → Option Refusal
state_refusal args z store marks =
    first
    (refuse_if (any (render_tests (to_args args 0) z store marks)) 12 0
    ∷ width_line (goes_to args).choice z
    ∷ allotment_line args.allotment
    ∷ listed_line z store
    ∷ [])
