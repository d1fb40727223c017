-- A layout call's state, arguments and answer as document 01's.
use Rattle.std.specs.Prelude.{List, ℕ, Result}
use Rattle.refusals.specs.Answers.{Answer}
use Rattle.refusals.specs.Reasons.{answer_of}
use Rattle.refusals.specs.declared.Refused.{Refused}
use Rattle.cut_rule.specs.Rules as cut
use Rattle.cut_rule.specs.Run.{CallResult, laid_out}
use Rattle.cut_rule.specs.States as states
use Rattle.whole_run.specs.Demands.{rules_of}
use Rattle.layout_call.specs.declared.LayoutState.{LayoutState}
use Rattle.layout_call.specs.declared.LayoutArgs.{LayoutArgs}
use Rattle.layout_call.specs.declared.Laid.{Laid}

-- "Layout state: begun, closed, next declaration, next row, next number, comments placed, position", the mode, and the rule of width
abbrev pub to_state : LayoutState → states.LayoutState
to_state s = record {
  begun = s.begun;
  closed = s.closed;
  declaration = s.declaration;
  cursor = record { row = s.row; number = s.number; placed = s.placed; position = s.position };
  mode = s.mode;
  rule = s.rule;
}

-- "A layout call names the declaration to stop before and whether to close", the mode, the rule, and whether it is the archive entry's
abbrev pub to_args : LayoutArgs → cut.LayoutArgs states.LayoutChoice
to_args q = record { stop = q.stop; close = q.close; choice = record { mode = q.mode; rule = q.rule }; archive = q.archive }

-- A call's answer: "the new state with the number of comments left"; "Number and place are all that comes back."
abbrev pub laying_answer : (s b : List ℕ) → Result Laid Refused → Answer (CallResult (rules_of s b))
laying_answer s b = answer_of (λ t. laid_out (to_state t.state) t.left)
