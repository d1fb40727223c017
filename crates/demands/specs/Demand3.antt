-- Demand 3, the cut rule, of the two public calls, `layout_call::layout_call` and `render_call::render_call`, by what they promise and nothing else:
-- whatever list of calls a caller makes, refused ones included, in which no accepted call reads rows not yet laid out, what it then holds is what
-- the plain run of document 01 has due, in both modes. proofs/Demand3.antt proves it. (Without that condition it is false:
-- crates/cut_rule/proofs/Example.antt.) What is due: crates/cut_rule/specs/Plain.antt; by which rules and which table:
-- crates/whole_run/specs/Parts.antt.
use Rattle.std.specs.Prelude.{◌≡◌, true, List, [], ◌++◌, map, ℕ, length, take, Option, None, Some, Result, Ok, Err}
use Rattle.refusals.specs.Answers.{Answer}
use Rattle.refusals.specs.declared.Refused.{Refused}
use Rattle.cut_rule.specs.Run.{Call, layout_call, render_call, Carried, CallResult, start}
use Rattle.cut_rule.specs.Plain.{AllReadLaid, at_first, due, plain, answers_due}
use Rattle.cut_rule.specs.CutRule.{CommentsKept, CommentsAhead}
use Rattle.cut_rule.specs.Callers.{after_all, AllKept}
use Rattle.cut_rule.specs.States.{NEW_MODE}
use Rattle.whole_run.specs.Parts.{listed}
use Rattle.whole_run.specs.Demands.{rules_of}
use Rattle.whole_run.specs.Foot.{HoldsAll}
use Rattle.layout_call.specs.declared.LayoutState.{LayoutState}
use Rattle.layout_call.specs.declared.LayoutArgs.{LayoutArgs}
use Rattle.layout_call.specs.declared.Laid.{Laid}
use Rattle.layout_call.specs.Calls as layout
use Rattle.layout_call.specs.Whole.{LayoutCalled}
use Rattle.render_call.specs.declared.RenderState.{RenderState}
use Rattle.render_call.specs.declared.RenderArgs.{RenderArgs}
use Rattle.render_call.specs.declared.Written.{Written}
use Rattle.render_call.specs.Calls as render
use Rattle.render_call.specs.Whole.{RenderCalled}
use Rattle.demands.specs.Fresh.{fresh_layout, fresh_render}

-- ---- a caller
-- what it holds: the buffers that it lends again, both states, the list of open rows that it lends with the second, the text joined in call order,
-- and the comments left that it was told last
pub record Caller : Type 0 where
  pub store : List ℕ
  pub marks : List ℕ
  pub layout_state_of : LayoutState
  pub render_state_of : RenderState
  pub listed : List ℕ
  pub text : List ℕ
  pub left : Option ℕ

-- "Fresh is all 0", whatever store, marks and list hold
abbrev pub fresh_caller : List ℕ → List ℕ → List ℕ → Caller
fresh_caller store₀ marks₀ listed₀ = record {
  store = store₀;
  marks = marks₀;
  layout_state_of = fresh_layout;
  render_state_of = fresh_render;
  listed = listed₀;
  text = [];
  left = None;
}

-- a call that was made: its arguments, its answer, and the buffers at exit
pub data Made : Type 0 where
  laid : LayoutArgs → Result Laid Refused → (store2 : List ℕ) → Made
  rendered : RenderArgs → (out : List ℕ) → Result Written Refused → (store2 marks2 out2 listed2 : List ℕ) → Made

-- the function's own promise, for what the caller held
abbrev pub Promised : (s b : List ℕ) → Caller → Made → Type 0
Promised s b w (laid args r store2) = LayoutCalled s b w.layout_state_of args w.store r store2
Promised s b w (rendered args out r store2 marks2 out2 listed2) =
    RenderCalled s b (render.to_state w.render_state_of w.listed) args w.store w.marks out w.listed r store2 marks2 out2 listed2

-- what the caller keeps of an answer: a new state, the comments left, the bytes written
abbrev pub keep_laying : Result Laid Refused → Caller → Caller
keep_laying (Ok t) w = record {
  store = w.store;
  marks = w.marks;
  layout_state_of = t.state;
  render_state_of = w.render_state_of;
  listed = w.listed;
  text = w.text;
  left = Some t.left;
}
keep_laying (Err r) w = w

abbrev pub keep_rendering : Result Written Refused → List ℕ → Caller → Caller
keep_rendering (Ok t) out w = record {
  store = w.store;
  marks = w.marks;
  layout_state_of = w.layout_state_of;
  render_state_of = t.state;
  listed = w.listed;
  text = w.text ++ take t.bytes.0 out;
  left = w.left;
}
keep_rendering (Err r) out w = w

-- what it holds after a call
abbrev pub after_made : Caller → Made → Caller
after_made w (laid args r store2) =
    keep_laying r
    (record {
      store = store2;
      marks = w.marks;
      layout_state_of = w.layout_state_of;
      render_state_of = w.render_state_of;
      listed = w.listed;
      text = w.text;
      left = w.left;
    })
after_made w (rendered args out r store2 marks2 out2 listed2) =
    keep_rendering r out2
    (record {
      store = store2;
      marks = marks2;
      layout_state_of = w.layout_state_of;
      render_state_of = w.render_state_of;
      listed = listed2;
      text = w.text;
      left = w.left;
    })

-- ---- the same in the words of the cut rule
-- arguments, answers, and what is held
abbrev pub call_made : (s b : List ℕ) → Made → Call (rules_of s b)
call_made s b (laid args r store2) = layout_call (layout.to_args args)
call_made s b (rendered args out r store2 marks2 out2 listed2) = render_call (render.to_args args (length out))

abbrev pub answer_made : (s b : List ℕ) → Made → Answer (CallResult (rules_of s b))
answer_made s b (laid args r store2) = layout.laying_answer s b r
answer_made s b (rendered args out r store2 marks2 out2 listed2) = render.rendering_answer s b listed2 r

abbrev pub held : (s b : List ℕ) → Caller → Carried (rules_of s b)
held s b w = record {
  store = w.store;
  marks = w.marks;
  layout_state_of = layout.to_state w.layout_state_of;
  render_state_of = render.to_state w.render_state_of w.listed;
  text = w.text;
  left = w.left;
}

-- ---- demand 3
-- store, marks, both states, joined text and comments left are those due after these calls; and the comments in the rows are the first of the list,
-- in order, each once, the others being left; "at a stop inside, .. the comments among the rows ahead of the next one are the first so many of the
-- list, in order, each once"
pub record HeldAsDue (s b store₀ marks₀ : List ℕ) (calls : List (Call (rules_of s b))) (v : Carried (rules_of s b)) : Type 0 where
  pub same : v ≡ due (rules_of s b) store₀ marks₀ (plain (rules_of s b) store₀ marks₀ (at_first (rules_of s b)) calls)
  pub comments : (n : ℕ) → v.left ≡ Some n → CommentsKept (rules_of s b) (listed s b) v n
  pub ahead : CommentsAhead (rules_of s b) (listed s b) v

-- and so is every answer
pub record CallsCut (s b store₀ marks₀ listed₀ : List ℕ) (made : List Made) : Type 0 where
  pub as_due : HeldAsDue s b store₀ marks₀ (map (call_made s b) made) (held s b (after_all after_made (fresh_caller store₀ marks₀ listed₀) made))
  pub answered : map (answer_made s b) made ≡ answers_due (rules_of s b) store₀ marks₀ (at_first (rules_of s b)) (map (call_made s b) made)

-- for every source and image, whatever store, marks and list held, and every list of calls that keep their promise, in which no accepted call reads
-- rows not yet laid out
abbrev pub Demand3 : Type 0
Demand3 =
    (s b store₀ marks₀ listed₀ : List ℕ) (made : List Made) → AllKept after_made (Promised s b) (fresh_caller store₀ marks₀ listed₀) made
    → AllReadLaid (rules_of s b) (start (rules_of s b) store₀ marks₀) (map (call_made s b) made)
    → CallsCut s b store₀ marks₀ listed₀ made

-- ---- request 4
-- "In the new mode a document closed by calls from fresh holds the whole list, 0 left": whatever calls it were, refused ones included
abbrev pub CallsHoldAll : Type 0
CallsHoldAll =
    (s b store₀ marks₀ listed₀ : List ℕ) (made : List Made) → AllKept after_made (Promised s b) (fresh_caller store₀ marks₀ listed₀) made
    → (after_all after_made (fresh_caller store₀ marks₀ listed₀) made).layout_state_of.closed ≡ true
    → (after_all after_made (fresh_caller store₀ marks₀ listed₀) made).layout_state_of.mode ≡ NEW_MODE
    → HoldsAll s b (held s b (after_all after_made (fresh_caller store₀ marks₀ listed₀) made))

-- "closing places every waiting comment": from every state that `layout_call` accepts, whatever layout came before
pub record ClosedAll (s b : List ℕ) (t : LayoutState) (left : ℕ) : Type 0 where
  pub none_left : left ≡ 0
  pub placed : t.placed ≡ length (listed s b)
  pub position : t.position ≡ length s

abbrev pub ClosingLeavesNone : Type 0
ClosingLeavesNone =
    (s b : List ℕ) (state : LayoutState) (args : LayoutArgs) (store : List ℕ) (t : LayoutState) (left : ℕ) (store2 : List ℕ)
    → LayoutCalled s b state args store (Ok (record { state = t; left = left })) store2
    → args.close ≡ true
    → args.mode ≡ NEW_MODE
    → ClosedAll s b t left
