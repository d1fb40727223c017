-- A list of calls: what each meets, answers and leaves.
use Rattle.std.specs.Prelude.{List, [], ◌∷◌, ◌++◌, ℕ, ◌*◌, length, take, drop, Option, None, Some}
use Rattle.rows.specs.Places.{PLACES}
use Rattle.refusals.specs.Refusals.{Refusal, unless}
use Rattle.refusals.specs.Answers.{Answer, answer_by}
use Rattle.cut_rule.specs.Rules.{LayoutArgs, RenderArgs, RenderResult, Rules}

-- xs written over the front of a memory: "Memory past what is written is untouched."
abbrev pub write_front : List ℕ → List ℕ → List ℕ
write_front xs memory = xs ++ drop (length xs) memory

-- xs written over a memory from place n on
abbrev pub write_at : ℕ → List ℕ → List ℕ → List ℕ
write_at n xs memory = take n memory ++ write_front xs (drop n memory)

module _ (R : Rules) where
  pub data Call : Type 0 where
    layout_call : LayoutArgs R.LayoutChoice → Call
    render_call : RenderArgs R.RenderChoice → Call

  -- What is carried from call to call, with the text joined in call order and what the last accepted layout call said of comments left.
  pub record Carried : Type 0 where
    pub store : List ℕ
    pub marks : List ℕ
    pub layout_state_of : R.LayoutState
    pub render_state_of : R.RenderState
    pub text : List ℕ
    pub left : Option ℕ

  -- fresh states, and whatever store and marks held
  abbrev pub start : List ℕ → List ℕ → Carried
  start store₀ marks₀ =
      record { store = store₀; marks = marks₀; layout_state_of = R.layout_fresh_of; render_state_of = R.render_fresh_of; text = []; left = None }

  -- the table, read on what is there before the call
  abbrev pub refusal : Carried → Call → Option Refusal
  refusal w (layout_call q) = R.layout_refusal q w.layout_state_of w.store
  refusal w (render_call q) = R.render_refusal q w.render_state_of w.store w.marks

  -- what an accepted rendering call gives
  abbrev pub rendered : Carried → RenderArgs R.RenderChoice → RenderResult R.RenderState
  rendered w q = R.render w.render_state_of q.to q.allotment (take (R.in_use w.render_state_of) w.marks) w.store

  -- what an accepted call leaves
  abbrev pub accepted : Carried → Call → Carried
  accepted w (layout_call q) = record {
    store = write_at (PLACES * R.next_row w.layout_state_of) (R.layout w.layout_state_of q).rows w.store;
    marks = w.marks;
    layout_state_of = (R.layout w.layout_state_of q).state;
    render_state_of = w.render_state_of;
    text = w.text;
    left = Some (R.layout w.layout_state_of q).left;
  }
  accepted w (render_call q) = record {
    store = w.store;
    marks = write_front (rendered w q).marks w.marks;
    layout_state_of = w.layout_state_of;
    render_state_of = (rendered w q).state;
    text = w.text ++ (rendered w q).text;
    left = w.left;
  }

  -- one call; a refused one leaves all as it was
  abbrev pub call : Carried → Call → Carried
  call w c = unless (refusal w c) w (accepted w c)

  -- the calls in order, each with what those before left
  abbrev pub run : Carried → List Call → Carried
  run w [] = w
  run w (c ∷ cs) = run (call w c) cs

  -- What an accepted call gives: "the new state with the number of comments left"; "the new state and the bytes written", with "the count
  -- returned".
  pub data CallResult : Type 0 where
    laid_out : R.LayoutState → ℕ → CallResult
    written : R.RenderState → ℕ → ℕ → CallResult

  abbrev pub call_result : Carried → Call → CallResult
  call_result w (layout_call q) = laid_out (R.layout w.layout_state_of q).state (R.layout w.layout_state_of q).left
  call_result w (render_call q) = written (rendered w q).state (length (rendered w q).text) (rendered w q).entered

  -- what a call answers
  abbrev pub answer : Carried → Call → Answer CallResult
  answer w c = answer_by (refusal w c) (call_result w c)

  abbrev pub answers : Carried → List Call → List (Answer CallResult)
  answers w [] = []
  answers w (c ∷ cs) = answer w c ∷ answers (call w c) cs
