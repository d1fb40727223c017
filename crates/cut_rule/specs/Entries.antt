-- What the contracts of the two public calls say, each of one call alone, and what their caller hands on. `entry_call` is the `call` of Run.antt
-- (proofs/Entries.antt), so that the cut rule is a rule on functions with these contracts.
use Rattle.std.specs.Prelude.{List, [], ◌++◌, ℕ, ◌*◌, length, take, Option, Some}
use Rattle.rows.specs.Places.{PLACES}
use Rattle.cut_rule.specs.Rules.{LayoutArgs, RenderArgs, RenderResult, Rules}
use Rattle.refusals.specs.Refusals.{unless}
use Rattle.refusals.specs.Answers.{Answer, refused, accepted, answer_by}
use Rattle.cut_rule.specs.Run.{write_front, write_at, Call, layout_call, render_call, Carried, CallResult, laid_out, written}

module _ (R : Rules) where
  -- a layout call's answer, and the store at exit
  abbrev pub layout_answer : LayoutArgs R.LayoutChoice → R.LayoutState → List ℕ → Answer (CallResult R)
  layout_answer q s store = answer_by (R.layout_refusal q s store) (laid_out (R.layout s q).state (R.layout s q).left)

  abbrev pub layout_store : LayoutArgs R.LayoutChoice → R.LayoutState → List ℕ → List ℕ
  layout_store q s store = unless (R.layout_refusal q s store) store (write_at (PLACES * R.next_row s) (R.layout s q).rows store)

  -- a rendering call's answer, and marks and output at exit; the store stays
  abbrev pub render_gives : RenderArgs R.RenderChoice → R.RenderState → List ℕ → List ℕ → RenderResult R.RenderState
  render_gives q s store marks = R.render s q.to q.allotment (take (R.in_use s) marks) store

  abbrev pub render_answer : RenderArgs R.RenderChoice → R.RenderState → List ℕ → List ℕ → Answer (CallResult R)
  render_answer q s store marks =
      let gives = render_gives q s store marks in
      answer_by (R.render_refusal q s store marks) (written gives.state (length gives.text) gives.entered)

  abbrev pub render_marks : RenderArgs R.RenderChoice → R.RenderState → List ℕ → List ℕ → List ℕ
  render_marks q s store marks = unless (R.render_refusal q s store marks) marks (write_front (render_gives q s store marks).marks marks)

  abbrev pub render_output : RenderArgs R.RenderChoice → R.RenderState → List ℕ → List ℕ → List ℕ → List ℕ
  render_output q s store marks out = unless (R.render_refusal q s store marks) out (write_front (render_gives q s store marks).text out)

  -- The caller: the state that the next call of the kind gets, the comments left, the bytes of the output that were written.
  abbrev pub layout_next : Answer (CallResult R) → R.LayoutState → R.LayoutState
  layout_next (refused r) s = s
  layout_next (accepted (laid_out t n)) s = t
  layout_next (accepted (written t n k)) s = s

  abbrev pub render_next : Answer (CallResult R) → R.RenderState → R.RenderState
  render_next (refused r) s = s
  render_next (accepted (laid_out t n)) s = s
  render_next (accepted (written t n k)) s = t

  abbrev pub left_next : Answer (CallResult R) → Option ℕ → Option ℕ
  left_next (refused r) l = l
  left_next (accepted (laid_out t n)) l = Some n
  left_next (accepted (written t n k)) l = l

  abbrev pub written_of : Answer (CallResult R) → List ℕ → List ℕ
  written_of (refused r) out = []
  written_of (accepted (laid_out t n)) out = []
  written_of (accepted (written t n k)) out = take n out

  -- one call by the contracts, with a rendering call's output that held `out`
  abbrev pub entry_call : Carried R → List ℕ → Call R → Carried R
  entry_call w out (layout_call q) = record {
    store = layout_store q w.layout_state_of w.store;
    marks = w.marks;
    layout_state_of = layout_next (layout_answer q w.layout_state_of w.store) w.layout_state_of;
    render_state_of = w.render_state_of;
    text = w.text;
    left = left_next (layout_answer q w.layout_state_of w.store) w.left;
  }
  entry_call w out (render_call q) = record {
    store = w.store;
    marks = render_marks q w.render_state_of w.store w.marks;
    layout_state_of = w.layout_state_of;
    render_state_of = render_next (render_answer q w.render_state_of w.store w.marks) w.render_state_of;
    text = w.text
        ++ written_of (render_answer q w.render_state_of w.store w.marks) (render_output q w.render_state_of w.store w.marks out);
    left = w.left;
  }
