-- Calls that keep their promises make the run of the cut rule.
-- Assumes nothing.
use mathlib.Core.Path.{◌≡◌, refl, sym, ap, ap₂, subst, ◌∙◌}
use mathlib.Core.List.{List, [], ◌∷◌, map, append-nil}
use Prim.Native.Nat.{ℕ}
use lib.ListN.{length}
use Rattle.refusals.specs.Answers.{Answer}
use Rattle.image.specs.Read.{read_earlier}
use Rattle.image.proofs.Earlier.{none_either}
use Rattle.cut_rule.specs.Run.{Call, Carried, CallResult, layout_call, render_call, start, call, run, answer, answers}
use Rattle.cut_rule.specs.Entries.{entry_call}
use Rattle.cut_rule.specs.CutRule.{CommentsKept, CommentsAhead, CutRule}
use Rattle.cut_rule.specs.Callers.{after_all, AllKept}
use Rattle.cut_rule.proofs.Entries.{entries_are_calls}
use Rattle.cut_rule.proofs.Answers.{laid_by, all_held}
use mathlib.Core.Bool.{false}
use Rattle.std.specs.Prelude.{None, Result, Ok, Err}
use Rattle.refusals.specs.Refusals.{any, refuse_if}
use Rattle.refusals.specs.Reasons.{refusal}
use Rattle.refusals.proofs.Answers.{refused_by}
use Rattle.refusals.proofs.Groups.{passes_left, passes_line, passes_others, not_if}
use Rattle.cut_rule.specs.States as states
use Rattle.cut_rule.specs.Parts.{rule_line, layout_tests, before_rows, rows_line, laid_of}
use Rattle.whole_run.specs.Parts.{other_rule, listed, parts_of}
use Rattle.whole_run.specs.Demands.{rules_of}
use Rattle.whole_run.specs.Foot.{HoldsAll}
use Rattle.whole_run.proofs.Demands.{rules_cut}
use Rattle.whole_run.proofs.Foot.{closing_places_all, closed_holds_all}
use Rattle.layout_call.specs.declared.LayoutArgs.{LayoutArgs}
use Rattle.layout_call.specs.declared.Laid.{Laid}
use Rattle.refusals.specs.declared.Refused.{Refused}
use Rattle.layout_call.specs.Calls as layout
use Rattle.layout_call.specs.Whole.{LayoutCalled}
use Rattle.render_call.specs.declared.RenderArgs.{RenderArgs}
use Rattle.render_call.specs.declared.Written.{Written}
use Rattle.render_call.specs.Calls as render
use Rattle.render_call.specs.Whole.{RenderCalled}
use Rattle.demands.proofs.Demand1.{left_same}
use Rattle.demands.proofs.Fresh.{fresh_state}
use Rattle.demands.specs.Demand3.{Caller, fresh_caller, Made, laid, rendered, Promised, after_made, call_made}
use Rattle.demands.specs.Demand3.{answer_made, held, HeldAsDue, Demand3, CallsHoldAll, ClosingLeavesNone}

module _ (s b : List ℕ) where
  -- one call
  layout_held : (w : Caller) (args : LayoutArgs) (r : Result Laid Refused) (store2 : List ℕ) → LayoutCalled s b w.layout_state_of args w.store r store2
      → held s b (after_made w (laid args r store2)) ≡ entry_call (rules_of s b) (held s b w) [] (layout_call (layout.to_args args))
  layout_held w args (Ok t) store2 p = rw (sym p.answer, p.store_left_of)
  layout_held w args (Err q) store2 p = rw (sym p.answer, p.store_left_of)

  abbrev with_text : Carried (rules_of s b) → List ℕ → Carried (rules_of s b)
  with_text v t = record { store = v.store; marks = v.marks; layout_state_of = v.layout_state_of; render_state_of = v.render_state_of; text = t; left = v.left }

  -- a refused call leaves the list as it was
  render_held : (w : Caller) (args : RenderArgs) (out : List ℕ) (r : Result Written Refused) (store2 marks2 out2 listed2 : List ℕ)
      → RenderCalled s b (render.to_state w.render_state_of w.listed) args w.store w.marks out w.listed r store2 marks2 out2 listed2
      → held s b (after_made w (rendered args out r store2 marks2 out2 listed2))
      ≡ entry_call (rules_of s b) (held s b w) out (render_call (render.to_args args (length out)))
  render_held w args out (Ok t) store2 marks2 out2 listed2 p = rw (sym p.answer, p.store_left_of, p.marks_left_of, p.output_left_of)
  render_held w args out (Err q) store2 marks2 out2 listed2 p =
      let same : listed2 ≡ w.listed = p.list_left_of ∙ left_same _ (refusal q) w.listed _ (refused_by _ _ (refusal q) p.answer) in
      ap (λ (l : List ℕ). held s b (after_made w (rendered args out (Err q) store2 marks2 out2 l))) same
      ∙ ap (with_text (held s b (after_made w (rendered args out (Err q) store2 marks2 out2 w.listed)))) (sym (append-nil w.text))
      ∙ rw (sym p.answer, p.store_left_of, p.marks_left_of)

  pub one_held : (w : Caller) (m : Made) → Promised s b w m → held s b (after_made w m) ≡ call (rules_of s b) (held s b w) (call_made s b m)
  one_held w (laid args r store2) p = layout_held w args r store2 p ∙ entries_are_calls (rules_of s b) (held s b w) [] (layout_call (layout.to_args args))
  one_held w (rendered args out r store2 marks2 out2 listed2) p =
      render_held w args out r store2 marks2 out2 listed2 p ∙ entries_are_calls (rules_of s b) (held s b w) out (render_call (render.to_args args (length out)))

  one_answer : (w : Caller) (m : Made) → Promised s b w m → answer_made s b m ≡ answer (rules_of s b) (held s b w) (call_made s b m)
  one_answer w (laid args r store2) p = p.answer
  one_answer w (rendered args out r store2 marks2 out2 listed2) p = p.answer

  -- the list
  all_answers : (w : Caller) (ms : List Made) → AllKept after_made (Promised s b) w ms
      → map (answer_made s b) ms ≡ answers (rules_of s b) (held s b w) (map (call_made s b) ms)
  all_answers w [] p = refl
  all_answers w (m ∷ ms) p =
      ap₂ (λ (x : Answer (CallResult (rules_of s b))) (xs : List (Answer (CallResult (rules_of s b)))). x ∷ xs) (one_answer w m p.0)
      (all_answers (after_made w m) ms p.1 ∙ ap (λ (v : Carried (rules_of s b)). answers (rules_of s b) v (map (call_made s b) ms)) (one_held w m p.0))

-- the cut rule, of what is held after calls that make the run
pub held_as_due : (s b store₀ marks₀ : List ℕ) (calls : List (Call (rules_of s b))) (v : Carried (rules_of s b))
    → v ≡ run (rules_of s b) (start (rules_of s b) store₀ marks₀) calls → CutRule (rules_of s b) (listed s b) store₀ marks₀ calls
    → HeldAsDue s b store₀ marks₀ calls v
held_as_due s b store₀ marks₀ calls v e rule = record {
  same = e ∙ rule.same;
  comments =
      λ n f.
      subst (λ (x : Carried (rules_of s b)). CommentsKept (rules_of s b) (listed s b) x n) (sym e)
      (rule.comments n (ap (λ (x : Carried (rules_of s b)). x.left) (sym e) ∙ f));
  ahead = subst (λ (x : Carried (rules_of s b)). CommentsAhead (rules_of s b) (listed s b) x) (sym e) rule.ahead;
}

-- a fresh caller is where the run starts
fresh_held : (s b store₀ marks₀ listed₀ : List ℕ) → held s b (fresh_caller store₀ marks₀ listed₀) ≡ start (rules_of s b) store₀ marks₀
fresh_held s b store₀ marks₀ listed₀ =
    ap (λ (z : states.RenderState). record {
      store = store₀;
      marks = marks₀;
      layout_state_of = states.layout_fresh;
      render_state_of = z;
      text = [];
      left = None;
    })
    (fresh_state listed₀)

-- calls that keep their promises make the run of the rules
pub made_run : (s b store₀ marks₀ listed₀ : List ℕ) (made : List Made) → AllKept after_made (Promised s b) (fresh_caller store₀ marks₀ listed₀) made
    → held s b (after_all after_made (fresh_caller store₀ marks₀ listed₀) made) ≡ run (rules_of s b) (start (rules_of s b) store₀ marks₀)
    (map (call_made s b) made)
made_run s b store₀ marks₀ listed₀ made p =
    all_held (rules_of s b) after_made (Promised s b) (held s b) (call_made s b) (one_held s b) (fresh_caller store₀ marks₀ listed₀) made p
    ∙ ap (λ (v : Carried (rules_of s b)). run (rules_of s b) v (map (call_made s b) made)) (fresh_held s b store₀ marks₀ listed₀)

pub demand_3 : Demand3
demand_3 s b store₀ marks₀ listed₀ made p h =
    let w = fresh_caller store₀ marks₀ listed₀ in
    let rule = rules_cut (read_earlier s b) s b store₀ marks₀ (map (call_made s b) made) h in
    record {
      as_due =
          held_as_due s b store₀ marks₀ (map (call_made s b) made) _ (made_run s b store₀ marks₀ listed₀ made p) rule;
      answered =
          all_answers s b w made p
          ∙ ap (λ (v : Carried (rules_of s b)). answers (rules_of s b) v (map (call_made s b) made)) (fresh_held s b store₀ marks₀ listed₀)
          ∙ rule.answered;
    }

pub calls_hold_all : CallsHoldAll
calls_hold_all s b store₀ marks₀ listed₀ made p closed new =
    let e = made_run s b store₀ marks₀ listed₀ made p in
    subst (HoldsAll s b) (sym e)
    (closed_holds_all s b store₀ marks₀ (map (call_made s b) made)
    (ap (λ (v : Carried (rules_of s b)). v.layout_state_of.closed) (sym e) ∙ closed)
    (ap (λ (v : Carried (rules_of s b)). v.layout_state_of.mode) (sym e) ∙ new))

pub closing_leaves_none : ClosingLeavesNone
closing_leaves_none s b state args store t left store2 p closes new =
    let q = layout.to_args args in
    let z = layout.to_state state in
    let P = parts_of s b in
    let given = laid_of P z q in
    let laid_out_lem = laid_by (rules_of s b) ((rules_of s b).layout_refusal q z store) (layout.to_state t) left given.state given.left p.answer in
    let lines = passes_left (before_rows P q z store) (rows_line P q z store) laid_out_lem.passes in
    let twelve = refuse_if (any (layout_tests P q z store)) 12 0 in
    let image = P.layout_image args.archive in
    let reads = passes_others (rule_line (other_rule b args.rule) args.rule) (image ∷ twelve ∷ []) lines in
    let read = none_either args.archive s b (passes_line image (twelve ∷ []) reads) in
    let tests : any (layout_tests P q z store) ≡ false =
    not_if (any (layout_tests P q z store)) 12 0 (passes_line twelve [] (passes_others image (twelve ∷ []) reads))
    in
    let all = closing_places_all s b store q z read tests closes new in
    record {
      none_left = laid_out_lem.left ∙ all.left;
      placed = ap (λ (x : states.LayoutState). x.cursor.placed) laid_out_lem.state ∙ all.placed;
      position = ap (λ (x : states.LayoutState). x.cursor.position) laid_out_lem.state ∙ all.position;
    }
