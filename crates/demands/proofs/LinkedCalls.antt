-- Linked calls that keep their promises make the run of the cut rule.
-- Assumes nothing.
use mathlib.Core.Path.{◌≡◌, refl, sym, ap, ap₂, subst, ◌∙◌}
use mathlib.Core.Bool.{Bool, true, false, cond}
use Rattle.std.specs.Prelude.{None, Some, Result, Ok, Err}
use mathlib.Core.List.{List, [], ◌∷◌, ◌++◌, map, append-nil}
use Prim.Native.Nat.{ℕ}
use lib.Dec.{eqb}
use lib.ListN.{get_or, take, drop}
use borrow.Author.Tests.{eqb-true}
use Rattle.refusals.specs.Answers.{Answer, accepted}
use Rattle.refusals.specs.declared.Refused.{Refused}
use Rattle.image.specs.Read.{read_earlier}
use Rattle.cut_rule.specs.Rules.{Rules}
use Rattle.cut_rule.specs.Run.{write_front, CallResult, written, Carried, start, call, run, answer, answers}
use Rattle.cut_rule.specs.Plain.{AllReadLaid}
use Rattle.cut_rule.proofs.Answers.{all_held}
use Rattle.cut_rule.specs.Callers.{after_all, AllKept}
use Rattle.cut_rule.specs.States as states
use Rattle.cut_rule.specs.States.{NEW_MODE}
use Rattle.whole_run.specs.Demands.{rules_of}
use Rattle.whole_run.specs.Foot.{HoldsAll}
use Rattle.whole_run.proofs.Demands.{rules_cut}
use Rattle.whole_run.proofs.Foot.{closed_holds_all}
use Rattle.layout_call.specs.Calls as layout
use Rattle.render_call.specs.declared.Written.{Written}
use Rattle.render_call.specs.Calls as render
use Rattle.exports.specs.Numbers.{layout_state, layout_args, render_state, render_list, render_args}
use Rattle.exports.specs.Calls.{state_told}
use Rattle.demands.specs.Demand3.{Caller, Made, Promised, after_made, answer_made, held}
use Rattle.demands.specs.Demand3 as made
use Rattle.demands.specs.Linked.{reason_of, laying_from, rendering_from}
use Rattle.demands.specs.Linked.{told_state, list_after, fresh_render_numbers}
use Rattle.demands.specs.Linked.{Holder, fresh_holder, LinkedCall, laid, rendered, LinkedPromised}
use Rattle.demands.specs.Linked.{after_linked, call_linked, held_linked, made_linked, LinkedCut, Linked3, LinkedCallsHoldAll}
use Rattle.demands.proofs.Demand3.{one_held, held_as_due}
use Rattle.demands.proofs.Fresh.{fresh_state}
use Rattle.demands.proofs.Linked.{linked_promises, SameState, states_same}

abbrev caller_of : Holder → Caller
caller_of w = record {
  store = w.store;
  marks = w.marks;
  layout_state_of = layout_state w.layout_state_of;
  render_state_of = render_state w.render_state_of;
  listed = render_list w.render_state_of;
  text = w.text;
  left = w.left;
}

-- the call with the list as the function in Rattle leaves it
abbrev made_by : Holder → LinkedCall → Made
made_by w (laid archive args out store2 out2) = made.laid (layout_args archive args) (laying_from out2) store2
made_by w (rendered args output out store2 marks2 output2 out2) =
    made.rendered (render_args args) output (rendering_from out2) store2 marks2 output2 (list_after w.render_state_of out2)

module _ (s b : List ℕ) where
  promised : (w : Holder) (m : LinkedCall) → LinkedPromised s b w m → Promised s b (caller_of w) (made_by w m)
  promised w (laid archive args out store2 out2) p = linked_promises.layout archive s b w.store w.layout_state_of args out store2 out2 p.0 p.1
  promised w (rendered args output out store2 marks2 output2 out2) p =
      linked_promises.render s b w.store w.marks output w.render_state_of args out store2 marks2 output2 out2 p.0 p.1

  -- what is held after a call is what a caller in Rattle holds
  after_laid : (w : Holder) (archive : Bool) (args out store2 out2 : List ℕ)
      → held_linked s b (after_linked w (laid archive args out store2 out2))
      ≡ held s b (after_made (caller_of w) (made_by w (laid archive args out store2 out2)))
  after_laid w archive args out store2 out2 = go (eqb (get_or out2 0 0) 0)
    where
      new : List ℕ
      new = take 9 (drop 2 out2)

      told : Refused
      told = record { reason = reason_of (get_or out2 0 0); place = get_or out2 1 0 }

      go : (x : Bool)
          → held_linked s b (record {
            store = store2;
            marks = w.marks;
            layout_state_of = cond x new w.layout_state_of;
            render_state_of = w.render_state_of;
            text = w.text;
            left = cond x (Some (get_or out2 1 0)) w.left;
          })
          ≡ held s b
          (after_made (caller_of w)
          (made.laid (layout_args archive args) (cond x (Ok (record { state = layout_state new; left = get_or out2 1 0 })) (Err told)) store2))
      go true = refl
      go false = refl

  after_rendered : (w : Holder) (args output out store2 marks2 output2 out2 : List ℕ)
      → (get_or out2 0 0 ≡ 0 → SameState w.render_state_of out2)
      → held_linked s b (after_linked w (rendered args output out store2 marks2 output2 out2))
      ≡ held s b (after_made (caller_of w) (made_by w (rendered args output out store2 marks2 output2 out2)))
  after_rendered w args output out store2 marks2 output2 out2 h = go (eqb (get_or out2 0 0) 0) refl
    where
      new : List ℕ
      new = told_state out2

      old : List ℕ
      old = render_list w.render_state_of

      rows : List ℕ
      rows = write_front (take (get_or out2 10 0) (drop 11 out2)) old

      answer : Bool → Result Written Refused
      answer x =
          cond x (Ok (record { state = render_state new; bytes = record { 0 = get_or out2 1 0 }; entered = get_or out2 2 0 }))
          (Err (record { reason = reason_of (get_or out2 0 0); place = get_or out2 1 0 }))

      hold : states.RenderState → List ℕ → Carried (rules_of s b)
      hold z t = record {
        store = store2;
        marks = marks2;
        layout_state_of = layout.to_state (layout_state w.layout_state_of);
        render_state_of = z;
        text = t;
        left = w.left;
      }

      go : (x : Bool) → eqb (get_or out2 0 0) 0 ≡ x
          → held_linked s b (record {
            store = store2;
            marks = marks2;
            layout_state_of = w.layout_state_of;
            render_state_of = cond x new w.render_state_of;
            text = w.text ++ cond x (take (get_or out2 1 0) output2) [];
            left = w.left;
          })
          ≡ held s b (after_made (caller_of w) (made.rendered (render_args args) output (answer x) store2 marks2 output2 (cond x rows old)))
      go true e =
          ap (λ (z : states.RenderState). hold z (w.text ++ take (get_or out2 1 0) output2))
          ((h (eqb-true (get_or out2 0 0) 0 e)).same
          ∙ ap (λ (x : Bool). render.to_state (render_state new) (cond x rows old)) e)
      go false e = ap (hold (state_told w.render_state_of)) (append-nil w.text)

  -- so a linked call is a call
  one_linked : (w : Holder) (m : LinkedCall) → LinkedPromised s b w m
      → held_linked s b (after_linked w m) ≡ call (rules_of s b) (held_linked s b w) (call_linked s b m)
  one_linked w (laid archive args out store2 out2) p =
      after_laid w archive args out store2 out2
      ∙ one_held s b (caller_of w) (made_by w (laid archive args out store2 out2)) (promised w (laid archive args out store2 out2) p)
  one_linked w (rendered args output out store2 marks2 output2 out2) p =
      after_rendered w args output out store2 marks2 output2 out2
      (states_same s b w.store w.marks output w.render_state_of args out store2 marks2 output2 out2 p.0 p.1)
      ∙ one_held s b (caller_of w) (made_by w (rendered args output out store2 marks2 output2 out2))
      (promised w (rendered args output out store2 marks2 output2 out2) p)

  -- and its answer, with the list that its numbers tell, is that call's
  same_answer : (state out2 : List ℕ) → (get_or out2 0 0 ≡ 0 → SameState state out2)
      → render.rendering_answer s b (render_list (told_state out2)) (rendering_from out2)
      ≡ render.rendering_answer s b (list_after state out2) (rendering_from out2)
  same_answer state out2 h = go (eqb (get_or out2 0 0) 0) refl
    where
      told : Written
      told = record { state = render_state (told_state out2); bytes = record { 0 = get_or out2 1 0 }; entered = get_or out2 2 0 }

      why : Refused
      why = record { reason = reason_of (get_or out2 0 0); place = get_or out2 1 0 }

      go : (x : Bool) → eqb (get_or out2 0 0) 0 ≡ x
          → render.rendering_answer s b (render_list (told_state out2)) (cond x (Ok told) (Err why))
          ≡ render.rendering_answer s b (list_after state out2) (cond x (Ok told) (Err why))
      go true e =
          ap (λ (z : states.RenderState). accepted (written z (get_or out2 1 0) (get_or out2 2 0))) (h (eqb-true (get_or out2 0 0) 0 e)).same
      go false e = refl

  one_told : (w : Holder) (m : LinkedCall) → LinkedPromised s b w m
      → answer_made s b (made_linked m) ≡ answer (rules_of s b) (held_linked s b w) (call_linked s b m)
  one_told w (laid archive args out store2 out2) p = (promised w (laid archive args out store2 out2) p).answer
  one_told w (rendered args output out store2 marks2 output2 out2) p =
      same_answer w.render_state_of out2 (states_same s b w.store w.marks output w.render_state_of args out store2 marks2 output2 out2 p.0 p.1)
      ∙ (promised w (rendered args output out store2 marks2 output2 out2) p).answer

  all_told : (w : Holder) (ms : List LinkedCall) → AllKept after_linked (LinkedPromised s b) w ms
      → map (λ m. answer_made s b (made_linked m)) ms ≡ answers (rules_of s b) (held_linked s b w) (map (call_linked s b) ms)
  all_told w [] p = refl
  all_told w (m ∷ ms) p =
      ap₂ (λ (x : Answer (CallResult (rules_of s b))) (xs : List (Answer (CallResult (rules_of s b)))). x ∷ xs) (one_told w m p.0)
      (all_told (after_linked w m) ms p.1
      ∙ ap (λ (v : Carried (rules_of s b)). answers (rules_of s b) v (map (call_linked s b) ms)) (one_linked w m p.0))

  -- linked calls that keep their promises make the run of the rules
  module _ (store₀ marks₀ : List ℕ) (calls : List LinkedCall) (p : AllKept after_linked (LinkedPromised s b) (fresh_holder store₀ marks₀) calls) where
    abbrev R : Rules
    R = rules_of s b

    -- a fresh holder is where the run starts
    fresh_linked : held_linked s b (fresh_holder store₀ marks₀) ≡ start R store₀ marks₀
    fresh_linked =
        ap (λ (z : states.RenderState). record {
          store = store₀;
          marks = marks₀;
          layout_state_of = states.layout_fresh;
          render_state_of = z;
          text = [];
          left = None;
        })
        (fresh_state (render_list fresh_render_numbers))

    pub linked_run : held_linked s b (after_all after_linked (fresh_holder store₀ marks₀) calls) ≡ run R (start R store₀ marks₀) (map (call_linked s b) calls)
    linked_run =
        all_held R after_linked (LinkedPromised s b) (held_linked s b) (call_linked s b) one_linked (fresh_holder store₀ marks₀) calls p
        ∙ ap (λ (v : Carried R). run R v (map (call_linked s b) calls)) fresh_linked

    linked_cut : AllReadLaid R (start R store₀ marks₀) (map (call_linked s b) calls) → LinkedCut s b store₀ marks₀ calls
    linked_cut h =
        let rule = rules_cut (read_earlier s b) s b store₀ marks₀ (map (call_linked s b) calls) h in
        record {
          as_due = held_as_due s b store₀ marks₀ (map (call_linked s b) calls) _ linked_run rule;
          answered =
              all_told (fresh_holder store₀ marks₀) calls p
              ∙ ap (λ (v : Carried R). answers R v (map (call_linked s b) calls)) fresh_linked
              ∙ rule.answered;
        }

    linked_holds : (layout_state (after_all after_linked (fresh_holder store₀ marks₀) calls).layout_state_of).closed ≡ true
        → (layout_state (after_all after_linked (fresh_holder store₀ marks₀) calls).layout_state_of).mode ≡ NEW_MODE
        → HoldsAll s b (held_linked s b (after_all after_linked (fresh_holder store₀ marks₀) calls))
    linked_holds closed new =
        let e = linked_run in
        subst (HoldsAll s b) (sym e)
        (closed_holds_all s b store₀ marks₀ (map (call_linked s b) calls)
        (ap (λ (v : Carried R). v.layout_state_of.closed) (sym e) ∙ closed)
        (ap (λ (v : Carried R). v.layout_state_of.mode) (sym e) ∙ new))

pub linked_3 : Linked3
linked_3 s b store₀ marks₀ calls p h = linked_cut s b store₀ marks₀ calls p h

pub linked_calls_hold_all : LinkedCallsHoldAll
linked_calls_hold_all s b store₀ marks₀ calls p closed new = linked_holds s b store₀ marks₀ calls p closed new
