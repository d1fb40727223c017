-- What an accepted rendering call answers is the state of the rules, and so what is proved of the margin over calls holds of the functions.
-- Assumes nothing.
use mathlib.Core.Path.{◌≡◌, refl, sym, ap, subst, ◌∙◌}
use Rattle.std.specs.Prelude.{Option, None}
use mathlib.Core.Bool.{true}
use mathlib.Core.List.{List, [], ◌∷◌, map}
use Prim.Native.Nat.{ℕ, ◌+◌, ◌-◌, ◌≤◌}
use native.Mathlib.Omega.{arith}
use lib.ListN.{length, replicate}
use Rattle.refusals.specs.Refusals.{Refusal}
use Rattle.refusals.specs.Answers.{Answer, accepted, answer_by}
use Rattle.refusals.proofs.Answers.{accepted_by}
use Rattle.rows.specs.View.{view_of}
use Rattle.rows.specs.Node.{Nodes}
use Rattle.renderer_rules.specs.Renderer.{Page, Renderer, render_nodes}
use Rattle.renderer_rules.proofs.Margin.{renders_kept}
use Rattle.cut_rule.specs.Rules.{Rules}
use Rattle.cut_rule.specs.Run.{CallResult, written}
use Rattle.cut_rule.specs.States as states
use Rattle.cut_rule.specs.Parts.{Drawn}
use Rattle.cut_rule.specs.Callers.{after_all, AllKept}
use Rattle.whole_run.specs.Parts.{page, renderer_of}
use Rattle.whole_run.specs.Built.{FileChoice, render_choice, laid, marks_due}
use Rattle.whole_run.specs.Demands.{rules_of}
use Rattle.stop_facts.specs.Margin.{sum_of, StillOpen, StopsBehind, PenMarginKept, Asked, state_after, state_over, Goes, StayOpen, Finishes}
use Rattle.stop_facts.proofs.MarginOver.{kept_over_calls}
use Rattle.render_call.specs.Calls as render
use Rattle.exports.specs.Numbers.{render_list}
use Rattle.exports.specs.Calls.{state_told}
use Rattle.demands.specs.Linked.{fresh_render_numbers}
use Rattle.demands.specs.Margin.{OverRow, LeavesOpen, RowsKept, Handed, told_handed, Drew, Promised, after_drew, asked_drew}
use Rattle.demands.specs.Margin.{MarginOverCalls, LinkedDrew, LinkedAccepted, after_linked_drew, asked_linked, LinkedMarginOverCalls}
use Rattle.demands.specs.Margin.{AtLeft, DocumentEndsAtMargin, LinkedDocumentEndsAtMargin}
use Rattle.demands.proofs.Demand2.{all_due}
use Rattle.demands.proofs.Linked.{linked_layout, linked_render, states_same}

-- ---- an accepted answer
-- the table lets the call pass, and the state is that of the rules
record StateBy (R : Rules) (o : Option Refusal) (t u : R.RenderState) : Type 0 where
  passes : o ≡ None
  state : t ≡ u

state_by : (R : Rules) (o : Option Refusal) (t : R.RenderState) (n k : ℕ) (u : R.RenderState) (m j : ℕ)
    → ◌≡◌ {A = Answer (CallResult R)} (accepted (written t n k)) (answer_by o (written u m j))
    → StateBy R o t u
state_by R o t n k u m j e =
    let a = accepted_by o (written t n k) (written u m j) e in
    let is = a.is in
    record { passes = a.passes; state = (cc) }

-- ---- a caller whose calls answer by the rules
module _ {W M : Type 0} (s b : List ℕ) (after : W → M → W) (Accepted : W → M → Type 0) (told : W → states.RenderState) (asked : M → Asked) where
  -- one call: the table lets it pass, and it answers the state of the rules
  record ByRules (w : W) (m : M) : Type 0 where
    accepted : (rules_of s b).render_refusal (asked m).args (told w) (asked m).store (asked m).marks ≡ None
    state : told (after w m) ≡ state_after s b (told w) (asked m)

  module _ (by_rules : (w : W) (m : M) → Accepted w m → ByRules w m) where
    goes : (rows : List ℕ) (i : ℕ) (w : W) (m : M) → OverRow s b after Accepted told asked rows i w m → Goes s b rows i (told w) (asked m)
    goes rows i w m o = record { accepted = (by_rules w m o.accepted).accepted; unchanged = o.unchanged }

    -- the states that the calls answer are those over the rules
    same_over : (rows : List ℕ) (i d : ℕ) (w : W) (ms : List M) → AllKept after (LeavesOpen s b after Accepted told asked rows i d) w ms
        → told (after_all after w ms) ≡ state_over s b (told w) (map asked ms)
    same_over rows i d w [] p = refl
    same_over rows i d w (m ∷ ms) p =
        same_over rows i d (after w m) ms p.1
        ∙ ap (λ (z : states.RenderState). state_over s b z (map asked ms)) (by_rules w m p.0.over.accepted).state

    stays : (rows : List ℕ) (i d : ℕ) (w : W) (ms : List M) → AllKept after (LeavesOpen s b after Accepted told asked rows i d) w ms
        → StayOpen s b rows i d (told w) (map asked ms)
    unfolding StayOpen
    stays rows i d w [] p = tt
    stays rows i d w (m ∷ ms) p =
        let e = (by_rules w m p.0.over.accepted).state in (
          goes rows i w m p.0.over,
          subst (StillOpen i d) e p.0.still,
          subst (λ (z : states.RenderState). StayOpen s b rows i d z (map asked ms)) e (stays rows i d (after w m) ms p.1),
        )

    rows_kept : RowsKept s b after Accepted told asked
    rows_kept rows w ms real p =
        let i = (told w).row in
        let d = length (told w).listed in
        let last = after_all after w ms in
        let e : told last ≡ state_over s b (told w) (map asked ms) = same_over rows i d w ms p in
        let k = kept_over_calls s b rows (told w) (map asked ms) real (stays rows i d w ms p) in
        record {
          low = subst (λ (z : states.RenderState). sum_of z.pen ≤ sum_of (told w).pen + (length z.listed - d)) (sym e) k.low;
          finishes =
              λ m o.
              let f : Finishes s b i d (told w).pen (told last) (asked m) =
              subst (λ (z : states.RenderState). (c : Asked) → Goes s b rows i z c → Finishes s b i d (told w).pen z c) (sym e) k.done (asked m)
              (goes rows i last m o) in
              let t = (by_rules last m o.accepted).state in
              record {
                done = f;
                behind =
                    subst
                    (λ (z : states.RenderState). StopsBehind ((view_of (asked m).store).after i) d z → PenMarginKept (told w).pen z.pen)
                    (sym t)
                    f.behind;
              };
        }

-- ---- `render_call::render_call`
drew_by : (s b : List ℕ) (w : Handed) (c : Drew) → Promised s b w c → ByRules s b after_drew (Promised s b) told_handed asked_drew w c
drew_by s b w c p =
    let x = state_by (rules_of s b) _ (render.to_state c.written.state c.listed2) c.written.bytes.0 c.written.entered _ _ _ p.answer in
    record { accepted = x.passes; state = x.state }

pub margin_over_calls : MarginOverCalls
margin_over_calls s b = rows_kept s b after_drew (Promised s b) told_handed asked_drew (drew_by s b)

-- ---- `rrufthim_render`
linked_by : (s b state : List ℕ) (c : LinkedDrew) → LinkedAccepted s b state c
    → ByRules s b after_linked_drew (LinkedAccepted s b) state_told asked_linked state c
linked_by s b state c p =
    let q = linked_render s b c.store c.marks c.output state c.args c.out c.store2 c.marks2 c.output2 c.out2 p.size p.promised p.accepted in
    let x = state_by (rules_of s b) _ _ _ _ _ _ _ q.answer in
    let same = states_same s b c.store c.marks c.output state c.args c.out c.store2 c.marks2 c.output2 c.out2 p.size p.promised p.accepted in
    record { accepted = x.passes; state = same.same ∙ x.state }

pub linked_margin_over_calls : LinkedMarginOverCalls
linked_margin_over_calls s b = rows_kept s b after_linked_drew (LinkedAccepted s b) state_told asked_linked (linked_by s b)

-- ---- a whole document
ends_left : (ns : Nodes) (pg : Page) (r : Renderer) → r.pen.indent + r.pen.next_indent ≡ 0 → AtLeft (render_nodes pg ns true r).pen
ends_left ns pg r e = let k = (renders_kept ns pg true r).sum in record { indent = omega arith; next_indent = omega arith }

pub document_ends_at_margin : DocumentEndsAtMargin
document_ends_at_margin archive s b store mode rule t left store2 p width allotment enough marks out listed u n count store3 marks2 out2 listed2 q =
    let c : FileChoice = record { width = width; mode = mode; rule = rule } in
    let x = state_by (rules_of s b) _ (render.to_state u listed2) n.0 count _ _ _ q.answer in
    let gives = all_due archive s b store mode rule t left store2 p width allotment enough listed in
    let pen = ap (λ (z : states.RenderState). z.pen) x.state ∙ ap (λ (d : Drawn). d.pen) gives in
    subst AtLeft (sym pen)
    (ends_left (laid s b c) (page (render_choice c) s b) (renderer_of states.render_fresh.pen (replicate (marks_due s b c) 0)) refl)

pub linked_document_ends_at_margin : LinkedDocumentEndsAtMargin
linked_document_ends_at_margin archive s b store mode rule out store2 out2 h p e width allotment enough marks output out3 store3 marks2 output2 out4 k q f =
    let laid_out_lem = linked_layout archive s b store _ _ out store2 out2 h p e in
    document_ends_at_margin archive s b store mode rule _ _ store2 laid_out_lem width allotment enough marks output (render_list fresh_render_numbers) _ _ _
    store3 marks2 output2 _ (linked_render s b store2 marks output _ _ out3 store3 marks2 output2 out4 k q f)
