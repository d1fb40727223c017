-- From what the calls ensure to what the file's run answers and leaves.
-- Assumes nothing.
use mathlib.Core.Path.{◌≡◌, sym, ap, ap₂, ◌∙◌}
use mathlib.Core.Bool.{Bool, true, false, not}
use Rattle.std.specs.Prelude.{Option, None, Some, Result, Ok, Err}
use mathlib.Core.List.{List, [], ◌∷◌}
use Prim.Native.Nat.{ℕ, ◌*◌, ◌-◌, ◌≤◌, ◌<◌}
use native.Mathlib.Omega.{arith}
use borrow.Author.Tests.{lt-ltb, le-ltb, not-true, not-false}
use lib.Dec.{ltb, eqb}
use lib.ListN.{length, take, drop}
use lib.Seq.{sets, take_all}
use Rattle.image.specs.Read.{read_all, read_refusal, outcome}
use Rattle.image.proofs.Answers.{read_refusal_lem}
use Rattle.rows.specs.Rows.{rows}
use Rattle.refusals.specs.Refusals.{Refusal, unless, first, refuse_if, any}
use Rattle.refusals.specs.Answers.{refused, accepted, answer_by, refusal_of}
use Rattle.refusals.specs.Reasons.{refusal}
use Rattle.refusals.specs.declared.Refused.{Refused}
use Rattle.refusals.specs.declared.Reason.TheVariants as reason
use Rattle.refusals.proofs.Answers.{refused_by}
use Rattle.refusals.proofs.Groups.{passes_right}
use Rattle.cut_rule.specs.Run.{laid_out, written, write_front}
use Rattle.cut_rule.specs.Entries.{layout_answer, layout_store, render_answer, render_marks, render_output}
use Rattle.cut_rule.specs.States as states
use Rattle.cut_rule.specs.Tests as tests
use Rattle.cut_rule.specs.Rules as rules
use Rattle.cut_rule.specs.States.{layout_fresh, render_fresh}
use Rattle.cut_rule.specs.Limits.{MAX_ALLOTMENT}
use Rattle.cut_rule.specs.Parts.{read_from, with_cleared, rule_line, width_line, before_rows, rows_line, before_marks}
use Rattle.cut_rule.proofs.Answers.{LaidBy, laid_by, written_by}
use Rattle.whole_run.specs.Parts.{other_rule, keeps_waiting, parts_of, widest_drawn}
use Rattle.whole_run.specs.Built.{FileChoice, layout_choice, render_choice, tree, declared, built, rows_due, drawn_due, column_due}
use Rattle.whole_run.specs.Demands.{rules_of, closing_at}
use Rattle.whole_run.specs.File.{mode_line, file_rows, file_marks, file_before_rows, file_rows_line, laid_refusal, refusal_in, file_refusal, file_result}
use Rattle.whole_run.specs.File.{store_left, marks_left, output_left}
use Rattle.whole_run.proofs.FileTable.{stops_laid, stops_whole}
use Rattle.whole_run.proofs.File.{state_due, rendered_due, entered_due, layout_answer_due, layout_store_due}
use Rattle.whole_run.proofs.File.{render_early_due, render_answer_due, render_marks_due, render_output_due, render_widest_due}
use Rattle.layout_call.specs.Calls as layouts
use Rattle.layout_call.proofs.WholeFile.{whole_left}
use Rattle.layout_call.specs.Whole.{LaidAtOnce}
use Rattle.layout_call.specs.declared.LayoutState.{LayoutState}
use Rattle.layout_call.specs.declared.LayoutArgs.{LayoutArgs}
use Rattle.layout_call.specs.declared.Laid.{Laid}
use Rattle.render_call.specs.Calls as renders
use Rattle.render_call.specs.Whole.{Checked, Draws}
use Rattle.render_call.specs.declared.RenderState.{RenderState}
use Rattle.render_call.specs.declared.RenderArgs.{RenderArgs}
use Rattle.render_call.specs.declared.Drawn.{Drawn}
use Rattle.file.specs.Whole.{store_by, store_run, RunsFile, Formats, FormatsLent}

-- what refuses the choice
abbrev pub mode_refusal : Refused
mode_refusal = record { reason = reason.State; place = 0 }

abbrev pub width_refusal : Refused
width_refusal = record { reason = reason.Width; place = 0 }

-- a state whose fields are all their types' defaults
pub fresh_by : {t : LayoutState}
    → (t.begun ≡ false)
    × ((t.closed ≡ false)
    × ((t.declaration ≡ 0) × ((t.row ≡ 0) × ((t.number ≡ 0) × ((t.placed ≡ 0) × ((t.position ≡ 0) × ((t.mode ≡ 0) × (t.rule ≡ 0))))))))
    → layouts.to_state t ≡ layout_fresh
fresh_by {t} h = cc

module _ (s b : List ℕ) (c : FileChoice) where
  abbrev width_legal : Option Refusal
  width_legal = width_line (render_choice c) render_fresh

  -- ---- refused by the first lines
  pub stops_first : (out : List ℕ) (r : Refused) → first (file_before_rows s b c) ≡ Some (refusal r) → Formats s b c out (Err r) out
  stops_first out r first_one =
      let t : file_refusal s b c (length out) ≡ Some (refusal r) =
      stops_whole s b c (refusal r) file_rows file_marks (length out) (stops_laid s b c (refusal r) file_rows first_one)
      in
      record {
        answer = sym (ap (λ (x : Option Refusal). answer_by x (file_result s b c)) t);
        output_left_of = sym (ap (λ (x : Option Refusal). unless x out (write_front (drawn_due s b c).text out)) t);
      }

  -- the same with rows and marks that are lent
  pub stops_lent : (store marks out : List ℕ) (r : Refused) → first (file_before_rows s b c) ≡ Some (refusal r)
      → FormatsLent s b c store marks out (Err r) store marks out
  stops_lent store marks out r first_one =
      let laid = stops_laid s b c (refusal r) (tests.rows_in store) first_one in
      let t = stops_whole s b c (refusal r) (tests.rows_in store) (length marks) (length out) laid in
      record {
        formats = stops_first out r first_one;
        store_left_of = sym (ap (λ (x : Option Refusal). store_by s b c store x (first (file_rows_line s b c (tests.rows_in store)))) first_one);
        marks_left_of = sym (ap (λ (x : Option Refusal). unless x marks (write_front (drawn_due s b c).marks marks)) t);
      }

  -- 20
  pub rule_refused : (r : Refused) → Some (refusal r) ≡ rule_line (other_rule b c.rule) c.rule → first (file_before_rows s b c) ≡ Some (refusal r)
  rule_refused r e = ap (λ (x : Option Refusal). first (x ∷ read_refusal (read_all s b) ∷ mode_line c ∷ width_legal ∷ [])) (sym e)

  -- 1 to 7
  pub check_refused : rule_line (other_rule b c.rule) c.rule ≡ None → (r : Refused) → outcome (read_all s b) ≡ refused (refusal r)
      → first (file_before_rows s b c) ≡ Some (refusal r)
  check_refused ruled r e =
      let unread : read_refusal (read_all s b) ≡ Some (refusal r) = sym (read_refusal_lem (read_all s b)) ∙ ap refusal_of e in
      λ i. first (ruled i ∷ unread i ∷ mode_line c ∷ width_legal ∷ [])

  -- ---- then what is chosen, line by line
  module _ (ruled : rule_line (other_rule b c.rule) c.rule ≡ None) (read : read_refusal (read_all s b) ≡ None) where
    -- 12
    pub mode_refused : states.NEW_MODE < c.mode → first (file_before_rows s b c) ≡ Some (refusal mode_refusal)
    mode_refused h =
        let over : mode_line c ≡ Some (refusal mode_refusal) = rw (lt-ltb states.NEW_MODE c.mode h) in
        λ i. first (ruled i ∷ read i ∷ over i ∷ width_legal ∷ [])

    module _ (mode : c.mode ≤ states.NEW_MODE) (x : Bool) (fits : x ≡ not (any (tests.width_tests c.width 0))) where
      moded : mode_line c ≡ None
      moded = rw (le-ltb states.NEW_MODE c.mode mode)

      -- 15
      pub width_refused : not x ≡ true → first (file_before_rows s b c) ≡ Some (refusal width_refusal)
      width_refused h =
          let t : any (tests.width_tests c.width 0) ≡ true = not-false (any (tests.width_tests c.width 0)) (sym fits ∙ not-true x h) in
          λ i. first (ruled i ∷ read i ∷ moded i ∷ refuse_if (t i) 15 0 ∷ [])

      -- neither
      pub choice_passes : not x ≡ false → first (file_before_rows s b c) ≡ None
      choice_passes h =
          let t : any (tests.width_tests c.width 0) ≡ false = not-true (any (tests.width_tests c.width 0)) (sym fits ∙ not-false x h) in
          λ i. first (ruled i ∷ read i ∷ moded i ∷ refuse_if (t i) 15 0 ∷ [])

  -- ---- the two calls
  module _ (store marks out : List ℕ) where
    abbrev table : Option Refusal
    table = refusal_in s b c (tests.rows_in store) (length marks) (length out)

    abbrev laid : Option Refusal
    laid = laid_refusal s b c (tests.rows_in store)

    -- refused by the layout call, or before it
    laid_refused : (why : Refused) (store2 : List ℕ) → laid ≡ Some (refusal why) → store2 ≡ store_run s b c store
        → RunsFile s b c store marks out (Err why) store2 marks out
    laid_refused why store2 e stored =
        let r = stops_whole s b c (refusal why) (tests.rows_in store) (length marks) (length out) e in
        record {
          answer = sym (ap (λ (x : Option Refusal). answer_by x (file_result s b c)) r);
          widest = sym (ap (λ (x : Option Refusal). unless x 0 (column_due s b c)) r);
          store_left_of = stored;
          marks_left_of = sym (ap (λ (x : Option Refusal). unless x marks (write_front (drawn_due s b c).marks marks)) r);
          output_left_of = sym (ap (λ (x : Option Refusal). unless x out (write_front (drawn_due s b c).text out)) r);
        }

    -- refused before the layout call
    pub before_layout : (why : Refused) → first (file_before_rows s b c) ≡ Some (refusal why) → RunsFile s b c store marks out (Err why) store marks out
    before_layout why e =
        laid_refused why store (stops_laid s b c (refusal why) (tests.rows_in store) e)
        (sym (ap (λ (x : Option Refusal). store_by s b c store x (first (file_rows_line s b c (tests.rows_in store)))) e))

    -- ---- the layout call, where none of these lines refuses
    module _ (passed : first (file_before_rows s b c) ≡ None) (state : LayoutState) (q : LayoutArgs) (r : Result Laid Refused) (store2 : List ℕ)
        (fresh : layouts.to_state state ≡ layout_fresh) (all : layouts.to_args q ≡ closing_at (layout_choice c) (length (declared s b)))
        (call : LaidAtOnce s b state q store r store2) where
      layout_answer_lem : layouts.laying_answer s b r ≡ answer_by laid (laid_out (state_due s b c) (file_result s b c).left)
      layout_answer_lem =
          call.answer
          ∙ ap₂ (λ (t : states.LayoutState) (x : rules.LayoutArgs states.LayoutChoice). layout_answer (rules_of s b) x t store) fresh all
          ∙ layout_answer_due s b c passed store

      -- the layout call's store, as one of the whole file
      run_left : store2 ≡ store_run s b c store
      run_left = call.store_left_of ∙ whole_left s b c store passed state q fresh all

      pub layout_refused : (why : Refused) → r ≡ Err why → RunsFile s b c store marks out (Err why) store2 marks out
      layout_refused why e =
          laid_refused why store2 (refused_by laid _ (refusal why) (ap (layouts.laying_answer s b) (sym e) ∙ layout_answer_lem)) run_left

      -- ---- the rendering call
      module _ (t : Laid) (is : r ≡ Ok t) (pen : RenderState) (listed : List ℕ) (blank : renders.to_state pen listed ≡ render_fresh) where
        laid_out_lem : LaidBy (rules_of s b) laid (layouts.to_state t.state) t.left (state_due s b c) (file_result s b c).left
        laid_out_lem = laid_by (rules_of s b) laid _ t.left (state_due s b c) _ (ap (layouts.laying_answer s b) (sym is) ∙ layout_answer_lem)

        -- 8 doesn't refuse
        roomy : first (file_rows_line s b c (tests.rows_in store)) ≡ None
        roomy = passes_right (file_before_rows s b c) (file_rows_line s b c (tests.rows_in store)) laid_out_lem.passes

        layout_left : store2 ≡ store_left s b c store
        layout_left = run_left ∙ ap₂ (store_by s b c store) passed roomy

        to_row : t.state.row ≡ rows_due s b c
        to_row = ap (λ (x : states.LayoutState). x.cursor.row) laid_out_lem.state

        -- up to a row, at the width, by the rule
        abbrev to : ℕ → RenderArgs
        to row = record { stop = row; allotment = MAX_ALLOTMENT; width = record { 0 = c.width }; rule = c.rule }

        -- what the call had is what is due
        same : {A : Type 0} (f : states.RenderState → RenderArgs → List ℕ → A)
            → f (renders.to_state pen listed) (to t.state.row) store2 ≡ f render_fresh (to (rows_due s b c)) (store_left s b c store)
        same f = λ i. f (blank i) (to (to_row i)) (layout_left i)

        -- the rows that the layout call leaves are right
        pub drawn_starts : Checked s b (renders.to_state pen listed) (to t.state.row) store2 marks
        drawn_starts = record {
          passes =
              same (λ x q rows. first (before_marks (parts_of s b) (renders.to_args q 0) x rows marks))
              ∙ render_early_due s b c store marks [] laid_out_lem.passes;
        }

        module _ (o : Result Drawn Refused) (store3 marks2 out2 listed2 : List ℕ)
            (drew : Draws s b (renders.to_state pen listed) (to t.state.row) store2 marks out listed o store3 marks2 out2 listed2) where
          drawn_answer : renders.rendering_answer s b listed2 (renders.rendering_of o)
              ≡ answer_by table (written (rendered_due s b c) (file_result s b c).bytes (entered_due s b c store))
          drawn_answer =
              drew.called.answer
              ∙ same (λ x q rows. render_answer (rules_of s b) (renders.to_args q (length out)) x rows marks)
              ∙ render_answer_due s b c store marks out laid_out_lem.passes

          store_same : store3 ≡ store_run s b c store
          store_same = drew.called.store_left_of ∙ run_left

          marks_same : marks2 ≡ marks_left s b c store marks out
          marks_same =
              drew.called.marks_left_of
              ∙ same (λ x q rows. render_marks (rules_of s b) (renders.to_args q (length out)) x rows marks)
              ∙ render_marks_due s b c store marks out laid_out_lem.passes

          output_same : out2 ≡ output_left s b c store marks out
          output_same =
              drew.called.output_left_of
              ∙ same (λ x q rows. render_output (rules_of s b) (renders.to_args q (length out)) x rows marks out)
              ∙ render_output_due s b c store marks out laid_out_lem.passes

          -- the greatest column of a call's rows
          abbrev widest_in : states.RenderState → RenderArgs → List ℕ → ℕ
          widest_in x q rows =
              widest_drawn s b x (renders.goes_to q) q.allotment
              (with_cleared (parts_of s b) (take x.in_use marks) ((parts_of s b).needed rows (read_from x) q.stop))
              rows

          widest_same : renders.widest_of o ≡ unless table 0 (column_due s b c)
          widest_same =
              drew.widest
              ∙ same (λ x q rows. unless ((rules_of s b).render_refusal (renders.to_args q (length out)) x rows marks) 0 (widest_in x q rows))
              ∙ render_widest_due s b c store marks out laid_out_lem.passes

          pub drawn_refused : (why : Refused) → o ≡ Err why → RunsFile s b c store marks out (Err why) store3 marks2 out2
          drawn_refused why e =
              let r : table ≡ Some (refusal why) =
              refused_by table _ (refusal why) (ap (λ (x : Result Drawn Refused). renders.rendering_answer s b listed2 (renders.rendering_of x)) (sym e)
              ∙ drawn_answer)
              in
              record {
                answer = sym (ap (λ (x : Option Refusal). answer_by x (file_result s b c)) r);
                widest = ap renders.widest_of (sym e) ∙ widest_same;
                store_left_of = store_same;
                marks_left_of = marks_same;
                output_left_of = output_same;
              }

          pub drawn_formats : (u : Drawn) → o ≡ Ok u
              → RunsFile s b c store marks out
              (Ok (record { text = record { bytes = u.written.bytes; left = t.left; rows = t.state.row; numbers = t.state.number }; widest = u.widest }))
              store3
              marks2
              out2
          drawn_formats u e =
              let w = written_by (rules_of s b) table (renders.to_state u.written.state listed2) u.written.bytes.0 u.written.entered (rendered_due s b c) _ _
              (ap (λ (x : Result Drawn Refused). renders.rendering_answer s b listed2 (renders.rendering_of x)) (sym e) ∙ drawn_answer)
              in
              let number : t.state.number ≡ (built s b c).taken = ap (λ (x : states.LayoutState). x.cursor.number) laid_out_lem.state in
              record {
                answer =
                    (λ i. accepted (record { bytes = w.bytes i; left = laid_out_lem.left i; rows = to_row i; numbers = number i }))
                    ∙ sym (ap (λ (x : Option Refusal). answer_by x (file_result s b c)) w.passes);
                widest = ap renders.widest_of (sym e) ∙ widest_same;
                store_left_of = store_same;
                marks_left_of = marks_same;
                output_left_of = output_same;
              }
