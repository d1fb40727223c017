-- With 80, in the old mode and with supplied widths all is as it was: at a width that is 80, and carried as none or 80, 15 computes to no refusal,
-- and so does 12 in the old mode; 20 passes, and the sums are the widths that are supplied.
-- Assumes nothing.
use mathlib.Core.Logic.{◌⊎◌, inl, inr}
use mathlib.Core.Path.{◌≡◌, refl, sym, ap, ap₂, ◌∙◌}
use mathlib.Core.Bool.{Bool, true, false, not, ◌&&◌, ◌||◌}
use Rattle.std.specs.Prelude.{Option, None, Some}
use mathlib.Core.List.{List, [], ◌∷◌, ◌++◌}
use Prim.Native.Nat.{ℕ, ◌-◌, ◌≤◌, max}
use native.Mathlib.Omega.{arith}
use native.Mathlib.Decide.{dec_le}
use lib.Dec.{eqb, ltb}
use lib.ListN.{length, take, replicate}
use Rattle.laws.proofs.Booleans.{or_none}
use Rattle.image.specs.Read.{read_all, read_refusal}
use Rattle.layout.specs.Layout.{fmt_parsed}
use Rattle.widths.specs.Rules.{SUPPLIED, UNICODE_16_0, edition_of}
use Rattle.rows.specs.Node.{Nodes}
use Rattle.rows.specs.Rows.{rows}
use Rattle.rows.specs.View.{view_of, nodes_at}
use Rattle.tree.specs.CommentList.{comments_of}
use Rattle.marks.specs.Marks.{marks_needed}
use Rattle.node_widths.proofs.Summed.{supplied_stay}
use Rattle.node_widths.proofs.Pages.{supplied_page}
use Rattle.renderer_rules.specs.Renderer.{Page, Renderer, render_nodes}
use Rattle.renderer_rules.specs.Check.{wrong_place}
use Rattle.renderer_rules.specs.Page.{page_of}
use Rattle.renderer_rules.proofs.ByRule.{supplied_same}
use Rattle.refusals.specs.Refusals.{Refusal, unless, first, refuse_if, refuse_at, any}
use Rattle.refusals.specs.Answers.{Answer, answer_by}
use Rattle.refusals.proofs.Groups.{any_append}
use Rattle.cut_rule.specs.Limits.{REFERENCE_WIDTH, MAX_ALLOTMENT}
use Rattle.cut_rule.specs.Rules.{RenderTo}
use Rattle.cut_rule.specs.Run.{write_front}
use Rattle.cut_rule.specs.States.{RenderChoice, RenderState, render_fresh}
use Rattle.cut_rule.specs.Tests.{rows_in, row_tests, pen_tests, mark_tests, rule_tests, width_tests}
use Rattle.cut_rule.specs.Parts.{Drawn, with_cleared, rule_line, rendered_of, drawn_of, render_table}
use Rattle.whole_run.specs.Parts.{renderer_of, Shown, shown_by, whole_drawn, page, parts_of}
use Rattle.whole_run.specs.Built.{reference_choice, render_choice, laid}
use Rattle.whole_run.specs.File.{file_rows, file_marks, FileResult}
use Rattle.whole_run.specs.Reference.{at_reference, built_then, rows_then, version_then, image_then, tests_then, call_drawn, call_refusal}
use Rattle.whole_run.specs.Reference.{FileAsBefore, CallAsBefore, ReferenceHolds}
use Rattle.renderer_rules.specs.Stops as stops
use Rattle.renderer_rules.specs.Listed.{can_close_all}
use Rattle.rows.proofs.Decode.{nodes_none}
use Rattle.whole_run.proofs.Right.{right}
use Rattle.whole_run.proofs.AllRows.{all_few}
use Rattle.whole_run.proofs.Placed.{placed, rising_few, entered_rises}

-- 15 never refuses 80 where none or 80 is carried
pub never_15 : (carried : ℕ) → (carried ≡ 0) ⊎ (carried ≡ REFERENCE_WIDTH) → refuse_if (any (width_tests REFERENCE_WIDTH carried)) 15 0 ≡ None
never_15 carried (inl e) = ap (λ (w : ℕ). refuse_if (any (width_tests REFERENCE_WIDTH w)) 15 0) e
never_15 carried (inr e) = ap (λ (w : ℕ). refuse_if (any (width_tests REFERENCE_WIDTH w)) 15 0) e

-- nor does 12 refuse supplied widths where none or these are carried
pub never_12 : (carried : ℕ) → (carried ≡ 0) ⊎ (carried ≡ SUPPLIED) → any (rule_tests SUPPLIED carried) ≡ false
never_12 carried (inl e) = ap (λ (r : ℕ). any (rule_tests SUPPLIED r)) e
never_12 carried (inr e) = ap (λ (r : ℕ). any (rule_tests SUPPLIED r)) e

module _ (s b : List ℕ) where
  -- ---- what is laid, and the page, with supplied widths
  laid_same : laid s b reference_choice ≡ (built_then s b).nodes
  unfolding fmt_parsed
  laid_same = supplied_stay s b (built_then s b).nodes

  page_same : page (render_choice reference_choice) s b ≡ page_of 80 s b
  unfolding edition_of
  page_same = supplied_page 80 SUPPLIED s b refl

  -- ---- a whole file, by its nodes and the page
  abbrev marks_with : Nodes → ℕ
  marks_with ns = marks_needed (rows_then s b) (rows ns 0) 0

  abbrev drawn_with : Nodes → Page → Shown
  drawn_with ns p = shown_by (render_nodes p ns true (renderer_of render_fresh.pen (replicate (marks_with ns) 0)))

  abbrev refusal_with : ℕ → Nodes → Page → Option Refusal
  refusal_with room ns p =
      first
      (version_then s b
      ∷ read_refusal (read_all s b)
      ∷ refuse_if (ltb file_rows (rows_then s b)) 8 (rows_then s b)
      ∷ refuse_if (ltb file_marks (marks_with ns)) 9 (marks_with ns)
      ∷ refuse_if (ltb room (length (drawn_with ns p).text)) 10 (length (drawn_with ns p).text)
      ∷ [])

  abbrev answer_with : ℕ → Nodes → Page → Answer FileResult
  answer_with room ns p =
      answer_by (refusal_with room ns p) (record {
        bytes = length (drawn_with ns p).text;
        left = length (comments_of b) - (built_then s b).placed;
        rows = rows_then s b;
        numbers = (built_then s b).taken;
      })

  abbrev output_with : List ℕ → Nodes → Page → List ℕ
  output_with out ns p = unless (refusal_with (length out) ns p) out (write_front (drawn_with ns p).text out)

  file_as_before : FileAsBefore s b
  unfolding fmt_parsed
  file_as_before = record {
    not_12 = refl;
    not_15 = refl;
    not_20 = λ e. ap (λ (t : Bool). rule_line (t && not (eqb SUPPLIED UNICODE_16_0)) SUPPLIED) e;
    same_built = refl;
    refusal = λ room. ap₂ (refusal_with room) laid_same page_same;
    answer = λ room. ap₂ (answer_with room) laid_same page_same;
    output = λ out. ap₂ (output_with out) laid_same page_same;
  }

  -- ---- a call from a state that lists no rows
  module _ (stop room : ℕ) (z : RenderState) (store marks : List ℕ) (h : (z.width ≡ 0) ⊎ (z.width ≡ REFERENCE_WIDTH))
      (k : (z.rule ≡ 0) ⊎ (z.rule ≡ SUPPLIED)) (none_listed : z.listed ≡ []) where
    abbrev needed : ℕ
    needed = marks_needed (stop - z.row) store z.row

    abbrev bare : RenderState
    bare = record { pen = z.pen; in_use = z.in_use; row = z.row; width = z.width; rule = z.rule; listed = [] }

    abbrev to_reference : RenderTo RenderChoice
    to_reference = at_reference stop

    -- what the rows give by a page
    abbrev call_with : List ℕ → Page → Shown
    call_with ms p =
        shown_by (render_nodes p (nodes_at (view_of store) z.row stop) true (renderer_of z.pen (with_cleared (parts_of s b) ms needed)))

    abbrev line_12 : Bool
    line_12 = any (tests_then s b stop z store marks)

    abbrev table_with : Option ℕ → Bool → Option Refusal → ℕ → Option Refusal
    table_with wrong tests widths bytes =
        first
        (version_then s b
        ∷ image_then s b
        ∷ refuse_at wrong 11
        ∷ refuse_if tests 12 0
        ∷ widths
        ∷ refuse_if (ltb (length marks) needed) 9 needed
        ∷ refuse_if (ltb room bytes) 10 bytes
        ∷ [])

    tests_same : any (row_tests (rows_in store) stop z.row ++ (pen_tests z.pen ++ (mark_tests marks z.in_use ++ rule_tests SUPPLIED z.rule)))
        ≡ line_12
    tests_same =
        let row = row_tests (rows_in store) stop z.row in
        let pen = pen_tests z.pen in
        let mark = mark_tests marks z.in_use in
        any_append row (pen ++ (mark ++ rule_tests SUPPLIED z.rule))
        ∙ ap (λ (x : Bool). any row || x)
        (any_append pen (mark ++ rule_tests SUPPLIED z.rule)
        ∙ ap (λ (x : Bool). any pen || x)
        (any_append mark (rule_tests SUPPLIED z.rule) ∙ ap (λ (x : Bool). any mark || x) (never_12 z.rule k) ∙ or_none (any mark)))
        ∙ sym (any_append row (pen ++ mark) ∙ ap (λ (x : Bool). any row || x) (any_append pen mark))

    -- rows that 11 lets pass are fewer than the largest allotment
    few : wrong_place s b store z.row stop ≡ None → Dec (z.row ≤ stop) → (r : Renderer)
        → length (stops.entered (view_of store) (page (render_choice reference_choice) s b) (nodes_at (view_of store) z.row stop) z.row [] true r)
        ≤ MAX_ALLOTMENT
    unfolding stops.entered
    few e (yes l) r =
        let v = view_of store in
        let p = page (render_choice reference_choice) s b in
        let x = right SUPPLIED s b store z.row stop l (supplied_same s b store z.row stop ∙ e) in
        let rises = entered_rises v p (nodes_at v z.row stop) z.row stop [] true r (placed v x.nests) in
        omega (arith, x.few, rising_few z.row stop _ rises)
    few e (no l) r = rw (nodes_none (view_of store) z.row stop (omega arith)) (omega arith)

    -- and are rendered, all of them
    drawn_all : (ms : List ℕ) → wrong_place s b store z.row stop ≡ None
        → drawn_of (parts_of s b) bare to_reference MAX_ALLOTMENT ms store
        ≡ whole_drawn stop (drawn_of (parts_of s b) bare to_reference MAX_ALLOTMENT ms store).entered
        (render_nodes (page_of 80 s b) (nodes_at (view_of store) z.row stop) true (renderer_of z.pen (with_cleared (parts_of s b) ms needed)))
    drawn_all ms e =
        let v = view_of store in
        let p = page (render_choice reference_choice) s b in
        let r = renderer_of z.pen (with_cleared (parts_of s b) ms needed) in
        let ns = nodes_at v z.row stop in
        let all = all_few s b bare to_reference MAX_ALLOTMENT (with_cleared (parts_of s b) ms needed) store refl (few e (dec_le z.row stop) r) in
        all
        ∙ ap (λ (n : ℕ). whole_drawn stop n (render_nodes p ns true r)) (sym (ap (λ (y : Drawn). y.entered) all))
        ∙ ap
        (λ (y : Page). whole_drawn stop (drawn_of (parts_of s b) bare to_reference MAX_ALLOTMENT ms store).entered (render_nodes y ns true r))
        page_same

    refusal_same : first (render_table (parts_of s b) (record { to = to_reference; allotment = MAX_ALLOTMENT; room = room }) z store marks)
        ≡ call_refusal s b (record { to = to_reference; allotment = MAX_ALLOTMENT; room = room }) z store marks
    unfolding can_close_all
    refusal_same =
        (λ t.
        first
        (render_table (parts_of s b) (record { to = to_reference; allotment = MAX_ALLOTMENT; room = room })
        (record { pen = z.pen; in_use = z.in_use; row = z.row; width = z.width; rule = z.rule; listed = none_listed t })
        store marks))
        ∙ (λ t. table_with (supplied_same s b store z.row stop t) (tests_same t) (never_15 z.width h t) bytes)
        ∙ go (wrong_place s b store z.row stop) refl
      where
        bytes : ℕ
        bytes = length (drawn_of (parts_of s b) bare to_reference MAX_ALLOTMENT (take z.in_use marks) store).text

        then_bytes : ℕ
        then_bytes = length (call_with (take z.in_use marks) (page_of 80 s b)).text

        go : (o : Option ℕ) → wrong_place s b store z.row stop ≡ o → table_with o line_12 None bytes ≡ table_with o line_12 None then_bytes
        go (Some p) e = refl
        go None e = ap (λ (y : Drawn). table_with None line_12 None (length y.text)) (drawn_all (take z.in_use marks) e)

    call_as_before : CallAsBefore s b stop room z store marks
    call_as_before = record {
      refusal = refusal_same;
      rendered =
          λ e.
          (λ t.
          rendered_of (parts_of s b)
          (record { pen = z.pen; in_use = z.in_use; row = z.row; width = z.width; rule = z.rule; listed = none_listed t })
          to_reference MAX_ALLOTMENT marks store)
          ∙ ap (λ (y : Drawn). record {
            state = record { pen = y.pen; in_use = max z.in_use needed; row = y.row; width = 80; rule = SUPPLIED; listed = y.listed };
            marks = y.marks;
            text = y.text;
            entered = y.entered;
          }) (drawn_all marks e)
          ∙ ap (λ (n : ℕ). record {
            state = record {
              pen = (call_drawn s b z marks store stop).pen;
              in_use = max z.in_use needed;
              row = stop;
              width = 80;
              rule = SUPPLIED;
              listed = [];
            };
            marks = (call_drawn s b z marks store stop).marks;
            text = (call_drawn s b z marks store stop).text;
            entered = n;
          })
          (λ t.
          (rendered_of (parts_of s b)
          (record { pen = z.pen; in_use = z.in_use; row = z.row; width = z.width; rule = z.rule; listed = sym none_listed t })
          to_reference MAX_ALLOTMENT marks store).entered);
    }

pub reference_holds : ReferenceHolds
reference_holds s b = (file_as_before s b, λ stop room z store marks h k none. call_as_before s b stop room z store marks h k none)
