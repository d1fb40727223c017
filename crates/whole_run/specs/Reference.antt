-- "80 is the reference", and "equality with the Rust in the old" mode: with these all is as it was before a caller could choose. 12 and 15 refuse
-- no file, what is built is what `fmt_parsed` builds, and `Renderer` has the Rust's `max`.
-- The definitions here have no choice; proofs/Reference.antt proves that those with a choice are these at 80 and in the old mode.
use Rattle.std.specs.Prelude.{◌⊎◌, ◌≡◌, Bool, true, false, not, List, [], ◌∷◌, ◌++◌, ℕ, ◌-◌, max, eqb, ltb, length, take, replicate, Option, None}
use Rattle.widths.specs.Rules.{SUPPLIED}
use Rattle.image.specs.Read.{version, header_fits, any_version, source_fits, read_all, read_refusal}
use Rattle.rows.specs.View.{view_of, nodes_at}
use Rattle.rows.specs.Rows.{sizes, rows}
use Rattle.acts.specs.Act.{Out}
use Rattle.tree.specs.CommentList.{comments_of}
use Rattle.comments.specs.Listed.{given}
use Rattle.layout.specs.Layout.{fmt_parsed}
use Rattle.layout.specs.Closing.{fresh}
use Rattle.marks.specs.Marks.{marks_needed}
use Rattle.renderer_rules.specs.Renderer.{render_nodes}
use Rattle.renderer_rules.specs.Page.{page_of}
use Rattle.renderer_rules.specs.Check.{wrong_place}
use Rattle.refusals.specs.Refusals.{Refusal, unless, first, refuse_if, refuse_at, any}
use Rattle.refusals.specs.Answers.{Answer, answer_by}
use Rattle.cut_rule.specs.Limits.{REFERENCE_WIDTH, MAX_ALLOTMENT}
use Rattle.cut_rule.specs.Rules.{RenderTo, RenderArgs, RenderResult}
use Rattle.cut_rule.specs.Run.{write_front}
use Rattle.cut_rule.specs.States.{RenderChoice, RenderState, render_fresh}
use Rattle.cut_rule.specs.Tests.{rows_in, row_tests, pen_tests, mark_tests}
use Rattle.cut_rule.specs.Parts.{with_cleared, rule_line, width_line, render_table, rendered_of}
use Rattle.whole_run.specs.Parts.{other_rule, renderer_of, Shown, shown_by, parts_of}
use Rattle.whole_run.specs.Built.{reference_choice, render_choice, tree, built}
use Rattle.whole_run.specs.File.{file_rows, file_marks, mode_line, file_refusal, FileResult, file_answer, file_output}

-- a rendering to a stop that chooses 80
abbrev pub at_reference : ℕ → RenderTo RenderChoice
at_reference stop = record { stop = stop; choice = render_choice reference_choice }

module _ (s b : List ℕ) where
  -- ---- a whole file
  -- what `fmt_parsed` builds, its rows and its marks
  abbrev pub built_then : Out
  built_then = fmt_parsed (given s b) (tree s b) fresh

  abbrev pub rows_then : ℕ
  rows_then = sizes built_then.nodes

  abbrev pub marks_then : ℕ
  marks_then = marks_needed rows_then (rows built_then.nodes 0) 0

  -- what `Renderer` makes of it
  abbrev pub drawn_then : Shown
  drawn_then = shown_by (render_nodes (page_of 80 s b) built_then.nodes true (renderer_of render_fresh.pen (replicate marks_then 0)))

  -- 20, which with supplied widths is of an image of version 2 alone
  abbrev pub version_then : Option Refusal
  version_then = rule_line (other_rule b SUPPLIED) SUPPLIED

  -- 20, 1 to 7, then 8, 9, 10
  abbrev pub refusal_then : ℕ → Option Refusal
  refusal_then room =
      first
      (version_then
      ∷ read_refusal (read_all s b)
      ∷ refuse_if (ltb file_rows rows_then) 8 rows_then
      ∷ refuse_if (ltb file_marks marks_then) 9 marks_then
      ∷ refuse_if (ltb room (length drawn_then.text)) 10 (length drawn_then.text)
      ∷ [])

  abbrev pub answer_then : ℕ → Answer FileResult
  answer_then room =
      answer_by (refusal_then room) (record {
        bytes = length drawn_then.text;
        left = length (comments_of b) - built_then.placed;
        rows = rows_then;
        numbers = built_then.taken;
      })

  abbrev pub output_then : List ℕ → List ℕ
  output_then out = unless (refusal_then (length out)) out (write_front drawn_then.text out)

  pub record FileAsBefore : Type 0 where
    pub not_12 : mode_line reference_choice ≡ None
    pub not_15 : width_line (render_choice reference_choice) render_fresh ≡ None
    pub not_20 : eqb (version b) 2 ≡ false → version_then ≡ None
    pub same_built : built s b reference_choice ≡ built_then
    pub refusal : (room : ℕ) → file_refusal s b reference_choice room ≡ refusal_then room
    pub answer : (room : ℕ) → file_answer s b reference_choice room ≡ answer_then room
    pub output : (out : List ℕ) → file_output s b reference_choice out ≡ output_then out

  -- ---- a rendering call
  -- what the rows from the state's next row up to a stop give
  abbrev pub call_drawn : RenderState → List ℕ → List ℕ → ℕ → Shown
  call_drawn z marks store stop =
      shown_by
      (render_nodes (page_of 80 s b) (nodes_at (view_of store) z.row stop) true
      (renderer_of z.pen (with_cleared (parts_of s b) marks (marks_needed (stop - z.row) store z.row))))

  -- 1 and 3
  abbrev pub image_then : Option Refusal
  image_then = first (refuse_if (not (source_fits s)) 1 0 ∷ refuse_if (not (header_fits any_version b)) 3 0 ∷ [])

  -- 12, of the next row, the pen and the marks
  abbrev pub tests_then : ℕ → RenderState → List ℕ → List ℕ → List Bool
  tests_then stop z store marks = row_tests (rows_in store) stop z.row ++ (pen_tests z.pen ++ mark_tests marks z.in_use)

  -- 20, 1, 3, 11, 12, 9, 10
  abbrev pub call_refusal : RenderArgs RenderChoice → RenderState → List ℕ → List ℕ → Option Refusal
  call_refusal q z store marks =
      let needed = marks_needed (q.to.stop - z.row) store z.row in
      let bytes = length (call_drawn z (take z.in_use marks) store q.to.stop).text in
      first
      (version_then
      ∷ image_then
      ∷ refuse_at (wrong_place s b store z.row q.to.stop) 11
      ∷ refuse_if (any (tests_then q.to.stop z store marks)) 12 0
      ∷ refuse_if (ltb (length marks) needed) 9 needed
      ∷ refuse_if (ltb q.room bytes) 10 bytes
      ∷ [])

  -- Of a call that chooses 80 and supplied widths, from a state that carries none yet or these and lists no rows, with the largest allotment: 22 and 23
  -- refuse nothing, and where 11 does not refuse, all rows up to the stop are rendered.
  pub record CallAsBefore (stop room : ℕ) (z : RenderState) (store marks : List ℕ) : Type 0 where
    pub refusal :
        (let q : RenderArgs RenderChoice = record { to = at_reference stop; allotment = MAX_ALLOTMENT; room = room } in
        first (render_table (parts_of s b) q z store marks) ≡ call_refusal q z store marks)
    pub rendered : wrong_place s b store z.row stop ≡ None
        → (let r : RenderResult RenderState = rendered_of (parts_of s b) z (at_reference stop) MAX_ALLOTMENT marks store in
        r ≡ record {
          state = record {
            pen = (call_drawn z marks store stop).pen;
            in_use = max z.in_use (marks_needed (stop - z.row) store z.row);
            row = stop;
            width = 80;
            rule = SUPPLIED;
            listed = [];
          };
          marks = (call_drawn z marks store stop).marks;
          text = (call_drawn z marks store stop).text;
          entered = r.entered;
        })

abbrev pub ReferenceHolds : Type 0
ReferenceHolds =
    (s b : List ℕ)
    → FileAsBefore s b
    × ((stop room : ℕ) (z : RenderState) (store marks : List ℕ)
    → (z.width ≡ 0) ⊎ (z.width ≡ REFERENCE_WIDTH) → (z.rule ≡ 0) ⊎ (z.rule ≡ SUPPLIED) → z.listed ≡ []
    → CallAsBefore s b stop room z store marks)
