-- The calls answer by the rules, and the rules from fresh are `fmt_parsed` and `Renderer`.
-- Assumes nothing.
use mathlib.Core.Path.{◌≡◌, refl, ap, ◌∙◌}
use mathlib.Core.Bool.{Bool, true, false}
use Rattle.std.specs.Prelude.{Option, Ok}
use mathlib.Core.List.{List, [], ◌∷◌}
use Prim.Native.Nat.{ℕ, ◌≤◌}
use native.Mathlib.Omega.{arith}
use lib.ListN.{length}
use Rattle.image.specs.Read.{read_earlier}
use Rattle.image.proofs.Earlier.{none_either}
use Rattle.acts.specs.Act.{Out}
use Rattle.refusals.specs.Refusals.{Refusal, unless, refuse_if, any}
use Rattle.refusals.proofs.Groups.{passes_line, passes_others, not_if}
use Rattle.refusals.proofs.Answers.{accepted_by}
use Rattle.rows.specs.Rows.{rows}
use Rattle.cut_rule.specs.Rules.{LayoutArgs as CutArgs, RenderTo, LayoutResult}
use Rattle.cut_rule.specs.Run.{write_front}
use Rattle.cut_rule.specs.States as states
use Rattle.cut_rule.specs.Parts as cut
use Rattle.cut_rule.specs.Parts.{Drawn, drawn_of}
use Rattle.cut_rule.proofs.Table.{layout_told}
use Rattle.cut_rule.proofs.Answers.{LaidBy, laid_by, written_by}
use Rattle.whole_run.specs.Parts.{other_rule, parts_of}
use Rattle.whole_run.specs.Demands.{rules_of, Gives, laid_to}
use Rattle.whole_run.specs.Built.{FileChoice, declared, laid as document, rows_due, marks_due, drawn_due}
use Rattle.whole_run.specs.File.{file_refusal, FileResult, file_result}
use Rattle.whole_run.proofs.Demands.{due_is_fmt_parsed, laid_within_limits}
use Rattle.whole_run.proofs.Foot.{closing_places_all}
use Rattle.whole_run.proofs.Reference.{reference_holds}
use Rattle.whole_run.proofs.File.{laid_due, old_mode_is_fmt_parsed, new_mode_leaves_none}
use Rattle.layout_call.specs.declared.LayoutState.{LayoutState}
use Rattle.layout_call.specs.declared.LayoutArgs.{LayoutArgs}
use Rattle.layout_call.specs.Calls as layout
use Rattle.layout_call.specs.Whole.{LayoutCalled}
use Rattle.render_call.specs.declared.RenderArgs.{RenderArgs}
use Rattle.render_call.specs.Calls as render
use Rattle.demands.specs.Fresh.{fresh_layout, fresh_render}
use Rattle.demands.proofs.Fresh.{fresh_state}
use Rattle.demands.proofs.Allotted.{made_of, all_drawn}
use Rattle.demands.specs.Demand2.{LaidOutAs, AtStopDue, ClosedDue, ClosedKeepingDue, RenderedDue, FileDue, Demand2}

-- ---- layout
module _ (s b store : List ℕ) (q : LayoutArgs) (t : LayoutState) (left : ℕ) (store2 : List ℕ)
    (p : LayoutCalled s b fresh_layout q store (Ok (record { state = t; left = left })) store2) where
  abbrev refusal : Option Refusal
  refusal = (rules_of s b).layout_refusal (layout.to_args q) (layout.to_state fresh_layout) store

  abbrev given : LayoutResult states.LayoutState
  given = laid_to (read_earlier s b) s b (layout.to_args q)

  laid : LaidBy (rules_of s b) refusal (layout.to_state t) left given.state given.left
  laid = laid_by (rules_of s b) refusal (layout.to_state t) left given.state given.left p.answer

  laid_as : (o : Out) → Gives q.rule s b o given → LaidOutAs q.rule s b o store t left store2
  laid_as o g = record {
    rows_due_of =
        p.store_left_of
        ∙ ap (λ (x : Option Refusal). unless x store (write_front given.rows store)) laid.passes
        ∙ ap (λ (x : List ℕ). write_front x store) g.rows_due_of;
    row_due = ap (λ (x : states.LayoutState). x.cursor.row) laid.state ∙ g.row_due;
    number_due = ap (λ (x : states.LayoutState). x.cursor.number) laid.state ∙ g.number_due;
    position_due = ap (λ (x : states.LayoutState). x.cursor.position) laid.state ∙ g.position_due;
    placed_due = ap (λ (x : states.LayoutState). x.cursor.placed) laid.state ∙ g.placed_due;
    left_due_of = laid.left ∙ g.left_due_of;
  }

at_stop : AtStopDue
at_stop archive s b store mode rule n t left store2 p =
    let k : states.LayoutChoice = record { mode = mode; rule = rule } in
    let q : CutArgs states.LayoutChoice = record { stop = n; close = false; choice = k; archive = archive } in
    let w = laid s b store _ t left store2 p in
    let h = layout_told (parts_of s b) q (layout.to_state fresh_layout) store w.passes in
    laid_as s b store _ t left store2 p _ ((due_is_fmt_parsed (read_earlier s b) s b).at_stop k n h.fits.stop.to)

closed : ClosedDue
closed archive s b store rule t left store2 p = laid_as s b store _ t left store2 p _
    ((due_is_fmt_parsed (read_earlier s b) s b).closed (record { mode = states.OLD_MODE; rule = rule }) refl)

closed_keeping : ClosedKeepingDue
closed_keeping archive s b store rule t left store2 p =
    let k : states.LayoutChoice = record { mode = states.NEW_MODE; rule = rule } in
    let q : CutArgs states.LayoutChoice = record { stop = length (declared s b); close = true; choice = k; archive = archive } in
    let z = layout.to_state fresh_layout in
    let w = laid s b store _ t left store2 p in
    let twelve = any (cut.layout_tests (parts_of s b) q z store) in
    let lines = refuse_if twelve 12 0 ∷ cut.rows_line (parts_of s b) q z store in
    let image = (parts_of s b).layout_image archive in
    let h = layout_told (parts_of s b) q z store w.passes in
    let later = passes_others image lines (passes_others (cut.rule_line (other_rule b rule) rule) (image ∷ lines) w.passes) in
    let tests = not_if twelve 12 0 (passes_line (refuse_if twelve 12 0) (cut.rows_line (parts_of s b) q z store) later) in (
      laid_as s b store _ t left store2 p _ ((due_is_fmt_parsed (read_earlier s b) s b).closed_in k),
      w.left ∙ (closing_places_all s b store q z (none_either archive s b h.image) tests refl refl).left,
    )

-- ---- rendering
-- what a rendering from fresh draws of the rows that a layout call which closed left
module _ (archive : Bool) (s b store : List ℕ) (mode rule : ℕ) (t : LayoutState) (left : ℕ) (store2 : List ℕ)
    (p : LayoutCalled s b fresh_layout (record { stop = length (declared s b); close = true; mode = mode; rule = rule; archive = archive }) store
    (Ok (record { state = t; left = left })) store2) where
  abbrev choice : ℕ → FileChoice
  choice width = record { width = width; mode = mode; rule = rule }

  abbrev to : ℕ → ℕ → RenderTo states.RenderChoice
  to width row = record { stop = row; choice = record { width = width; rule = rule } }

  pub all_due : (width allotment : ℕ) → t.row ≤ allotment → (listed : List ℕ)
      → drawn_of (parts_of s b) (render.to_state fresh_render listed) (to width t.row) allotment [] store2
      ≡ made_of s b (choice width) (document s b (choice width)) (marks_due s b (choice width))
  all_due width allotment enough listed =
      let c = choice width in
      let all : LayoutArgs = record { stop = length (declared s b); close = true; mode = mode; rule = rule; archive = archive } in
      let before = laid s b store all t left store2 p in
      let row : t.row ≡ rows_due s b c =
      ap (λ (x : states.LayoutState). x.cursor.row) before.state ∙ ap (λ (l : LayoutResult states.LayoutState). l.state.cursor.row) (laid_due s b c) in
      let left_store : store2 ≡ write_front (rows (document s b c) 0) store =
      p.store_left_of
      ∙ ap (λ (x : Option Refusal). unless x store (write_front (given s b store all t left store2 p).rows store)) before.passes
      ∙ ap (λ (l : LayoutResult states.LayoutState). write_front l.rows store) (laid_due s b c) in
      let read = none_either archive s b (layout_told (parts_of s b) (layout.to_args all) (layout.to_state fresh_layout) store before.passes).image in
      (λ i. drawn_of (parts_of s b) (fresh_state listed i) (to width (row i)) allotment [] (left_store i))
      ∙ all_drawn s b c store read allotment (omega (arith, row))

rendered : RenderedDue
rendered archive s b store mode rule t left store2 p width allotment enough marks out listed u n count store3 marks2 out2 listed2 q =
    let args : RenderArgs = record { stop = t.row; allotment = allotment; width = record { 0 = width }; rule = rule } in
    let z = render.to_state fresh_render listed in
    let a = written_by (rules_of s b) ((rules_of s b).render_refusal (render.to_args args (length out)) z store2 marks) (render.to_state u listed2) n.0 count
    _ _ _ q.answer in
    let gives = all_due archive s b store mode rule t left store2 p width allotment enough listed in
    let was = drawn_of (parts_of s b) z (render.goes_to args) allotment [] store2 in
    record {
      marks_due_of =
          q.marks_left_of
          ∙ ap (λ (x : Option Refusal). unless x marks (write_front was.marks marks)) a.passes
          ∙ ap (λ (d : Drawn). write_front d.marks marks) gives;
      bytes_due = a.bytes ∙ ap (λ (d : Drawn). length d.text) gives;
      text_due =
          q.output_left_of
          ∙ ap (λ (x : Option Refusal). unless x out (write_front was.text out)) a.passes
          ∙ ap (λ (d : Drawn). write_front d.text out) gives;
      count_due = a.entered ∙ ap (λ (d : Drawn). d.entered) gives;
    }

-- ---- a whole file
file : FileDue
file s b c out n left count numbers out2 f =
    let w = accepted_by (file_refusal s b c (length out)) _ (file_result s b c) f.answer in
    record {
      text_due = f.output_left_of ∙ ap (λ (x : Option Refusal). unless x out (write_front (drawn_due s b c).text out)) w.passes;
      bytes_due = ap (λ (x : FileResult). x.bytes) w.is;
      left_due_of = ap (λ (x : FileResult). x.left) w.is;
      rows_due_of = ap (λ (x : FileResult). x.rows) w.is;
      numbers_due = ap (λ (x : FileResult). x.numbers) w.is;
    }

pub demand_2 : Demand2
demand_2 = record {
  at_stop = at_stop;
  closed = closed;
  closed_keeping = closed_keeping;
  rendered = rendered;
  file = file;
  file_old = old_mode_is_fmt_parsed;
  file_new = new_mode_leaves_none;
  within_limits = laid_within_limits;
  reference = reference_holds;
}
