-- The figures of a file that is accepted are small.
-- Assumes nothing.
use mathlib.Core.Path.{◌≡◌, ◌∙◌}
use mathlib.Core.Bool.{true}
use Rattle.std.specs.Prelude.{None}
use mathlib.Core.List.{List}
use Prim.Native.Nat.{ℕ, ◌≤◌}
use native.Mathlib.Omega.{arith}
use lib.ListN.{length, get_or, replicate, length-replicate}
use Rattle.image.specs.Read.{read_earlier}
use Rattle.tree.specs.CommentList.{comments_of}
use Rattle.comments.specs.Listed.{given}
use Rattle.renderer_rules.proofs.Names.{renders_same}
use Rattle.cut_rule.specs.States.{render_fresh, OLD_MODE}
use Rattle.layout_facts.specs.Accepted.{Stands}
use Rattle.layout_facts.specs.Accepted as limits
use Rattle.layout_facts.proofs.Limits.{closed_within}
use Rattle.layout_facts.proofs.Numbers.{whole_below}
use Rattle.whole_run.specs.Parts.{accepted_tree, keeps_waiting, page, renderer_of}
use Rattle.whole_run.specs.File.{file_rows, file_marks, laid_refusal, file_refusal}
use Rattle.whole_run.specs.FileLimits.{AreBytes}
use Rattle.whole_run.specs.Built.{reference_choice, render_choice, built, laid, marks_due, drawn_due}
use Rattle.whole_run.proofs.Laid.{laid_names}
use Rattle.widths.specs.Rules.{SUPPLIED}
use Rattle.whole_run.proofs.Past.{renders_length}
use Rattle.whole_run.proofs.Limits.{stood}
use Rattle.whole_run.proofs.FileTable.{laid_passed, before_marks_lem, marks_fit, text_fit}
use Rattle.whole_run.proofs.FileLimits.{file_column_limited}
use Rattle.tallies.specs.Tallies.{Within}
use Rattle.tallies.specs.Order.{Small}
use Rattle.figures.specs.Figures.{FILE_OUTPUT, figures_of}
use Rattle.figures.proofs.Occurring.{occurs_few, occurs_below, cleared_at}

module _ (s b : List ℕ) where
  abbrev text_due_lem : ℕ
  text_due_lem = length (drawn_due s b reference_choice).text

  -- ---- what 9 and 10 let pass
  module _ (passes : file_refusal s b reference_choice FILE_OUTPUT ≡ None) where
    laid_passes : laid_refusal s b reference_choice file_rows ≡ None
    laid_passes = before_marks_lem s b reference_choice file_rows file_marks FILE_OUTPUT passes

    marks_enough : marks_due s b reference_choice ≤ file_marks
    marks_enough = marks_fit s b reference_choice file_rows file_marks FILE_OUTPUT passes

    text_fits : text_due_lem ≤ FILE_OUTPUT
    text_fits = text_fit s b reference_choice file_rows file_marks FILE_OUTPUT passes

  -- as many marks as are needed
  marks_many : length (drawn_due s b reference_choice).marks ≡ marks_due s b reference_choice
  marks_many =
      renders_length (page (render_choice reference_choice) s b) (laid s b reference_choice) true
      (renderer_of render_fresh.pen (replicate (marks_due s b reference_choice) 0))
      ∙ length-replicate (marks_due s b reference_choice) 0

  -- ---- what is known of a tree that stands in its image
  module _ (at : ℕ) (a : Stands (given s b) (accepted_tree b (read_earlier s b)) at) where
    bounds : limits.Within (given s b) (built s b reference_choice)
    bounds = closed_within a (keeps_waiting OLD_MODE)

    pub placed_in : (built s b reference_choice).placed ≤ length (comments_of b)
    placed_in = bounds.placed

    module _ (passes : file_refusal s b reference_choice FILE_OUTPUT ≡ None) where
      pub within : Within (figures_of s b)
      within =
          let t = text_fits passes in
          let m = marks_enough passes in
          let n = occurs_few 0x0A (drawn_due s b reference_choice).text in
          let w = occurs_few 1 (drawn_due s b reference_choice).marks in
          let l = marks_many in
          let c = a.count in
          let p = placed_in in
          let g = bounds.numbers in
          record {
            bytes = omega arith;
            newlines = omega arith;
            given = omega arith;
            wrapped = omega arith;
            placed = omega arith;
            left = omega arith;
          }

      -- a mark at 1 is that of a number given
      wrapped_given : (figures_of s b).wrapped ≤ (figures_of s b).given
      wrapped_given = occurs_below (drawn_due s b reference_choice).marks (built s b reference_choice).taken cleared
        where
          cleared : (i : ℕ) → (built s b reference_choice).taken ≤ i → get_or (drawn_due s b reference_choice).marks i 0 ≡ 0
          cleared i h =
              (renders_same i (laid s b reference_choice) (page (render_choice reference_choice) s b) true
              (renderer_of render_fresh.pen (replicate (marks_due s b reference_choice) 0))
              (laid_names SUPPLIED s b i (built s b reference_choice).nodes
              ∙ whole_below (given s b) (accepted_tree b (read_earlier s b)) (keeps_waiting OLD_MODE) i h)).mark
              ∙ cleared_at (marks_due s b reference_choice) i

      small_in : AreBytes b → Small (figures_of s b)
      small_in bytes =
          let t = text_fits passes in
          let n = occurs_few 0x0A (drawn_due s b reference_choice).text in
          let marks : List ℕ = replicate (marks_due s b reference_choice) 0 in
          let k = file_column_limited (render_choice reference_choice) s b marks reference_choice bytes (laid_passes passes) in
          let c = a.count in
          let p = placed_in in
          let g = bounds.numbers in
          record {
            bytes = omega arith;
            newlines = omega arith;
            column = omega arith;
            given = omega arith;
            wrapped = wrapped_given;
            placed = omega arith;
            left = omega arith;
          }

  pub small : AreBytes b → file_refusal s b reference_choice FILE_OUTPUT ≡ None → Small (figures_of s b)
  small bytes passes =
      let a = stood s b (laid_passed s b reference_choice file_rows (laid_passes passes)).earlier in
      small_in a.at a.stood passes bytes
