-- A whole document's rows, rendered from fresh by an allotment of as many as there are or more: what `Renderer` makes of its nodes, and as many rows
-- as it enters.
-- Assumes nothing.
use mathlib.Core.Path.{◌≡◌, refl, sym, ap, ap₂, subst₂, ◌∙◌}
use mathlib.Core.Bool.{true}
use Rattle.std.specs.Prelude.{None}
use mathlib.Core.List.{List, [], append-nil}
use Prim.Native.Nat.{ℕ, ◌-◌, ◌*◌, ◌≤◌}
use native.Mathlib.Omega.{arith}
use native.Mathlib.Nat.{sub-zero, zero-add}
use lib.ListN.{length, take, drop, replicate}
use lib.Seq.{take-append-le, take-append_seam}
use Rattle.rows.specs.Node.{Nodes}
use Rattle.rows.specs.Places.{PLACES}
use Rattle.rows.specs.Rows.{sizes, rows}
use Rattle.rows.specs.View.{view_of, nodes_at}
use Rattle.rows.proofs.Sizes.{length_rows}
use Rattle.rows.proofs.Flatten.{holds_part, read_back}
use Rattle.marks.specs.Marks.{marks_needed}
use Rattle.image.specs.Read.{read_earlier, read_refusal}
use Rattle.renderer_rules.specs.Check.{wrong_place_by}
use Rattle.renderer_rules.specs.Renderer.{render_nodes}
use Rattle.renderer_rules.specs.Stops.{entered}
use Rattle.cut_rule.specs.Rules.{RenderTo}
use Rattle.cut_rule.specs.Run.{write_front}
use Rattle.cut_rule.specs.Laws.{SameBefore}
use Rattle.cut_rule.specs.States.{RenderChoice, render_fresh}
use Rattle.cut_rule.specs.Parts.{Drawn, drawn_of}
use Rattle.whole_run.specs.Parts.{parts_of, renderer_of, page, whole_drawn}
use Rattle.whole_run.specs.Built.{FileChoice, layout_choice, render_choice, built, laid, rows_due, marks_due}
use Rattle.whole_run.proofs.AllRows.{all_rows}
use Rattle.whole_run.proofs.Demands.{due_is_fmt_parsed, laid_within_limits}
use Rattle.whole_run.proofs.Laid.{laid_size}
use Rattle.whole_run.proofs.RenderParts.{render_parts}

module _ (s b : List ℕ) (c : FileChoice) where
  -- the rows of the document
  abbrev all : List ℕ
  all = rows (laid s b c) 0

  abbrev to : RenderTo RenderChoice
  to = record { stop = rows_due s b c; choice = render_choice c }

  right : read_refusal (read_earlier s b) ≡ None → wrong_place_by c.rule s b all 0 (rows_due s b c) ≡ None
  right read =
      let g = (due_is_fmt_parsed (read_earlier s b) s b).closed_in (layout_choice c) in
      subst₂ (λ (x : List ℕ) (n : ℕ). wrong_place_by c.rule s b x 0 n ≡ None) g.rows_due_of g.row_due
      (((laid_within_limits s b read).closed (layout_choice c)).right c.rule)

  -- they are read back as the nodes that they are of
  whole : nodes_at (view_of all) 0 (rows_due s b c) ≡ laid s b c
  whole =
      ap (nodes_at (view_of all) 0) (sym (laid_size c.rule s b (built s b c).nodes) ∙ sym (zero-add (sizes (laid s b c))))
      ∙ read_back (laid s b c) all 0
      (holds_part all 0 all (ap (take (length all)) (sym (append-nil all)) ∙ take-append_seam all []))

  as_many : sizes (nodes_at (view_of all) 0 (rows_due s b c)) ≡ rows_due s b c
  as_many = ap sizes whole ∙ laid_size c.rule s b (built s b c).nodes

  -- what `Renderer` leaves of nodes with so many marks, and how many rows it enters
  abbrev pub made_of : Nodes → ℕ → Drawn
  made_of ns m =
      let pg = page (render_choice c) s b in
      let r = renderer_of render_fresh.pen (replicate m 0) in
      whole_drawn (rows_due s b c) (length (entered (view_of all) pg ns 0 [] true r)) (render_nodes pg ns true r)

  -- in a store that begins with them
  module _ (store : List ℕ) where
    abbrev held : List ℕ
    held = write_front all store

    same_rows : SameBefore (rows_due s b c) all held
    same_rows =
        let inside : PLACES * rows_due s b c ≤ length all = omega (arith, length_rows (laid s b c) 0, laid_size c.rule s b (built s b c).nodes) in
        sym (take-append-le (PLACES * rows_due s b c) all (drop (length all) store) inside)

    needed : (parts_of s b).needed held 0 (rows_due s b c) ≡ marks_due s b c
    needed =
        sym ((render_parts s b (read_earlier s b)).needed_local all held 0 (rows_due s b c) same_rows)
        ∙ ap (λ (n : ℕ). marks_needed n all 0) (sub-zero (rows_due s b c))

    pub all_drawn : read_refusal (read_earlier s b) ≡ None → (n : ℕ) → rows_due s b c ≤ n
        → drawn_of (parts_of s b) render_fresh to n [] held ≡ made_of (laid s b c) (marks_due s b c)
    all_drawn read n enough =
        let m = (parts_of s b).needed held 0 (rows_due s b c) in
        let marks : List ℕ = replicate (m - 0) 0 in
        sym ((render_parts s b (read_earlier s b)).draw_local to n marks all held (right read) same_rows)
        ∙ all_rows s b render_fresh to n marks all refl (omega (arith, as_many))
        ∙ ap₂ made_of whole (sub-zero m ∙ needed)
