-- A whole file laid out and rendered by two calls from fresh. But for the mode 12 refuses neither call, and 11 finds nothing wrong with the rows
-- that the first call leaves. Where a line before 8 refuses the file, neither is made.
-- Assumes nothing.
use mathlib.Core.Path.{◌≡◌, refl, sym, ap, ap₂, subst₂, ◌∙◌}
use mathlib.Core.Bool.{Bool, true, false, cond, not, ◌||◌}
use mathlib.Core.Logic.{◌⊎◌, inl, inr}
use Rattle.std.specs.Prelude.{Option, None}
use mathlib.Core.List.{List, [], ◌∷◌, ◌++◌}
use Prim.Native.Nat.{ℕ, ◌+◌, ◌*◌, ◌-◌, ◌≤◌, max}
use native.Mathlib.Omega.{arith}
use native.Mathlib.Nat.{sub-zero, zero-add}
use lib.Dec.{ltb, eqb}
use lib.ListN.{length, drop, replicate}
use lib.Seq.{take-append-le, take-append_seam}
use borrow.Author.Tests.{le-ltb, le-leb, eq-eqb}
use Rattle.text.specs.Utf8.{prefix, well_formed, ill_formed}
use Rattle.rows.specs.Places.{PLACES}
use Rattle.image.specs.Bytes.{be32}
use Rattle.image.specs.Read.{Read, got, bad, Image, version, any_version, header, header_fits, source_fits, read_earlier, document_of, outcome, read_refusal}
use Rattle.image.proofs.Accepted.{Header, accepted}
use Rattle.rows.specs.Node.{Nodes}
use Rattle.rows.specs.Rows.{sizes, rows}
use Rattle.rows.specs.View.{view_of, nodes_at}
use Rattle.rows.proofs.Sizes.{length_rows}
use Rattle.rows.proofs.Flatten.{holds_part, read_back}
use Rattle.marks.specs.Marks.{marks_needed}
use Rattle.tree.specs.CommentList.{comments_of}
use Rattle.comments.specs.Listed.{given}
use Rattle.layout.specs.Layout.{fmt_parsed}
use Rattle.layout.specs.Closing.{fresh, whole_rule}
use Rattle.renderer_rules.specs.Check.{wrong_place_by}
use Rattle.renderer_rules.specs.Renderer.{Renderer, render_nodes}
use Rattle.renderer_rules.specs.Listed.{can_close_all}
use Rattle.renderer_rules.specs.Widest.{greatest_column}
use Rattle.refusals.specs.Refusals.{Refusal, unless, first, refuse_if, refuse_at, any}
use Rattle.refusals.specs.Answers.{answer_by}
use Rattle.refusals.proofs.Groups.{none_both, left_to, not_if}
use Rattle.refusals.proofs.Answers.{accepted_by}
use Rattle.cut_rule.specs.Rules.{LayoutArgs, RenderTo, RenderArgs, LayoutResult, RenderResult}
use Rattle.cut_rule.specs.Laws.{SameBefore}
use Rattle.cut_rule.specs.Run.{write_front, CallResult, laid_out, written}
use Rattle.cut_rule.specs.Entries.{layout_answer, layout_store, render_gives, render_answer, render_marks, render_output}
use Rattle.cut_rule.specs.States.{LayoutState, RenderState, layout_fresh, render_fresh, LayoutChoice, RenderChoice}
use Rattle.cut_rule.specs.Tests.{rows_in, render_tests, places_tests, limit_tests, begun_tests, stop_tests, mode_tests, rule_tests}
use Rattle.cut_rule.specs.Tests.{row_tests, pen_tests, mark_tests}
use Rattle.cut_rule.specs.Limits.{MAX_ALLOTMENT}
use Rattle.cut_rule.specs.Parts.{layout_tests, rows_needed, before_rows, rows_line, with_cleared, drawn_of, before_marks, marks_line, text_line, render_table}
use Rattle.cut_rule.specs.Parts.{Drawn, allotment_line, listed_line}
use Rattle.whole_run.specs.Parts.{formed_line, render_image, keeps_waiting, page, whole_drawn, renderer_of, widest_drawn, parts_of}
use Rattle.whole_run.specs.Demands.{rules_of, laid_to, closing_at}
use Rattle.whole_run.specs.Built.{FileChoice, layout_choice, render_choice, tree, declared, built, laid, rows_due, marks_due, drawn_due, column_due}
use Rattle.whole_run.specs.File.{mode_line, file_before_rows, file_rows_line, file_before_marks, file_marks_line, file_text_line, laid_refusal, refusal_in}
use Rattle.whole_run.specs.File.{store_left, marks_left, output_left, FileResult, file_result, OldModeIsFmtParsed, NewModeLeavesNone}
use Rattle.widths.specs.Rules.{SUPPLIED}
use Rattle.whole_run.proofs.Laid.{laid_size}
use Rattle.whole_run.proofs.Whole.{fmt_parsed_lem}
use Rattle.whole_run.proofs.Foot.{closing_places_all}
use Rattle.whole_run.proofs.Limits.{all_limited}
use Rattle.whole_run.proofs.FileTable.{left_to_two, FilePassed, file_passed, laid_passed, before_marks_lem}
use Rattle.whole_run.proofs.Right.{right}
use Rattle.whole_run.proofs.AllRows.{all_rows, all_widest}
use Rattle.whole_run.proofs.RenderParts.{render_parts}

fits_source : (s : List ℕ) → length s ≤ 65536 → source_fits s ≡ true
unfolding source_fits
fits_source s h = le-leb (length s) 65536 h

formed_passes : (rule : ℕ) (s : List ℕ) → well_formed s ≡ true → formed_line rule s ≡ None
unfolding ill_formed
formed_passes rule s h = go (eqb rule SUPPLIED)
  where
    go : (x : Bool) → cond x None (ill_formed s) ≡ None
    go true = refl
    go false = ap (λ (t : Bool). refuse_if (not t) 2 (prefix s)) h

fits_version : (n : ℕ) → (n ≡ 1) ⊎ (n ≡ 2) → eqb n 1 || eqb n 2 ≡ true
fits_version n (inl e) = rw e
fits_version n (inr e) = rw e

fits_header : (b : List ℕ) → Header any_version b → header_fits any_version b ≡ true
unfolding header
fits_header b h =
    simp (
      le-leb 5 (length b) (omega (arith, h.size)),
      fits_version (version b) h.known,
      eq-eqb (5 + be32 b 1) (length b) h.size,
      le-leb (be32 b 1) 1048576 h.short,
    )
    refl

module _ (s b : List ℕ) where
  abbrev count : ℕ
  count = length (declared s b)

  -- 1 and 3
  pub image_passes : (rule : ℕ) → read_refusal (read_earlier s b) ≡ None → render_image rule s b ≡ None
  image_passes rule h = go (read_earlier s b) refl h
    where
      go : (r : Read Image) → read_earlier s b ≡ r → read_refusal r ≡ None → render_image rule s b ≡ None
      go (bad n p) e h = let z : ◌≡◌ {A = ℕ} 0 1 = cc in absurd (omega arith)
      go (got i end) e h =
          let a = accepted s b (document_of i) (record { answer = ap outcome e }) in
          rw (fits_source s a.short, formed_passes rule s a.well, fits_header b a.root.head)

  -- ---- as a caller chooses
  module _ (c : FileChoice) where
    -- ---- the layout call: up to the last declaration, closing
    abbrev pub layout_args : LayoutArgs LayoutChoice
    layout_args = closing_at (layout_choice c) count

    -- the state that it answers
    abbrev pub state_due : LayoutState
    state_due = record {
      begun = true;
      closed = true;
      declaration = count;
      cursor = record { row = rows_due s b c; number = (built s b c).taken; placed = (built s b c).placed; position = (built s b c).pos };
      mode = c.mode;
      rule = c.rule;
    }

    pub laid_due : ◌≡◌ {A = LayoutResult LayoutState} (laid_to (read_earlier s b) s b layout_args)
        (record { state = state_due; rows = rows (laid s b c) 0; left = length (comments_of b) - (built s b c).placed })
    laid_due =
        let g = (fmt_parsed_lem (read_earlier s b) s b).closed_in (layout_choice c) in
        λ t.
        record {
          state = record {
            begun = true;
            closed = true;
            declaration = count;
            cursor = record { row = g.row_due t; number = g.number_due t; placed = g.placed_due t; position = g.position_due t };
            mode = c.mode;
            rule = c.rule;
          };
          rows = g.rows_due_of t;
          left = g.left_due_of t;
        }

    pub rows_needed_lem : rows_needed (parts_of s b) layout_args layout_fresh ≡ rows_due s b c
    rows_needed_lem = ((fmt_parsed_lem (read_earlier s b) s b).closed_in (layout_choice c)).row_due

    -- the rows that the layout call leaves
    same_rows : (store : List ℕ) → SameBefore (rows_due s b c) (rows (laid s b c) 0) (write_front (rows (laid s b c) 0) store)
    same_rows store =
        let r = rows (laid s b c) 0 in
        let inside : PLACES * rows_due s b c ≤ length r = omega (arith, length_rows (laid s b c) 0, laid_size c.rule s b (built s b c).nodes) in
        sym (take-append-le (PLACES * rows_due s b c) r (drop (length r) store) inside)

    -- 12
    layout_passes : mode_line c ≡ None → (store : List ℕ) → any (layout_tests (parts_of s b) layout_args layout_fresh store) ≡ false
    layout_passes moded store =
        let stop = stop_tests count layout_args layout_fresh in
        let mode = mode_tests layout_args.choice layout_fresh ++ rule_tests layout_args.choice.rule 0 in
        none_both (places_tests count (length (comments_of b)) (length s) (rows_in store) layout_fresh)
        (limit_tests layout_fresh ++ (begun_tests layout_fresh ++ (stop ++ mode)))
        (rw (
          le-ltb count 0 (omega arith),
          le-ltb (length (comments_of b)) 0 (omega arith),
          le-ltb (length s) 0 (omega arith),
          le-ltb (rows_in store) 0 (omega arith),
        ))
        (none_both (limit_tests layout_fresh) (begun_tests layout_fresh ++ (stop ++ mode)) refl
        (none_both (begun_tests layout_fresh) (stop ++ mode) refl
        (none_both stop mode
        (rw (le-ltb count 0 (omega arith), le-ltb count count (omega arith), eq-eqb count count refl))
        (none_both (mode_tests layout_args.choice layout_fresh) (rule_tests layout_args.choice.rule 0)
        (not_if (any (mode_tests layout_args.choice layout_fresh)) 12 0 moded) refl))))

    -- ---- of a file that no line before 8 refuses
    module _ (h : first (file_before_rows s b c) ≡ None) where
      pub layout_early : (store : List ℕ) → first (before_rows (parts_of s b) layout_args layout_fresh store) ≡ None
      layout_early store =
          let p = file_passed s b c h in
          λ t. first (p.chosen t ∷ p.read t ∷ refuse_if (layout_passes p.moded store t) 12 0 ∷ [])

      pub layout_refusal_due : (store : List ℕ) → (rules_of s b).layout_refusal layout_args layout_fresh store ≡ laid_refusal s b c (rows_in store)
      layout_refusal_due store =
          left_to (before_rows (parts_of s b) layout_args layout_fresh store) (rows_line (parts_of s b) layout_args layout_fresh store) (layout_early store)
          ∙ ap (λ (n : ℕ). first (refuse_if (ltb (rows_in store) n) 8 n ∷ [])) rows_needed_lem
          ∙ sym (left_to (file_before_rows s b c) (file_rows_line s b c (rows_in store)) h)

      -- what it answers and leaves
      pub layout_answer_due : (store : List ℕ)
          → layout_answer (rules_of s b) layout_args layout_fresh store
          ≡ answer_by (laid_refusal s b c (rows_in store)) (laid_out state_due (length (comments_of b) - (built s b c).placed))
      layout_answer_due store =
          ap₂ (λ (r : Option Refusal) (l : LayoutResult LayoutState). answer_by {A = CallResult (rules_of s b)} r (laid_out l.state l.left))
          (layout_refusal_due store)
          laid_due

      pub layout_store_due : (store : List ℕ) → layout_store (rules_of s b) layout_args layout_fresh store ≡ store_left s b c store
      layout_store_due store =
          ap₂ (λ (r : Option Refusal) (l : LayoutResult LayoutState). unless r store (write_front l.rows store)) (layout_refusal_due store) laid_due

    -- ---- the rendering call: up to the last row
    abbrev pub render_to : RenderTo RenderChoice
    render_to = record { stop = rows_due s b c; choice = render_choice c }

    abbrev pub render_args : List ℕ → RenderArgs RenderChoice
    render_args out = record { to = render_to; allotment = MAX_ALLOTMENT; room = length out }

    -- 12
    render_passes : (store marks out : List ℕ) → any (render_tests (render_args out) render_fresh store marks) ≡ false
    render_passes store marks out =
        none_both (row_tests (rows_in store) (rows_due s b c) 0) (pen_tests render_fresh.pen ++ (mark_tests marks 0 ++ rule_tests c.rule 0))
        (rw (le-ltb (rows_in store) 0 (omega arith), le-ltb (rows_due s b c) 0 (omega arith)))
        (none_both (pen_tests render_fresh.pen) (mark_tests marks 0 ++ rule_tests c.rule 0) refl
        (none_both (mark_tests marks 0) (rule_tests c.rule 0) (rw (le-ltb (length marks) 0 (omega arith))) refl))

    module _ (store : List ℕ) where
      abbrev pub rowed : List ℕ
      rowed = write_front (rows (laid s b c) 0) store

      -- 11
      rows_right : read_refusal (read_earlier s b) ≡ None → wrong_place_by c.rule s b rowed 0 (rows_due s b c) ≡ None
      rows_right read =
          let g = (fmt_parsed_lem (read_earlier s b) s b).closed_in (layout_choice c) in
          (render_parts s b (read_earlier s b)).right_local (render_choice c) (rows (laid s b c) 0) rowed (rows_due s b c) (same_rows store)
          (subst₂ (λ (x : List ℕ) (n : ℕ). wrong_place_by c.rule s b x 0 n ≡ None) g.rows_due_of g.row_due
          (((all_limited s b read).closed (layout_choice c)).right c.rule))

      marks_due_of : marks_needed (rows_due s b c - 0) rowed 0 ≡ marks_due s b c
      marks_due_of =
          sym ((render_parts s b (read_earlier s b)).needed_local (rows (laid s b c) 0) rowed 0 (rows_due s b c) (same_rows store))
          ∙ ap (λ (n : ℕ). marks_needed n (rows (laid s b c) 0) 0) (sub-zero (rows_due s b c))

      -- the rows are read back as the nodes that they are of
      nodes_due : nodes_at (view_of rowed) 0 (rows_due s b c) ≡ laid s b c
      nodes_due =
          let r = rows (laid s b c) 0 in
          ap (nodes_at (view_of rowed) 0) (sym (laid_size c.rule s b (built s b c).nodes) ∙ sym (zero-add (sizes (laid s b c))))
          ∙ read_back (laid s b c) rowed 0 (holds_part rowed 0 r (take-append_seam r (drop (length r) store)))

      -- they are fewer than the largest allotment
      all_allotted : read_refusal (read_earlier s b) ≡ None → sizes (nodes_at (view_of rowed) 0 (rows_due s b c)) ≤ MAX_ALLOTMENT
      all_allotted read =
          let few = (right c.rule s b rowed 0 (rows_due s b c) (omega arith) (rows_right read)).few in
          omega (arith, few, ap sizes nodes_due, laid_size c.rule s b (built s b c).nodes)

      -- what `Renderer` leaves of them, and how many it enters
      abbrev renderer_due : Renderer
      renderer_due = render_nodes (page (render_choice c) s b) (laid s b c) true (renderer_of render_fresh.pen (replicate (marks_due s b c) 0))

      abbrev pub entered_due : ℕ
      entered_due = (drawn_of (parts_of s b) render_fresh render_to MAX_ALLOTMENT [] rowed).entered

      drawn_due_of : read_refusal (read_earlier s b) ≡ None
          → drawn_of (parts_of s b) render_fresh render_to MAX_ALLOTMENT [] rowed ≡ whole_drawn (rows_due s b c) entered_due renderer_due
      drawn_due_of read =
          let m = marks_needed (rows_due s b c - 0) rowed 0 in
          let all = all_rows s b render_fresh render_to MAX_ALLOTMENT (replicate (m - 0) 0) rowed refl (all_allotted read) in
          let as_whole : Nodes → ℕ → ℕ → Drawn =
          λ ns n k.
          whole_drawn (rows_due s b c) k (render_nodes (page (render_choice c) s b) ns true (renderer_of render_fresh.pen (replicate n 0))) in
          all
          ∙ ap (as_whole (nodes_at (view_of rowed) 0 (rows_due s b c)) (m - 0)) (sym (ap (λ (y : Drawn). y.entered) all))
          ∙ ap₂ (λ (ns : Nodes) (n : ℕ). as_whole ns n entered_due) nodes_due (sub-zero m ∙ marks_due_of)

      widest_due : read_refusal (read_earlier s b) ≡ None
          → widest_drawn s b render_fresh render_to MAX_ALLOTMENT (with_cleared (parts_of s b) [] (marks_needed (rows_due s b c - 0) rowed 0)) rowed
          ≡ column_due s b c
      widest_due read =
          all_widest s b render_fresh render_to MAX_ALLOTMENT (with_cleared (parts_of s b) [] (marks_needed (rows_due s b c - 0) rowed 0)) rowed refl
          (all_allotted read)
          ∙ ap₂ (λ (ns : Nodes) (m : ℕ). greatest_column (page (render_choice c) s b) ns (replicate m 0)) nodes_due
          (sub-zero (marks_needed (rows_due s b c - 0) rowed 0) ∙ marks_due_of)

      -- but for marks that are too few and too long a text, nothing refuses
      early_due : FilePassed s b c → (marks out : List ℕ) → first (before_marks (parts_of s b) (render_args out) render_fresh rowed marks) ≡ None
      unfolding can_close_all
      early_due p marks out =
          λ t.
          first
          (p.chosen t
          ∷ image_passes c.rule p.earlier t
          ∷ refuse_at (rows_right p.earlier t) 11
          ∷ refuse_if (render_passes rowed marks out t) 12 0
          ∷ p.legal t
          ∷ allotment_line MAX_ALLOTMENT
          ∷ listed_line render_fresh rowed
          ∷ [])

      pub rendered_due_lem : read_refusal (read_earlier s b) ≡ None → (marks out : List ℕ)
          → render_gives (rules_of s b) (render_args out) render_fresh rowed marks
          ≡ record {
            state = record {
              pen = (drawn_due s b c).pen;
              in_use = max 0 (marks_due s b c);
              row = rows_due s b c;
              width = c.width;
              rule = c.rule;
              listed = [];
            };
            marks = (drawn_due s b c).marks;
            text = (drawn_due s b c).text;
            entered = entered_due;
          }
      rendered_due_lem read marks out =
          let d = drawn_due_of read in
          λ t.
          record {
            state = record {
              pen = (d t).pen;
              in_use = max 0 (marks_due_of t);
              row = (d t).row;
              width = c.width;
              rule = c.rule;
              listed = (d t).listed;
            };
            marks = (d t).marks;
            text = (d t).text;
            entered = (d t).entered;
          }

    -- the state that it answers
    abbrev pub rendered_due : RenderState
    rendered_due = record {
      pen = (drawn_due s b c).pen;
      in_use = max 0 (marks_due s b c);
      row = rows_due s b c;
      width = c.width;
      rule = c.rule;
      listed = [];
    }

    -- what it answers and leaves, of what the layout call left
    module _ (store marks out : List ℕ) (h : laid_refusal s b c (rows_in store) ≡ None) where
      left_store : store_left s b c store ≡ rowed store
      left_store = ap (λ (r : Option Refusal). unless r store (rowed store)) h

      read : read_refusal (read_earlier s b) ≡ None
      read = (laid_passed s b c (rows_in store) h).earlier

      early : first (before_marks (parts_of s b) (render_args out) render_fresh (rowed store) marks) ≡ None
      early = early_due store (laid_passed s b c (rows_in store) h) marks out

      pub render_refusal_due : (rules_of s b).render_refusal (render_args out) render_fresh (store_left s b c store) marks
          ≡ refusal_in s b c (rows_in store) (length marks) (length out)
      render_refusal_due =
          let P = parts_of s b in
          let q = render_args out in
          ap (λ (x : List ℕ). first (render_table P q render_fresh x marks)) left_store
          ∙ left_to_two (before_marks P q render_fresh (rowed store) marks) (marks_line P q render_fresh (rowed store) marks)
          (text_line P q render_fresh (rowed store) marks)
          early
          ∙ (λ t.
          first
          (refuse_if (ltb (length marks) (marks_due_of store t)) 9 (marks_due_of store t)
          ∷ refuse_if (ltb (length out) (length (drawn_due_of store read t).text)) 10 (length (drawn_due_of store read t).text)
          ∷ []))
          ∙ sym
          (left_to_two (file_before_marks s b c (rows_in store)) (file_marks_line s b c (length marks)) (file_text_line s b c (length out)) h)

      pub render_early_due : first (before_marks (parts_of s b) (render_args out) render_fresh (store_left s b c store) marks) ≡ None
      render_early_due =
          ap (λ (x : List ℕ). first (before_marks (parts_of s b) (render_args out) render_fresh x marks)) left_store ∙ early

      gives_due : render_gives (rules_of s b) (render_args out) render_fresh (store_left s b c store) marks
          ≡ record { state = rendered_due; marks = (drawn_due s b c).marks; text = (drawn_due s b c).text; entered = entered_due store }
      gives_due =
          ap (λ (x : List ℕ). render_gives (rules_of s b) (render_args out) render_fresh x marks) left_store ∙ rendered_due_lem store read marks out

      pub render_answer_due : render_answer (rules_of s b) (render_args out) render_fresh (store_left s b c store) marks
          ≡ answer_by (refusal_in s b c (rows_in store) (length marks) (length out)) (written rendered_due (length (drawn_due s b c).text) (entered_due store))
      render_answer_due =
          ap₂ (λ (r : Option Refusal) (l : RenderResult RenderState). answer_by {A = CallResult (rules_of s b)} r (written l.state (length l.text) l.entered))
          render_refusal_due
          gives_due

      pub render_marks_due : render_marks (rules_of s b) (render_args out) render_fresh (store_left s b c store) marks ≡ marks_left s b c store marks out
      render_marks_due =
          ap₂ (λ (r : Option Refusal) (l : RenderResult RenderState). unless r marks (write_front l.marks marks)) render_refusal_due gives_due

      pub render_output_due : render_output (rules_of s b) (render_args out) render_fresh (store_left s b c store) marks out ≡ output_left s b c store marks out
      render_output_due =
          ap₂ (λ (r : Option Refusal) (l : RenderResult RenderState). unless r out (write_front l.text out)) render_refusal_due gives_due

      -- the greatest column that it tells
      pub render_widest_due : unless ((rules_of s b).render_refusal (render_args out) render_fresh (store_left s b c store) marks) 0
          (widest_drawn s b render_fresh render_to MAX_ALLOTMENT (with_cleared (parts_of s b) [] (marks_needed (rows_due s b c - 0) (store_left s b c store) 0))
          (store_left s b c store))
          ≡ unless (refusal_in s b c (rows_in store) (length marks) (length out)) 0 (column_due s b c)
      render_widest_due =
          ap₂ (λ (r : Option Refusal) (n : ℕ). unless r 0 n) render_refusal_due
          (ap (λ (x : List ℕ).
          widest_drawn s b render_fresh render_to MAX_ALLOTMENT (with_cleared (parts_of s b) [] (marks_needed (rows_due s b c - 0) x 0)) x)
          left_store
          ∙ widest_due store read)

-- ---- the modes
pub old_mode_is_fmt_parsed : OldModeIsFmtParsed
unfolding fmt_parsed
old_mode_is_fmt_parsed s b c e = ap (λ (m : ℕ). whole_rule (given s b) (tree s b) (keeps_waiting m) fresh) e

pub new_mode_leaves_none : NewModeLeavesNone
new_mode_leaves_none s b c in_rows in_marks room r new e =
    let a = accepted_by (refusal_in s b c in_rows in_marks room) r (file_result s b c) (sym e) in
    let p = laid_passed s b c in_rows (before_marks_lem s b c in_rows in_marks room a.passes) in
    let all = closing_places_all s b [] (layout_args s b c) layout_fresh p.earlier (layout_passes s b c p.moded []) refl new in
    ap (λ (x : FileResult). x.left) a.is ∙ sym ((fmt_parsed_lem (read_earlier s b) s b).closed_in (layout_choice c)).left_due_of ∙ all.left
