-- Wherever rendering stopped, the text holds the comments of the rows before the next one.
-- Assumes nothing.
use mathlib.Core.Path.{◌≡◌, refl, sym, ap, subst, ◌∙◌}
use mathlib.Core.Bool.{true}
use Rattle.std.specs.Prelude.{Option, None, Some}
use mathlib.Core.List.{List, [], ◌∷◌, ◌++◌, append_assoc}
use Prim.Native.Nat.{ℕ, ◌*◌, ◌-◌, ◌≤◌}
use native.Mathlib.Omega.{arith}
use lib.ListN.{length}
use Rattle.image.specs.Read.{read_earlier}
use Rattle.rows.specs.Places.{PLACES}
use Rattle.rows.specs.Node.{Text, Nodes, none, ◌then◌, join}
use Rattle.rows.specs.View.{View, view_of, nodes_at}
use Rattle.rows.specs.Nesting.{Nests}
use Rattle.rows.proofs.Nested.{nodes_join}
use Rattle.layout_facts.proofs.Tokens.{chosen_before}
use Rattle.renderer_rules.specs.Page.{text_bytes}
use Rattle.renderer_rules.specs.Renderer.{Renderer}
use Rattle.renderer_rules.specs.Stops.{Stop}
use Rattle.renderer_rules.specs.Holds.{HoldsInOrder, rest, nothing, anything, IsLine, Token, Piece, a_comment, a_token}
use Rattle.renderer_rules.specs.Holds.{comments_among, tokens_among, pieces_of, pieces, CommasChosen, MadeOf}
use Rattle.renderer_rules.proofs.Holds.{holds_the_comments}
use Rattle.renderer_rules.proofs.Ranges.{stop_in}
use Rattle.marks.specs.Marks.{marks_needed}
use Rattle.node_widths.specs.Measured.{ascii_columns}
use Rattle.cut_rule.specs.Rules.{RenderResult}
use Rattle.cut_rule.specs.Run.{Carried, start, run}
use Rattle.cut_rule.specs.Plain.{RenderedTo, Progress, at_first, render_due, laid_due, rendered_due, due, plain}
use Rattle.cut_rule.specs.CutRule.{comments_in, CommentsAhead}
use Rattle.cut_rule.specs.States.{RenderChoice, RenderState, render_fresh}
use Rattle.cut_rule.specs.Parts.{Drawn, with_cleared}
use Rattle.cut_rule.proofs.Comments.{comments_before}
use Rattle.cut_rule.proofs.Document.{RenderedRight, came_to}
use Rattle.cut_rule.proofs.Memory.{same_before}
use Rattle.whole_run.specs.Parts.{listed, page, renderer_of, parts_of}
use Rattle.whole_run.specs.Demands.{rules_of}
use Rattle.whole_run.specs.Text.{pieces_between}
use Rattle.whole_run.proofs.Demands.{rules_cut}
use Rattle.whole_run.proofs.LayoutParts.{layout_parts}
use Rattle.whole_run.proofs.RenderParts.{render_parts}
use Rattle.whole_run.proofs.Local.{nodes_local, rows_same}
use Rattle.whole_run.proofs.Right.{right}
use Rattle.whole_run.proofs.StopParts.{fresh_drawn, row_at}
use Rattle.stop_facts.specs.SoFar.{StopHolds, KeptInside, CallsKeepInside, CommentsSoFar}
use Rattle.stop_facts.proofs.RowComments.{among_join}
use Rattle.stop_facts.proofs.AtStop.{stops_hold}
use Rattle.stop_facts.proofs.LaidRows.{LaidRows, due_rows}

pieces_join : (ns ms : Nodes) → pieces (join ns ms) ≡ pieces ns ++ pieces ms
unfolding pieces join
pieces_join none ms = refl
pieces_join (n then ns) ms = ap (λ (l : List Piece). pieces_of n ++ l) (pieces_join ns ms) ∙ sym (append_assoc (pieces_of n) (pieces ns) (pieces ms))

tokens_join : (ps qs : List Piece) → tokens_among (ps ++ qs) ≡ tokens_among ps ++ tokens_among qs
unfolding tokens_among
tokens_join [] qs = refl
tokens_join (a_comment t ∷ ps) qs = tokens_join ps qs
tokens_join (a_token t ∷ ps) qs = ap (λ (l : List Token). t ∷ l) (tokens_join ps qs)

module _ (s b : List ℕ) where
  -- ---- the rows rendered, among those laid out
  record Written (store : List ℕ) (end : ℕ) (d : RenderResult RenderState) : Type 0 where
    these : List Piece
    behind : List Piece
    made : MadeOf (text_bytes s b) these d.text
    front : pieces_between store 0 end ≡ these ++ behind
    room : PLACES * d.state.row ≤ length store
    comments : comments_in store d.state.row ≡ comments_among these

  module _ (store : List ℕ) (end : ℕ) (size : PLACES * end ≡ length store) (c : CommasChosen (nodes_at (view_of store) 0 end)) where
    abbrev v : View
    v = view_of store

    module _ (p : RenderedTo RenderChoice) (marks : List ℕ) (room : PLACES * p.to.stop ≤ length store) (g : Nests (view_of store) 0 p.to.stop 0) where
      abbrev n : ℕ
      n = p.to.stop

      parts : nodes_at v 0 end ≡ join (nodes_at v 0 n) (nodes_at v n end)
      parts = nodes_join end g (omega (arith, room, size))

      abbrev from : Renderer
      from = renderer_of render_fresh.pen marks

      abbrev e : Stop
      e = stop_in v (page p.to.choice s b) 0 n from p.entered

      held : StopHolds s b store 0 [] (pieces_between store 0 n) e
      held =
          stops_hold p.to.choice.width (ascii_columns p.to.choice.rule s b) s b store 0 n 0 [] true from p.entered g
          (chosen_before (nodes_at v 0 n) (nodes_at v n end) (subst CommasChosen parts c))

      before : pieces_between store 0 end ≡ held.these ++ (held.behind ++ pieces_between store n end)
      before =
          ap pieces parts
          ∙ pieces_join (nodes_at v 0 n) (nodes_at v n end)
          ∙ ap (λ (ps : List Piece). ps ++ pieces_between store n end) held.front
          ∙ append_assoc held.these held.behind (pieces_between store n end)

    written : (d : Option (RenderedTo RenderChoice))
        → RenderedRight (parts_of s b) (layout_parts (read_earlier s b) s b) (render_parts s b (read_earlier s b)) store d
        → Written store end (render_due (rules_of s b) store d)
    unfolding comments_among
    written None k = record {
      these = [];
      behind = pieces_between store 0 end;
      made = rest nothing;
      front = refl;
      room = omega arith;
      comments = refl;
    }
    written (Some p) k =
        let marks : List ℕ = with_cleared (parts_of s b) [] (marks_needed (p.to.stop - 0) store 0) in
        let g = (right p.to.choice.rule s b store 0 p.to.stop (omega arith) k.1).nests in
        let h = held p marks k.0 g in
        let low = (row_at s b p.to marks store g p.entered).1 in
        let is = fresh_drawn s b p.to marks store p.entered in
        record {
          these = h.these;
          behind = h.behind ++ pieces_between store p.to.stop end;
          made = subst (λ (t : List ℕ). MadeOf (text_bytes s b) h.these t) (sym (ap (λ (y : Drawn). y.text) is ∙ h.adds.same)) h.adds.made;
          front = before p marks k.0 g;
          room = omega (arith, k.0, low);
          comments = ap (λ (y : Drawn). comments_in store y.row) is ∙ h.comments;
        }

  -- ---- in a store with other rows behind
  module _ (store₀ marks₀ : List ℕ) (f : Progress (rules_of s b)) (l : LaidRows s b (laid_due (rules_of s b) f))
      (d : Written (laid_due (rules_of s b) f).rows (laid_due (rules_of s b) f).state.cursor.row (rendered_due (rules_of s b) f))
      (a : CommentsAhead (rules_of s b) (listed s b) (due (rules_of s b) store₀ marks₀ f)) where
    abbrev w : Carried (rules_of s b)
    w = due (rules_of s b) store₀ marks₀ f

    abbrev own : List ℕ
    own = (laid_due (rules_of s b) f).rows

    abbrev end : ℕ
    end = w.layout_state_of.cursor.row

    same_nodes : nodes_at (view_of w.store) 0 end ≡ nodes_at (view_of own) 0 end
    same_nodes = nodes_local (view_of w.store) (view_of own) 0 end (rows_same end w.store own (same_before end own _ (omega (arith, l.size))) 0)

    kept : KeptInside s b w
    kept =
        let front = ap pieces same_nodes ∙ d.front in
        let all : pieces l.nodes ≡ d.these ++ d.behind = ap pieces (sym l.read) ∙ d.front in
        let next : comments_among d.these ≡ comments_in w.store w.render_state_of.row =
        sym (comments_before w.render_state_of.row own _ d.room ∙ d.comments)
        in
        record {
          these = d.these;
          behind = d.behind;
          made = d.made;
          front = front;
          before_next = next;
          first = next ∙ a.first;
          comments = sym (among_join d.these d.behind) ∙ ap comments_among (sym all) ∙ l.comments;
          others = sym (tokens_join d.these d.behind) ∙ ap tokens_among (sym all) ∙ l.others;
        }

pub calls_keep_inside : CallsKeepInside
calls_keep_inside s b store₀ marks₀ calls h =
    let R = rules_of s b in
    let f = plain R store₀ marks₀ (at_first R) calls in
    let cut = rules_cut (read_earlier s b) s b store₀ marks₀ calls h in
    let k = came_to (parts_of s b) (layout_parts (read_earlier s b) s b) (render_parts s b (read_earlier s b)) store₀ marks₀ calls h in
    let l = due_rows s b f.laid_to_of k.laid in
    let chosen : CommasChosen (nodes_at (view_of (laid_due R f).rows) 0 (laid_due R f).state.cursor.row) = subst CommasChosen (sym l.read) l.chosen in
    let d = written s b (laid_due R f).rows (laid_due R f).state.cursor.row l.size chosen f.rendered_to k.rendered in
    let ahead = subst (λ (v : Carried R). CommentsAhead R (listed s b) v) cut.same cut.ahead in
    subst (λ (v : Carried R). KeptInside s b v) (sym cut.same) (kept s b store₀ marks₀ f l d ahead)

pub comments_so_far : CommentsSoFar
comments_so_far s b store₀ marks₀ calls h =
    let w = run (rules_of s b) (start (rules_of s b) store₀ marks₀) calls in
    let k = calls_keep_inside s b store₀ marks₀ calls h in
    subst (λ (ts : List Text). HoldsInOrder anything (IsLine (text_bytes s b)) ts w.text) k.first
    (holds_the_comments (text_bytes s b) k.these w.text k.made)
