-- The rows laid out, read back: nodes whose `IfWrap`s choose between a comma and nothing, whose comments are those placed, and whose tokens are those
-- of the tree as far as layout came.
-- Assumes nothing.
use mathlib.Core.Path.{◌≡◌, refl, sym, ap, ap₂, ◌∙◌}
use mathlib.Core.Bool.{true}
use Rattle.std.specs.Prelude.{Option, None, Some}
use mathlib.Core.List.{List}
use Prim.Native.Nat.{ℕ, ◌*◌, ◌-◌, ◌≤◌}
use native.Mathlib.Omega.{arith}
use native.Mathlib.Nat.{zero-add}
use lib.ListN.{length, take, drop}
use lib.Seq.{take-length}
use Rattle.image.specs.Read.{read_earlier}
use Rattle.ast.specs.Syntax.{Declaration}
use Rattle.rows.specs.Places.{PLACES}
use Rattle.rows.specs.Node.{Nodes, none as no_nodes}
use Rattle.rows.specs.Rows.{sizes, rows}
use Rattle.rows.specs.View.{view_of, nodes_at}
use Rattle.rows.proofs.Decode.{nodes_none}
use Rattle.rows.proofs.Flatten.{flattened}
use Rattle.acts.specs.Act.{Act, Out}
use Rattle.acts.proofs.Joins.{length_rows}
use Rattle.comments.specs.Listed.{given}
use Rattle.layout.specs.Closing.{fresh, call_rule}
use Rattle.layout_facts.specs.Tokens.{◌&◌, shebang_tokens, declarations_tokens, Says}
use Rattle.layout_facts.proofs.Tokens.{call_says_its_part, same_comments}
use Rattle.layout_facts.proofs.InOrder.{places_call}
use Rattle.renderer_rules.specs.Holds.{comments_among, tokens_among, pieces, CommasChosen}
use Rattle.cut_rule.specs.Rules.{LayoutArgs, LayoutResult}
use Rattle.cut_rule.specs.Plain.{layout_due}
use Rattle.cut_rule.specs.States.{LayoutChoice, LayoutState, layout_fresh}
use Rattle.cut_rule.specs.Parts.{Piece}
use Rattle.cut_rule.proofs.Document.{LaidFits}
use Rattle.node_widths.specs.Summed.{laid_nodes as laid_by}
use Rattle.whole_run.specs.Parts.{listed, keeps_waiting, parts_of}
use Rattle.whole_run.specs.Demands.{rules_of, Gives, laid_to}
use Rattle.whole_run.specs.Built.{tree, declared}
use Rattle.whole_run.specs.Text.{program_to}
use Rattle.whole_run.proofs.Laid.{laid_size, laid_pieces, laid_chosen}
use Rattle.whole_run.proofs.LayoutParts.{layout_parts}
use Rattle.whole_run.proofs.RenderParts.{render_parts}
use Rattle.whole_run.proofs.Whole.{call_piece_lem, gives}

module _ (s b : List ℕ) where
  pub record LaidRows (l : LayoutResult LayoutState) : Type 0 where
    pub size : PLACES * l.state.cursor.row ≡ length l.rows
    pub nodes : Nodes
    pub read : nodes_at (view_of l.rows) 0 l.state.cursor.row ≡ nodes
    pub chosen : CommasChosen nodes
    pub comments : comments_among (pieces nodes) ≡ take l.state.cursor.placed (listed s b)
    pub others : tokens_among (pieces nodes) ≡ program_to s b l.state

  module _ (q : LayoutArgs LayoutChoice) (k : q.stop ≤ length (declared s b)) where
    abbrev part : List Declaration
    part = take (q.stop - 0) (drop 0 (declared s b))

    abbrev act : Act
    act = call_rule (given s b) (tree s b) true part true q.close (keeps_waiting q.choice.mode)

    abbrev laid : Out
    laid = act fresh

    given_due : Gives q.choice.rule s b laid (laid_to (read_earlier s b) s b q)
    given_due =
        let e = call_piece_lem (read_earlier s b) s b layout_fresh q (omega arith) k in
        gives (read_earlier s b) s b q act (ap (λ (p : Piece). p.rows) e) (ap (λ (p : Piece). p.cursor) e)

    said : Says laid (shebang_tokens b (tree s b).shebang & declarations_tokens part)
    said = call_says_its_part (given s b) (tree s b) true part true q.close (keeps_waiting q.choice.mode) fresh

    placed : comments_among (pieces laid.nodes) ≡ take laid.placed (listed s b)
    placed =
        let m : laid.placed - 0 ≡ laid.placed = omega arith in
        same_comments laid.nodes said.chosen
        ∙ ((places_call (given s b) (tree s b) true part true q.close (keeps_waiting q.choice.mode)).from fresh (omega arith)).same
        ∙ ap (λ (i : ℕ). take i (listed s b)) m

    laid_rows : LaidRows (laid_to (read_earlier s b) s b q)
    laid_rows =
        let ns = laid_by q.choice.rule s b laid.nodes in
        let same = laid_pieces q.choice.rule s b laid.nodes in
        let size = laid_size q.choice.rule s b laid.nodes in
        let stop : q.stop - 0 ≡ q.stop = omega arith in
        record {
          size = omega (arith, given_due.row_due, ap (λ (x : List ℕ). length x) given_due.rows_due_of, length_rows ns 0, size);
          nodes = ns;
          read =
              ap₂ (λ (x : List ℕ) (n : ℕ). nodes_at (view_of x) 0 n) given_due.rows_due_of (given_due.row_due ∙ sym size ∙ sym (zero-add (sizes ns)))
              ∙ flattened ns (rows ns 0) 0 (take-length (rows ns 0));
          chosen = laid_chosen q.choice.rule s b laid.nodes said.chosen;
          comments = ap comments_among same ∙ placed ∙ ap (λ (n : ℕ). take n (listed s b)) (sym given_due.placed_due);
          others =
              ap tokens_among same
              ∙ said.same
              ∙ ap (λ (n : ℕ). shebang_tokens b (tree s b).shebang & declarations_tokens (take n (declared s b))) stop;
        }

  pub due_rows : (o : Option (LayoutArgs LayoutChoice))
      → LaidFits (parts_of s b) (layout_parts (read_earlier s b) s b) (render_parts s b (read_earlier s b)) o → LaidRows (layout_due (rules_of s b) o)
  unfolding pieces comments_among tokens_among CommasChosen declarations_tokens
  due_rows None k = record { size = refl; nodes = no_nodes; read = nodes_none _ 0 0 (omega arith); chosen = tt; comments = refl; others = refl }
  due_rows (Some q) k = laid_rows q k.to
