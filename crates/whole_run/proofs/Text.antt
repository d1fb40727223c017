-- The text is made of the pieces of the rows that are rendered, and these are the comments and the program.
-- Assumes nothing.
use mathlib.Core.Path.{◌≡◌, refl, sym, ap, ap₂, subst, subst₂, ◌∙◌}
use mathlib.Core.Bool.{true}
use Rattle.std.specs.Prelude.{Option, None, Some}
use mathlib.Core.List.{List, [], ◌++◌, append-nil}
use Prim.Native.Nat.{ℕ, ◌*◌, ◌-◌, ◌≤◌}
use native.Mathlib.Omega.{arith}
use native.Mathlib.Nat.{zero-add}
use lib.ListN.{length, take, drop, replicate, length-map, length-drop}
use lib.Seq.{take_all, take-length, take-append_seam}
use Rattle.image.specs.Read.{read_earlier, read_refusal}
use Rattle.ast.specs.Syntax.{Declaration}
use Rattle.rows.specs.Places.{PLACES}
use Rattle.rows.specs.Node.{Text, Nodes, none as no_nodes, join}
use Rattle.rows.specs.Rows.{sizes, rows}
use Rattle.rows.specs.View.{view_of, nodes_at}
use Rattle.rows.specs.Nesting.{Nests, over}
use Rattle.rows.proofs.Decode.{nodes_none}
use Rattle.rows.proofs.Flatten.{flattened}
use Rattle.rows.proofs.Nested.{nodes_join}
use Rattle.tree.specs.CommentList.{comments_of}
use Rattle.acts.specs.Act.{Act, Out}
use Rattle.acts.proofs.Joins.{length_rows}
use Rattle.comments.specs.Listed.{given}
use Rattle.layout.specs.Closing.{fresh, call_rule}
use Rattle.layout_facts.specs.Placing.{comments_in_nodes}
use Rattle.layout_facts.specs.Tokens.{◌&◌, shebang_tokens, declarations_tokens, tokens_of, Says}
use Rattle.layout_facts.proofs.Tokens.{says_the_program, call_says_its_part, same_comments, chosen_before, tokens_in_parts, comments_in_parts}
use Rattle.layout_facts.proofs.InOrder.{places_whole, places_call, in_order}
use Rattle.layout_facts.proofs.Foot.{call_places}
use Rattle.renderer_rules.specs.declared.Pen.{Pen}
use Rattle.renderer_rules.specs.Page.{text_bytes}
use Rattle.renderer_rules.specs.Renderer.{render_nodes}
use Rattle.renderer_rules.specs.Holds.{HoldsInOrder, rest, nothing, anything, Token, Piece as Part}
use Rattle.renderer_rules.specs.Holds.{IsLine, comments_among, tokens_among, pieces, CommasChosen, MadeOf}
use Rattle.renderer_rules.proofs.Holds.{holds_the_comments, writes_pieces}
use Rattle.refusals.specs.Refusals.{Refusal, unless}
use Rattle.refusals.proofs.Answers.{accepted_by}
use Rattle.cut_rule.specs.Rules.{LayoutArgs, LayoutResult, RenderResult}
use Rattle.cut_rule.specs.Run.{write_front, Carried, start, run}
use Rattle.cut_rule.specs.Plain.{RenderedTo, Progress, at_first, layout_due, render_due, laid_due, rendered_due, due, plain}
use Rattle.cut_rule.specs.States.{LayoutChoice, RenderChoice, LayoutState, RenderState, layout_fresh, render_fresh, NEW_MODE}
use Rattle.cut_rule.specs.Parts.{Piece, Drawn, with_cleared}
use Rattle.cut_rule.proofs.Document.{LaidFits, RenderedRight, came_to}
use Rattle.node_widths.specs.Summed.{laid_nodes as laid_by}
use Rattle.node_widths.specs.Measured.{ascii_columns}
use Rattle.whole_run.proofs.Laid.{laid_size, laid_pieces, laid_chosen}
use Rattle.whole_run.specs.Parts.{listed, keeps_waiting, page, renderer_of, drawn, parts_of}
use Rattle.marks.specs.Marks.{marks_needed}
use Rattle.whole_run.specs.Demands.{rules_of, Gives, laid_to}
use Rattle.whole_run.specs.Built.{FileChoice, render_choice, tree, declared, built, laid as file_laid, marks_due, drawn_due}
use Rattle.whole_run.specs.File.{file_refusal, file_result, FileResult, file_output}
use Rattle.whole_run.specs.Text.{Keeps, IsProgram, KeptCommentsHeld, TextIsTheProgram, NewModePlacesAll, OutputIsTheProgram, program_to, pieces_between}
use Rattle.whole_run.specs.Text.{SoFar, AllRendered, IsSoFar, IsWhole, CallsKeepTheText}
use Rattle.whole_run.proofs.Foot.{list, closed_holds_all}
use Rattle.whole_run.proofs.Demands.{rules_cut}
use Rattle.whole_run.proofs.LayoutParts.{layout_parts}
use Rattle.whole_run.proofs.RenderParts.{render_parts}
use Rattle.whole_run.proofs.Local.{nodes_local, rows_same}
use Rattle.whole_run.proofs.Right.{right}
use Rattle.whole_run.proofs.StopParts.{row_at}
use Rattle.whole_run.proofs.TopStops.{none_open, top, top_stop}
use Rattle.whole_run.proofs.Whole.{call_piece_lem, gives}
use Rattle.cut_rule.proofs.Memory.{same_before}

pub kept_comments_held : KeptCommentsHeld
kept_comments_held s b placed tokens text k =
    subst (λ (ts : List Text). HoldsInOrder anything (IsLine (text_bytes s b)) ts text) k.comments
    (holds_the_comments (text_bytes s b) k.these text k.made)

module _ (s b : List ℕ) where
  abbrev ds : List Declaration
  ds = declared s b

  listed_size : length (listed s b) ≡ length (comments_of b)
  listed_size = length-map (comments_of b) _

  -- nodes, rendered from the start
  drawn_made : (ns : Nodes) → CommasChosen ns → (c : RenderChoice) (z : Pen) (marks : List ℕ)
      → MadeOf (text_bytes s b) (pieces ns) (render_nodes (page c s b) ns true (renderer_of z marks)).buf
  drawn_made ns chosen c z marks =
      let a = writes_pieces c.width (ascii_columns c.rule s b) s b ns chosen true (renderer_of z marks) in
      subst (λ (t : List ℕ). MadeOf (text_bytes s b) (pieces ns) t) (sym a.same) a.made

  -- ---- a whole file
  module _ (c : FileChoice) where
    said_whole : Says (built s b c) (tokens_of b (tree s b))
    said_whole = says_the_program (given s b) (tree s b) (keeps_waiting c.mode) fresh

    text_kept : Keeps s b (built s b c).placed (tokens_of b (tree s b)) (drawn_due s b c).text
    text_kept = record {
      these = pieces (built s b c).nodes;
      made =
          subst (λ (ps : List Part). MadeOf (text_bytes s b) ps (drawn_due s b c).text) (laid_pieces c.rule s b (built s b c).nodes)
          (drawn_made (file_laid s b c) (laid_chosen c.rule s b (built s b c).nodes said_whole.chosen) (render_choice c) render_fresh.pen
          (replicate (marks_due s b c) 0));
      comments = same_comments (built s b c).nodes said_whole.chosen ∙ in_order (given s b) (tree s b) (keeps_waiting c.mode);
      others = said_whole.same;
    }

    within : (built s b c).placed ≤ length (comments_of b)
    within = ((places_whole (given s b) (tree s b) (keeps_waiting c.mode)).from fresh (omega arith)).within

    all_placed : read_refusal (read_earlier s b) ≡ None → c.mode ≡ NEW_MODE → (built s b c).placed ≡ length (listed s b)
    all_placed h new =
        ap (λ (m : ℕ). (built s b (record { width = c.width; mode = m; rule = c.rule })).placed) new
        ∙ (call_places (list s b h) (tree s b) true ds true fresh (omega arith)).placed
        ∙ sym listed_size

  -- ---- the rows laid out
  -- Read back they are nodes whose comments are those placed, and whose tokens are those of the tree as far as layout came.
  record LaidNodes (l : LayoutResult LayoutState) : Type 0 where
    nodes : Nodes
    read : nodes_at (view_of l.rows) 0 l.state.cursor.row ≡ nodes
    size : PLACES * l.state.cursor.row ≡ length l.rows
    chosen : CommasChosen nodes
    comments : comments_among (pieces nodes) ≡ take l.state.cursor.placed (listed s b)
    others : tokens_among (pieces nodes) ≡ program_to s b l.state

  module _ (q : LayoutArgs LayoutChoice) (k : q.stop ≤ length ds) where
    abbrev part : List Declaration
    part = take (q.stop - 0) (drop 0 ds)

    abbrev act : Act
    act = call_rule (given s b) (tree s b) true part true q.close (keeps_waiting q.choice.mode)

    abbrev laid : Out
    laid = act fresh

    given_due : Gives q.choice.rule s b laid (laid_to (read_earlier s b) s b q)
    given_due =
        let e = call_piece_lem (read_earlier s b) s b layout_fresh q (omega arith) k in
        gives (read_earlier s b) s b q act (ap (λ (p : Piece). p.rows) e) (ap (λ (p : Piece). p.cursor) e)

    said : Says laid (shebang_tokens b (tree s b).shebang & declarations_tokens part)
    said = call_says_its_part (given s b) (tree s b) true part true q.close (keeps_waiting q.choice.mode) fresh

    placed : comments_in_nodes laid.nodes ≡ take laid.placed (listed s b)
    placed =
        let m : laid.placed - 0 ≡ laid.placed = omega arith in
        ((places_call (given s b) (tree s b) true part true q.close (keeps_waiting q.choice.mode)).from fresh (omega arith)).same
        ∙ ap (λ (i : ℕ). take i (listed s b)) m

    laid_nodes : LaidNodes (laid_to (read_earlier s b) s b q)
    laid_nodes =
        let ns = laid_by q.choice.rule s b laid.nodes in
        let same = laid_pieces q.choice.rule s b laid.nodes in
        let stop : q.stop - 0 ≡ q.stop = omega arith in
        record {
          nodes = ns;
          read =
              ap₂ (λ (x : List ℕ) (n : ℕ). nodes_at (view_of x) 0 n) given_due.rows_due_of
              (given_due.row_due ∙ sym (laid_size q.choice.rule s b laid.nodes) ∙ sym (zero-add (sizes ns)))
              ∙ flattened ns (rows ns 0) 0 (take-length (rows ns 0));
          size =
              omega (arith, given_due.row_due, ap (λ (x : List ℕ). length x) given_due.rows_due_of, length_rows ns 0, laid_size q.choice.rule s b laid.nodes);
          chosen = laid_chosen q.choice.rule s b laid.nodes said.chosen;
          comments = ap comments_among same ∙ same_comments laid.nodes said.chosen ∙ placed ∙ ap (λ (n : ℕ). take n (listed s b)) (sym given_due.placed_due);
          others = ap tokens_among same ∙ said.same ∙ ap (λ (n : ℕ). shebang_tokens b (tree s b).shebang & declarations_tokens (take n ds)) stop;
        }

  due_nodes : (o : Option (LayoutArgs LayoutChoice))
      → LaidFits (parts_of s b) (layout_parts (read_earlier s b) s b) (render_parts s b (read_earlier s b)) o → LaidNodes (layout_due (rules_of s b) o)
  unfolding pieces comments_among tokens_among CommasChosen declarations_tokens
  due_nodes None k = record { nodes = no_nodes; read = nodes_none _ 0 0 (omega arith); size = refl; chosen = tt; comments = refl; others = refl }
  due_nodes (Some q) k = laid_nodes q k.to

  -- ---- the rows rendered
  -- They nest, and the text is made of their pieces, where their `IfWrap`s choose between a comma and nothing.
  record ShownNodes (store : List ℕ) (d : RenderResult RenderState) : Type 0 where
    room : PLACES * d.state.row ≤ length store
    nests : Nests (view_of store) 0 d.state.row 0
    made : CommasChosen (nodes_at (view_of store) 0 d.state.row) → MadeOf (text_bytes s b) (pieces_between store 0 d.state.row) d.text

  shown_nodes : (store : List ℕ) (d : Option (RenderedTo RenderChoice))
      → RenderedRight (parts_of s b) (layout_parts (read_earlier s b) s b) (render_parts s b (read_earlier s b)) store d
      → (render_due (rules_of s b) store d).state.listed ≡ []
      → ShownNodes store (render_due (rules_of s b) store d)
  unfolding pieces
  shown_nodes store None k none = record {
    room = omega arith;
    nests = over refl;
    made = λ chosen. subst (λ (ns : Nodes). MadeOf (text_bytes s b) (pieces ns) []) (sym (nodes_none (view_of store) 0 0 (omega arith))) (rest nothing);
  }
  shown_nodes store (Some p) k none =
      let marks : List ℕ = with_cleared (parts_of s b) [] (marks_needed (p.to.stop - 0) store 0) in
      let g = (right p.to.choice.rule s b store 0 p.to.stop (omega arith) k.1).nests in
      let row = (drawn s b render_fresh p.to p.entered marks store).row in
      let low = (row_at s b p.to marks store g p.entered).1 in
      record {
        room = omega (arith, k.0, low);
        nests = top s b p.to p.entered marks store g none;
        made =
            λ chosen.
            subst (λ (y : Drawn). MadeOf (text_bytes s b) (pieces_between store 0 row) y.text) (sym (top_stop s b p.to p.entered marks store g none))
            (drawn_made (nodes_at (view_of store) 0 row) chosen p.to.choice render_fresh.pen marks);
      }

  -- where all rows are rendered, none is open
  none_waiting : (store : List ℕ) (d : Option (RenderedTo RenderChoice))
      → RenderedRight (parts_of s b) (layout_parts (read_earlier s b) s b) (render_parts s b (read_earlier s b)) store d
      → PLACES * (render_due (rules_of s b) store d).state.row ≡ length store
      → (render_due (rules_of s b) store d).state.listed ≡ []
  none_waiting store None k e = refl
  none_waiting store (Some p) k e =
      let marks : List ℕ = with_cleared (parts_of s b) [] (marks_needed (p.to.stop - 0) store 0) in
      let g = (right p.to.choice.rule s b store 0 p.to.stop (omega arith) k.1).nests in
      let low = (row_at s b p.to marks store g p.entered).1 in
      none_open s b p.to p.entered marks store g (omega (arith, e, k.0, low))

  -- ---- both, in a store with other rows behind
  module _ (store₀ marks₀ : List ℕ) (f : Progress (rules_of s b)) (l : LaidNodes (laid_due (rules_of s b) f))
      (d : ShownNodes (laid_due (rules_of s b) f).rows (rendered_due (rules_of s b) f)) where
    abbrev v : Carried (rules_of s b)
    v = due (rules_of s b) store₀ marks₀ f

    abbrev own : List ℕ
    own = (laid_due (rules_of s b) f).rows

    abbrev row : ℕ
    row = v.render_state_of.row

    abbrev end : ℕ
    end = v.layout_state_of.cursor.row

    stored : (i j : ℕ) → PLACES * j ≤ length own → nodes_at (view_of v.store) i j ≡ nodes_at (view_of own) i j
    stored i j h = nodes_local (view_of v.store) (view_of own) i j (rows_same j v.store own (same_before j own _ h) i)

    -- the rows laid out are those rendered and the others
    parts : l.nodes ≡ join (nodes_at (view_of v.store) 0 row) (nodes_at (view_of v.store) row end)
    parts =
        sym l.read
        ∙ nodes_join end d.nests (omega (arith, d.room, l.size))
        ∙ ap₂ join (sym (stored 0 row d.room)) (sym (stored row end (omega (arith, l.size))))

    so_far : SoFar s b v
    so_far =
        let front = nodes_at (view_of v.store) 0 row in
        let back = nodes_at (view_of v.store) row end in
        let chosen : CommasChosen front = chosen_before front back (subst CommasChosen parts l.chosen) in
        record {
          made =
              subst (λ (ns : Nodes). MadeOf (text_bytes s b) (pieces ns) v.text) (sym (stored 0 row d.room))
              (d.made (subst CommasChosen (stored 0 row d.room) chosen));
          comments = sym (comments_in_parts front back) ∙ ap (λ (ns : Nodes). comments_among (pieces ns)) (sym parts) ∙ l.comments;
          others = sym (tokens_in_parts front back) ∙ ap (λ (ns : Nodes). tokens_among (pieces ns)) (sym parts) ∙ l.others;
        }

  -- ---- where no row waits
  module _ (w : Carried (rules_of s b)) (x : SoFar s b w) (e : AllRendered s b w) where
    none_waits : pieces_between w.store w.render_state_of.row w.layout_state_of.cursor.row ≡ []
    unfolding pieces
    none_waits = ap pieces (nodes_none (view_of w.store) w.render_state_of.row w.layout_state_of.cursor.row (omega (arith, e)))

    is_so_far : IsSoFar s b w
    unfolding comments_among tokens_among
    is_so_far =
        let front = pieces_between w.store 0 w.render_state_of.row in
        record {
          these = front;
          made = x.made;
          comments = sym (append-nil (comments_among front)) ∙ ap (λ (ps : List Part). comments_among front ++ comments_among ps) (sym none_waits) ∙ x.comments;
          others = sym (append-nil (tokens_among front)) ∙ ap (λ (ps : List Part). tokens_among front ++ tokens_among ps) (sym none_waits) ∙ x.others;
        }

  -- closed, the program so far is the whole
  all_said : (o : Option (LayoutArgs LayoutChoice)) → LaidFits (parts_of s b) (layout_parts (read_earlier s b) s b) (render_parts s b (read_earlier s b)) o
      → (layout_due (rules_of s b) o).state.closed ≡ true
      → program_to s b (layout_due (rules_of s b) o).state ≡ tokens_of b (tree s b)
  all_said None k h = let z : ◌≡◌ {A = ℕ} 0 1 = cc in absurd (omega arith)
  all_said (Some q) k h =
      ap (λ (n : ℕ). shebang_tokens b (tree s b).shebang & declarations_tokens (take n ds)) (k.closes_at_end h)
      ∙ ap (λ (l : List Declaration). shebang_tokens b (tree s b).shebang & declarations_tokens l) (take_all (length ds) ds (omega arith))

pub text_is_the_program : TextIsTheProgram
text_is_the_program = text_kept

pub new_mode_places_all : NewModePlacesAll
new_mode_places_all = all_placed

pub output_is_the_program : OutputIsTheProgram
output_is_the_program s b c out r e =
    let text = (drawn_due s b c).text in
    let a = accepted_by (file_refusal s b c (length out)) r (file_result s b c) (sym e) in
    let size : r.bytes ≡ length text = ap (λ (x : FileResult). x.bytes) a.is in
    let n : r.left ≡ length (comments_of b) - (built s b c).placed = ap (λ (x : FileResult). x.left) a.is in
    let same : text ≡ take r.bytes (file_output s b c out) =
    sym
    (ap₂ (λ (k : ℕ) (o : Option Refusal). take k (unless o out (write_front text out))) size a.passes
    ∙ take-append_seam text (drop (length text) out))
    in
    subst₂ (λ (k : ℕ) (t : List ℕ). IsProgram s b k t) (omega (arith, n, within s b c, listed_size s b)) same (text_kept s b c)

pub calls_keep_the_text : CallsKeepTheText
calls_keep_the_text s b store₀ marks₀ calls h =
    let R = rules_of s b in
    let w = run R (start R store₀ marks₀) calls in
    let f = plain R store₀ marks₀ (at_first R) calls in
    let cut = rules_cut (read_earlier s b) s b store₀ marks₀ calls h in
    let k = came_to (parts_of s b) (layout_parts (read_earlier s b) s b) (render_parts s b (read_earlier s b)) store₀ marks₀ calls h in
    let same = cut.same in
    let laid = due_nodes s b f.laid_to_of k.laid in
    let so : w.render_state_of.listed ≡ [] → SoFar s b w =
    λ none.
    subst (λ (v : Carried R). SoFar s b v) (sym same)
    (so_far s b store₀ marks₀ f laid
    (shown_nodes s b (laid_due R f).rows f.rendered_to k.rendered (sym (ap (λ (v : Carried R). v.render_state_of.listed) same) ∙ none)))
    in
    let open_none : AllRendered s b w → w.render_state_of.listed ≡ [] =
    λ e.
    ap (λ (v : Carried R). v.render_state_of.listed) same
    ∙ none_waiting s b (laid_due R f).rows f.rendered_to k.rendered
    (ap (λ (v : Carried R). PLACES * v.render_state_of.row) (sym same)
    ∙ ap (λ (n : ℕ). PLACES * n) e
    ∙ ap (λ (v : Carried R). PLACES * v.layout_state_of.cursor.row) same
    ∙ laid.size)
    in
    let whole : AllRendered s b w → w.layout_state_of.closed ≡ true → IsWhole s b w =
    λ e closed.
    let all : program_to s b w.layout_state_of ≡ tokens_of b (tree s b) =
    ap (λ (v : Carried R). program_to s b v.layout_state_of) cut.same
    ∙ all_said s b f.laid_to_of k.laid (ap (λ (v : Carried R). v.layout_state_of.closed) (sym cut.same) ∙ closed)
    in
    subst (λ (ts : List Token). Keeps s b w.layout_state_of.cursor.placed ts w.text) all (is_so_far s b w (so (open_none e)) e)
    in
    record {
      so_far = so;
      rendered = λ e. is_so_far s b w (so (open_none e)) e;
      closed = whole;
      all =
          λ e closed new.
          let left = (closed_holds_all s b store₀ marks₀ calls closed new).left in
          let n = w.layout_state_of.cursor.placed in
          let most : length (listed s b) ≤ n = omega (arith, (cut.comments 0 left).others, length-drop n (listed s b)) in
          let same : take n (listed s b) ≡ take (length (listed s b)) (listed s b) =
          take_all n (listed s b) most ∙ sym (take_all (length (listed s b)) (listed s b) (omega arith))
          in
          let y = whole e closed in
          record { these = y.these; made = y.made; comments = y.comments ∙ same; others = y.others };
    }
