-- Document 01's rules for one source s and one image b, as the cut rule takes them. Each part is a definition of a lower layer; here they are
-- only put together.
use Rattle.std.specs.Prelude.{Bool, cond, not, ◌&&◌, List, [], ◌∷◌, ◌++◌, map, ℕ, ◌+◌, ◌-◌, min, eqb, length, get_or, replicate, Option, None, Some}
use Rattle.text.specs.Utf8.{ill_formed}
use Rattle.text.specs.Space.{trim_end}
use Rattle.image.specs.Read.{Read, got, bad, Image, version, header_fits, any_version, source_fits, read_all, read_earlier, read_refusal}
use Rattle.ast.specs.Syntax.{Declaration, SyntaxTree}
use Rattle.tree.specs.Records.{syntax_tree}
use Rattle.rows.specs.Rows.{sizes, rows}
use Rattle.rows.specs.Limits.{MAX_DEPTH}
use Rattle.rows.specs.View.{View, view_of}
use Rattle.marks.specs.Marks.{marks_needed}
use Rattle.acts.specs.Act.{Act, skip}
use Rattle.comments.specs.Comments.{nth}
use Rattle.tree.specs.CommentList.{comments_of}
use Rattle.comments.specs.Listed.{given}
use Rattle.layout.specs.Layout.{shebang_rule, declaration}
use Rattle.layout.specs.Closing.{closing}
use Rattle.renderer_rules.specs.declared.Frame.{Frame}
use Rattle.renderer_rules.specs.Frames.{no_frame}
use Rattle.renderer_rules.specs.Renderer.{Page, Renderer, fresh_renderer}
use Rattle.renderer_rules.specs.Stops.{Stop, stop_at, ahead, meaning}
use Rattle.renderer_rules.specs.Listed.{resumed}
use Rattle.renderer_rules.specs.Check.{wrong_place_by}
use Rattle.widths.specs.Rules.{SUPPLIED, UNICODE_16_0}
use Rattle.node_widths.specs.Summed.{laid_nodes}
use Rattle.node_widths.specs.Measured.{rule_page}
use Rattle.refusals.specs.Refusals.{Refusal, first, refuse_if}
use Rattle.rows.specs.Node.{Text}
use Rattle.renderer_rules.specs.declared.Pen.{Pen}
use Rattle.cut_rule.specs.Rules.{RenderTo}
use Rattle.cut_rule.specs.States.{RenderChoice, Cursor, RenderState, NEW_MODE}
use Rattle.cut_rule.specs.Parts.{Piece, Drawn, RuleParts}

-- ---- source and image
-- the syntax tree of an accepted image; nothing is laid out of another
abbrev pub accepted_tree : List ℕ → Read Image → SyntaxTree
accepted_tree b (got i end) = syntax_tree b i.tree
accepted_tree b (bad n p) = record { shebang = None; declarations = [] }

-- "20 also for a first byte 2 under any other width rule" than 16.0: version 2 has no widths of its own
abbrev pub other_rule : List ℕ → ℕ → Bool
other_rule b rule = eqb (version b) 2 && not (eqb rule UNICODE_16_0)

-- "under the new rule rendering tests 2 as well": what refuses by it, unless widths are supplied
abbrev pub formed_line : ℕ → List ℕ → Option Refusal
formed_line rule s = cond (eqb rule SUPPLIED) None (ill_formed s)

-- "rendering 1, 3 by the same tests"
abbrev pub render_image : ℕ → List ℕ → List ℕ → Option Refusal
render_image rule s b = first (refuse_if (not (source_fits s)) 1 0 ∷ formed_line rule s ∷ refuse_if (not (header_fits any_version b)) 3 0 ∷ [])

-- the comment list as `Comment` rows have it: of the source, trimmed at the end
abbrev pub listed : List ℕ → List ℕ → List Text
listed s b = map (λ c. record { origin = 0; start = c.start; size = trim_end s c.start c.end - c.start }) (comments_of b)

-- ---- layout
-- a step of the layout rules, from a cursor: its nodes, with the sums of the rule in each `Str`, as rows, the first of them the cursor's next row
abbrev pub act_piece : ℕ → List ℕ → List ℕ → Act → Cursor → Piece
act_piece rule s b a c =
    let o = a (record { number = c.number; pos = c.position; placed = c.placed }) in
    record {
      cursor = record { row = c.row + sizes o.nodes; number = c.number + o.taken; placed = o.placed; position = o.pos };
      rows = rows (laid_nodes rule s b o.nodes) c.row;
    }

-- a declaration; `first` of `fmt_parsed` is that the next declaration is 0
abbrev pub declaration_act : List ℕ → List ℕ → ℕ → Option Declaration → Act
declaration_act s b n None = skip
declaration_act s b n (Some d) = declaration (given s b) d (eqb n 0)

-- whether closing keeps the comments that wait: in the new mode alone
abbrev pub keeps_waiting : ℕ → Bool
keeps_waiting mode = eqb mode NEW_MODE

-- ---- rendering
-- `Renderer` as a call makes it
abbrev pub renderer_of : Pen → List ℕ → Renderer
renderer_of z marks = fresh_renderer z marks

-- "The rules are the Rust's with that number": the width is `max`; `Ascii` texts measure by the rule
abbrev pub page : RenderChoice → List ℕ → List ℕ → Page
page c s b = rule_page c.width c.rule s b

-- the rows that a state lists, as they go on
abbrev pub open_rows : View → RenderState → List Frame
open_rows v z = map (resumed v z.row) z.listed ++ replicate (MAX_DEPTH - length z.listed) no_frame

-- what a call takes from where a rendering stopped, and how many rows it entered
abbrev pub drawn_at : Stop → ℕ → Drawn
drawn_at e n = record {
  pen = e.state.pen;
  listed = e.listed;
  row = e.next;
  marks = e.state.marks;
  text = e.state.buf;
  entered = n;
}

-- all rendered, up to a row
abbrev pub whole_drawn : ℕ → ℕ → Renderer → Drawn
whole_drawn row n r = drawn_at (stop_at row [] r) n

-- what a whole file takes from it
pub record Shown : Type 0 where
  pub pen : Pen
  pub marks : List ℕ
  pub text : List ℕ

abbrev pub shown_by : Renderer → Shown
shown_by r = record { pen = r.pen; marks = r.marks; text = r.buf }

module _ (s b : List ℕ) (z : RenderState) (q : RenderTo RenderChoice) (marks store : List ℕ) where
  -- from a state, over the rows up to the stop: the rows that are still entered, and the end
  abbrev pub still_entered : List Stop
  still_entered =
      let v = view_of store in
      ahead v (page q.choice s b) q.stop (open_rows v z) (length z.listed) z.row (renderer_of z.pen marks)

  abbrev pub all_rendered : Stop
  all_rendered =
      let v = view_of store in
      stop_at q.stop [] (meaning v (page q.choice s b) q.stop (open_rows v z) (length z.listed) z.row (renderer_of z.pen marks))

-- A rendering that may enter n rows stops where row n + 1 would be entered, or in the end.
abbrev pub stopped : List ℕ → List ℕ → RenderState → RenderTo RenderChoice → ℕ → List ℕ → List ℕ → Stop
stopped s b z q n marks store = get_or (still_entered s b z q marks store) n (all_rendered s b z q marks store)

abbrev pub drawn : List ℕ → List ℕ → RenderState → RenderTo RenderChoice → ℕ → List ℕ → List ℕ → Drawn
drawn s b z q n marks store = drawn_at (stopped s b z q n marks store) (min n (length (still_entered s b z q marks store)))

-- the greatest value that `column` is set to there
abbrev pub widest_drawn : List ℕ → List ℕ → RenderState → RenderTo RenderChoice → ℕ → List ℕ → List ℕ → ℕ
widest_drawn s b z q n marks store = (stopped s b z q n marks store).state.widest

-- ---- the whole
-- By what the earlier rule read of the image, whose tree is laid out: another way to read is another r. What the strict rule refuses it
-- refuses besides; what it accepts it accepts with the same tree (`StrictIsEarlier`).
abbrev pub parts_by : Read Image → List ℕ → List ℕ → RuleParts
parts_by r s b =
    let tree = accepted_tree b r in
    record {
      source_size = length s;
      declarations = length tree.declarations;
      comments = length (comments_of b);
      other_rule = other_rule b;
      layout_image = λ archive. cond archive (read_refusal r) (read_refusal (read_all s b));
      render_image_of = λ c. render_image c.rule s b;
      shebang = λ k. act_piece k.rule s b (shebang_rule (given s b) tree.shebang);
      declaration = λ k n. act_piece k.rule s b (declaration_act s b n (nth tree.declarations n));
      final = λ k. act_piece k.rule s b (closing (given s b) tree (keeps_waiting k.mode));
      wrong_row = λ c. wrong_place_by c.rule s b;
      needed = λ store i stop. marks_needed (stop - i) store i;
      draw = drawn s b;
    }

abbrev pub parts_of : List ℕ → List ℕ → RuleParts
parts_of s b = parts_by (read_earlier s b) s b
