-- What is claimed of the rules; proofs/Demands.antt proves it, and nothing is assumed. The demands of the functions, by what they promise, are
-- in crates/demands/specs; they rest on these. The marked edges are in Edges.antt, a whole file in File.antt.
use Rattle.std.specs.Prelude.{◌≡◌, Bool, true, false, List, [], ℕ, ◌-◌, ◌≤◌, length, take, None}
use Rattle.image.specs.Read.{Read, Image, read_all, read_earlier, read_refusal}
use Rattle.ast.specs.Syntax.{SyntaxTree}
use Rattle.rows.specs.Limits.{MAX_ROWS, MAX_NUMBER}
use Rattle.rows.specs.Rows.{sizes, rows}
use Rattle.acts.specs.Act.{Out}
use Rattle.tree.specs.CommentList.{comments_of}
use Rattle.comments.specs.Listed.{given}
use Rattle.layout.specs.Layout.{fmt_parsed}
use Rattle.layout.specs.Closing.{fresh, up_to, whole_rule}
use Rattle.renderer_rules.specs.Renderer.{render_nodes}
use Rattle.node_widths.specs.Summed.{laid_nodes}
use Rattle.renderer_rules.specs.Check.{wrong_place_by}
use Rattle.cut_rule.specs.Rules.{LayoutArgs, RenderTo, LayoutResult, Rules}
use Rattle.cut_rule.specs.Run.{Call, start}
use Rattle.cut_rule.specs.Entries.{layout_answer, layout_store}
use Rattle.cut_rule.specs.Plain.{AllReadLaid}
use Rattle.cut_rule.specs.CutRule.{CutRule}
use Rattle.cut_rule.specs.States.{LayoutChoice, RenderChoice, LayoutState, RenderState, layout_fresh, OLD_MODE}
use Rattle.cut_rule.specs.Parts.{laid_of, rules}
use Rattle.whole_run.specs.Parts.{accepted_tree, listed, keeps_waiting, renderer_of, whole_drawn, page, drawn, parts_by}

-- the rules and the table for one source s and one image b, by what was read of the image
abbrev pub rules_by : Read Image → List ℕ → List ℕ → Rules
rules_by r s b = rules (parts_by r s b)

abbrev pub rules_of : List ℕ → List ℕ → Rules
rules_of s b = rules_by (read_earlier s b) s b

-- ---- the cut rule
-- The cut rule: for every source and image, whatever was read of it, whatever store and marks held at first, and every list of calls in which no
-- accepted call reads rows not yet laid out.
abbrev pub RulesCut : Type 0
RulesCut =
    (r : Read Image) (s b store₀ marks₀ : List ℕ) (calls : List (Call (rules_by r s b)))
    → AllReadLaid (rules_by r s b) (start (rules_by r s b) store₀ marks₀) calls
    → CutRule (rules_by r s b) (listed s b) store₀ marks₀ calls

-- ---- the archive entry
-- the arguments of a layout call, by whether it is the archive entry's
abbrev pub asked : Bool → ℕ → Bool → LayoutChoice → LayoutArgs LayoutChoice
asked archive stop close k = record { stop = stop; close = close; choice = k; archive = archive }

-- "an archive entry reads by the earlier rule and answers as before": what it answers and leaves of a source and an image that the strict rule
-- accepts is what the other entry does, from every state and in every store.
pub record SameByEntry (s b store : List ℕ) (z : LayoutState) (q : Bool → LayoutArgs LayoutChoice) : Type 0 where
  pub answer : layout_answer (rules_of s b) (q true) z store ≡ layout_answer (rules_of s b) (q false) z store
  pub store_left_of : layout_store (rules_of s b) (q true) z store ≡ layout_store (rules_of s b) (q false) z store

abbrev pub EntriesAgree : Type 0
EntriesAgree =
    (s b store : List ℕ) (z : LayoutState) (stop : ℕ) (close : Bool) (k : LayoutChoice) → read_refusal (read_all s b) ≡ None
    → SameByEntry s b store z (λ archive. asked archive stop close k)

-- ---- what is due at a stop
-- what layout gives is what a step of the layout rules gives: its nodes as rows, its numbers, its position, the comments that it placed; and
-- these rows render as the nodes do, from every state at row 0, whatever is chosen. The nodes have the sums of the rule that layout chose.
pub record Gives (rule : ℕ) (s b : List ℕ) (o : Out) (l : LayoutResult LayoutState) : Type 0 where
  pub rows_due_of : l.rows ≡ rows (laid_nodes rule s b o.nodes) 0
  pub row_due : l.state.cursor.row ≡ sizes o.nodes
  pub number_due : l.state.cursor.number ≡ o.taken
  pub position_due : l.state.cursor.position ≡ o.pos
  pub placed_due : l.state.cursor.placed ≡ o.placed
  pub left_due_of : l.left ≡ length (comments_of b) - o.placed
  pub drawn_due_of : (c : RenderChoice) (z : RenderState) (n : ℕ) (marks : List ℕ) → z.row ≡ 0 → z.listed ≡ [] → l.state.cursor.row ≤ n
      → (let q : RenderTo RenderChoice = record { stop = l.state.cursor.row; choice = c } in
      drawn s b z q n marks l.rows
      ≡ whole_drawn q.stop (drawn s b z q n marks l.rows).entered
      (render_nodes (page c s b) (laid_nodes rule s b o.nodes) true (renderer_of z.pen marks)))

-- layout from fresh, in one go
abbrev pub laid_to : Read Image → List ℕ → List ℕ → LayoutArgs LayoutChoice → LayoutResult LayoutState
laid_to r s b q = laid_of (parts_by r s b) layout_fresh q

-- the arguments that name a stop, by what is chosen, and close there or not
abbrev pub stopping_at : LayoutChoice → ℕ → LayoutArgs LayoutChoice
stopping_at k n = asked false n false k

abbrev pub closing_at : LayoutChoice → ℕ → LayoutArgs LayoutChoice
closing_at k n = asked false n true k

-- "The rows and state due at a stop are those `fmt_parsed` has when its loop reaches that declaration", whatever the mode, and closed in the old
-- mode, those that it has in the end. Closed in the new mode, the same, with the comments that wait before the final `Line`. (Of an image that
-- is refused nothing is laid out but what closing adds.)
pub record FmtParsed (r : Read Image) (s b : List ℕ) (t : SyntaxTree) : Type 0 where
  pub at_stop : (k : LayoutChoice) (n : ℕ) → n ≤ length t.declarations
      → Gives k.rule s b (up_to (given s b) t (take n t.declarations) fresh) (laid_to r s b (stopping_at k n))
  pub closed : (k : LayoutChoice) → k.mode ≡ OLD_MODE
      → Gives k.rule s b (fmt_parsed (given s b) t fresh) (laid_to r s b (closing_at k (length t.declarations)))
  pub closed_in : (k : LayoutChoice)
      → Gives k.rule s b (whole_rule (given s b) t (keeps_waiting k.mode) fresh) (laid_to r s b (closing_at k (length t.declarations)))

abbrev pub DueIsFmtParsed : Type 0
DueIsFmtParsed = (r : Read Image) (s b : List ℕ) → FmtParsed r s b (accepted_tree b r)

-- ---- what is laid out of an image that is accepted, by the earlier rule or by both
-- It is within document 01's limits: 11 finds nothing wrong with its rows, by no rule ("That no accepted tree yields deeper rows is proved"), and 12 none of
-- its numbers too large.
pub record Limited (s b : List ℕ) (l : LayoutResult LayoutState) : Type 0 where
  pub right : (rule : ℕ) → wrong_place_by rule s b l.rows 0 l.state.cursor.row ≡ None
  pub rows_few : l.state.cursor.row ≤ MAX_ROWS
  pub numbers_few : l.state.cursor.number ≤ MAX_NUMBER
  pub position_in : l.state.cursor.position ≤ length s
  pub placed_in : l.state.cursor.placed ≤ length (comments_of b)

pub record AllLimited (r : Read Image) (s b : List ℕ) (t : SyntaxTree) : Type 0 where
  pub at_stop : (k : LayoutChoice) (n : ℕ) → n ≤ length t.declarations → Limited s b (laid_to r s b (stopping_at k n))
  pub closed : (k : LayoutChoice) → Limited s b (laid_to r s b (closing_at k (length t.declarations)))

abbrev pub LaidWithinLimits : Type 0
LaidWithinLimits =
    (s b : List ℕ) → read_refusal (read_earlier s b) ≡ None → AllLimited (read_earlier s b) s b (accepted_tree b (read_earlier s b))
