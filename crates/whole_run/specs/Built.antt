-- What `fmt_parsed` builds of one source s and one image b, and what `Renderer` makes of it, in the mode and at the width that a caller chooses.
use Rattle.std.specs.Prelude.{true, List, ℕ, replicate}
use Rattle.widths.specs.Rules.{SUPPLIED}
use Rattle.rows.specs.Node.{Nodes}
use Rattle.node_widths.specs.Summed.{laid_nodes}
use Rattle.image.specs.Read.{read_earlier}
use Rattle.ast.specs.Syntax.{Declaration, SyntaxTree}
use Rattle.rows.specs.Rows.{sizes, rows}
use Rattle.marks.specs.Marks.{marks_needed}
use Rattle.acts.specs.Act.{Out}
use Rattle.comments.specs.Listed.{given}
use Rattle.layout.specs.Closing.{fresh, whole_rule}
use Rattle.renderer_rules.specs.Renderer.{render_nodes}
use Rattle.renderer_rules.specs.Widest.{greatest_column}
use Rattle.cut_rule.specs.Limits.{REFERENCE_WIDTH}
use Rattle.cut_rule.specs.States.{LayoutChoice, RenderChoice, render_fresh, OLD_MODE}
use Rattle.whole_run.specs.Parts.{accepted_tree, keeps_waiting, renderer_of, Shown, shown_by, page}

-- What a caller of a whole file chooses: "other entries over whole files take their caller's choice".
pub record FileChoice : Type 0 where
  pub width : ℕ
  pub mode : ℕ
  pub rule : ℕ

-- "The program and the report keep 80 and, in every later choice, what equals the Rust"
abbrev pub reference_choice : FileChoice
reference_choice = record { width = REFERENCE_WIDTH; mode = OLD_MODE; rule = SUPPLIED }

-- what its layout call and its rendering call choose
abbrev pub layout_choice : FileChoice → LayoutChoice
layout_choice c = record { mode = c.mode; rule = c.rule }

abbrev pub render_choice : FileChoice → RenderChoice
render_choice c = record { width = c.width; rule = c.rule }

module _ (s b : List ℕ) where
  -- the tree that was read, by the strict rule or the earlier one, and its declarations
  abbrev pub tree : SyntaxTree
  tree = accepted_tree b (read_earlier s b)

  abbrev pub declared : List Declaration
  declared = tree.declarations

  -- what is built in the mode: in the old one by `fmt_parsed`
  abbrev pub built : FileChoice → Out
  built c = whole_rule (given s b) tree (keeps_waiting c.mode) fresh

  -- its nodes, with the sums of the rule
  abbrev pub laid : FileChoice → Nodes
  laid c = laid_nodes c.rule s b (built c).nodes

  -- "rows needed in all"
  abbrev pub rows_due : FileChoice → ℕ
  rows_due c = sizes (built c).nodes

  -- "largest number in the rows plus 1"
  abbrev pub marks_due : FileChoice → ℕ
  marks_due c = marks_needed (rows_due c) (rows (laid c) 0) 0

  -- what `Renderer` makes of it, with the width and that many marks, all cleared
  abbrev pub drawn_due : FileChoice → Shown
  drawn_due c = shown_by (render_nodes (page (render_choice c) s b) (laid c) true (renderer_of render_fresh.pen (replicate (marks_due c) 0)))

  -- "greatest value `column` takes"
  abbrev pub column_due : FileChoice → ℕ
  column_due c = greatest_column (page (render_choice c) s b) (laid c) (replicate (marks_due c) 0)
