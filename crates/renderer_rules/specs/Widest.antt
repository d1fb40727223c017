-- The greatest value that `column` of `Renderer` takes.
use Rattle.std.specs.Prelude.{ℕ, ◌≡◌, true, List}
use Rattle.rows.specs.Node.{Text, Nodes, indent, line, comment, none, ◌then◌}
use Rattle.renderer_rules.specs.declared.Pen.{Pen}
use Rattle.renderer_rules.specs.Renderer.{Page, fresh_renderer, render_nodes}

-- the pen of a `Renderer` that was just made: all 0
abbrev pub fresh_pen : Pen
fresh_pen = record { indent = 0; next_indent = 0; column = record { 0 = 0 } }

-- "greatest value `column` takes", as these nodes are rendered from the start; 0 before the first
abbrev pub greatest_column : Page → Nodes → List ℕ → ℕ
greatest_column p ns marks = (render_nodes p ns true (fresh_renderer fresh_pen marks)).widest

-- the indent of a comment counts, though `comment` leaves `column` at 0: an `Indent` that wraps, of a `Line` and a `Comment`
abbrev pub CommentCounts : Type 0
CommentCounts = (p : Page) (t : Text) (marks : List ℕ) → greatest_column p (indent (line then comment t then none) then none) marks ≡ 4
