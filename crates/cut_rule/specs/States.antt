-- Document 01's carried states, and what a call may choose.
use Rattle.std.specs.Prelude.{Bool, false, List, [], ℕ}
use Rattle.renderer_rules.specs.declared.Pen.{Pen}
use Rattle.renderer_rules.specs.Stops.{OpenRow}

-- the numbers that a step of layout changes
pub record Cursor : Type 0 where
  pub row : ℕ
  pub number : ℕ
  pub placed : ℕ
  pub position : ℕ

-- "Layout state: begun, closed, next declaration, next row, next number, comments placed, position." "The layout state carries the mode". "Both
-- states carry the choice" of a rule: "0 none yet".
pub record LayoutState : Type 0 where
  pub begun : Bool
  pub closed : Bool
  pub declaration : ℕ
  pub cursor : Cursor
  pub mode : ℕ
  pub rule : ℕ

-- "Rendering state: `indent`, `next_indent`, `column`, marks in use, next row"; and the width "carried in the rendering state (0: none yet)"; and the rule.
-- "The state lists the rows that enclose the next one, .. outermost first" (document 02, 12).
pub record RenderState : Type 0 where
  pub pen : Pen
  pub in_use : ℕ
  pub row : ℕ
  pub width : ℕ
  pub rule : ℕ
  pub listed : List OpenRow

-- "Fresh is all 0."
abbrev pub layout_fresh : LayoutState
layout_fresh = record { begun = false; closed = false; declaration = 0; cursor = record { row = 0; number = 0; placed = 0; position = 0 }; mode = 0; rule = 0 }

abbrev pub render_fresh : RenderState
render_fresh = record { pen = record { indent = 0; next_indent = 0; column = record { 0 = 0 } }; in_use = 0; row = 0; width = 0; rule = 0; listed = [] }

-- What closing does with comments that wait: "0 old", they "stay in the list"; "1 new", it "places every waiting comment" (document 02, 4).
abbrev pub OLD_MODE : ℕ
OLD_MODE = 0

abbrev pub NEW_MODE : ℕ
NEW_MODE = 1

-- What a call may choose beside its stop. Later tickets add fields.
pub record LayoutChoice : Type 0 where
  pub mode : ℕ
  pub rule : ℕ

-- "The `max` of `Renderer` is 80. Let the caller choose": the width; and the rule of width
pub record RenderChoice : Type 0 where
  pub width : ℕ
  pub rule : ℕ
