-- What the cut rule (demand 3 of document 01) speaks of: the rules of layout and rendering and the table of refusals, for one source and one
-- image. They are left open here, so that the rule is proved once; Parts.antt has document 01's.
use Rattle.std.specs.Prelude.{Bool, List, ℕ, Option}
use Rattle.refusals.specs.Refusals.{Refusal}

-- "A layout call names the declaration to stop before and whether to close." `choice` is what "later tickets add". `archive` tells the call's
-- entry: "an archive entry reads by the earlier rule" (document 02, 10). It is no choice, and no state carries it.
pub record LayoutArgs (Choice : Type 0) : Type 0 where
  pub stop : ℕ
  pub close : Bool
  pub choice : Choice
  pub archive : Bool

-- How far a rendering goes, and what it chooses: "A rendering call names the row to stop before".
pub record RenderTo (Choice : Type 0) : Type 0 where
  pub stop : ℕ
  pub choice : Choice

-- "A rendering call is given a number of rows it may enter" (document 02, 12): its allotment. `room` is the length of the output that it is lent.
pub record RenderArgs (Choice : Type 0) : Type 0 where
  pub to : RenderTo Choice
  pub allotment : ℕ
  pub room : ℕ

-- What layout gives: the new state, the rows that it adds (nine numbers a row), "the number of comments left".
pub record LayoutResult (State : Type 0) : Type 0 where
  pub state : State
  pub rows : List ℕ
  pub left : ℕ

-- What rendering gives: the new state, the marks then in use, the text, and how many rows it entered.
pub record RenderResult (State : Type 0) : Type 0 where
  pub state : State
  pub marks : List ℕ
  pub text : List ℕ
  pub entered : ℕ

pub record Rules : Type 1 where
  pub LayoutState : Type 0
  pub RenderState : Type 0
  pub LayoutChoice : Type 0
  pub RenderChoice : Type 0
  -- "Fresh is all 0."
  pub layout_fresh_of : LayoutState
  pub render_fresh_of : RenderState
  -- layout's next row, and the comments placed
  pub next_row : LayoutState → ℕ
  pub placed : LayoutState → ℕ
  -- "the first still to be entered", of rendering
  pub next_of : RenderState → ℕ
  -- the row that a rendering call with this state reads from: "the first listed row or the next row, the earlier"
  pub reads_from : RenderState → ℕ
  pub in_use : RenderState → ℕ
  -- layout from a state to the stop
  pub layout : LayoutState → LayoutArgs LayoutChoice → LayoutResult LayoutState
  -- rendering from a state towards the stop, by an allotment, with the marks in use: of a store, the rows from where the state reads up to the stop
  pub render : RenderState → RenderTo RenderChoice → ℕ → List ℕ → List ℕ → RenderResult RenderState
  -- the table: the refusal of a call that meets this state, store and marks, or none
  pub layout_refusal : LayoutArgs LayoutChoice → LayoutState → List ℕ → Option Refusal
  pub render_refusal : RenderArgs RenderChoice → RenderState → List ℕ → List ℕ → Option Refusal
