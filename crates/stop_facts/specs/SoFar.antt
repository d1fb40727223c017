-- "Our house rule now keeps them all" (document 02, 4), said of the text wherever a rendering stopped, inside a row too (12): it holds the comments of
-- the rows before the next one, and they are the first so many of the list. crates/whole_run/specs/Text.antt says it where no row is open.
-- proofs/AtStop.antt and proofs/SoFar.antt prove the claims.
use Rattle.std.specs.Prelude.{◌≡◌, Bool, List, ◌++◌, ℕ, length, take, get_or}
use Rattle.rows.specs.Node.{Text}
use Rattle.rows.specs.View.{view_of, nodes_at}
use Rattle.rows.specs.Nesting.{Nests}
use Rattle.renderer_rules.specs.Page.{text_bytes, page_with}
use Rattle.renderer_rules.specs.Renderer.{Renderer, render_nodes}
use Rattle.renderer_rules.specs.Stops.{OpenRow, Stop, stop_at, entered}
use Rattle.renderer_rules.specs.Holds.{Piece, comments_among, tokens_among, CommasChosen, MadeOf, Adds}
use Rattle.cut_rule.specs.CutRule.{comments_in}
use Rattle.cut_rule.specs.Run.{Call, Carried, start, run}
use Rattle.cut_rule.specs.Plain.{AllReadLaid}
use Rattle.whole_run.specs.Parts.{listed}
use Rattle.whole_run.specs.Demands.{rules_of}
use Rattle.whole_run.specs.Text.{HoldsFirst, program_to, pieces_between}

-- ---- by the rules
-- Of a stop in a rendering of rows from row i on, whose buffer held `from` then: what was added is made of the first so many of the rows' pieces, and
-- the comments among these are those of the rows from i up to the next row.
pub record StopHolds (s b store : List ℕ) (i : ℕ) (from : List ℕ) (all : List Piece) (e : Stop) : Type 0 where
  pub these : List Piece
  pub behind : List Piece
  pub adds : Adds (text_bytes s b) from e.state.buf these
  pub front : all ≡ these ++ behind
  pub comments : comments_in store e.next ≡ comments_in store i ++ comments_among these

-- So it is of each row entered, and of the end: in rows that nest, whatever is open around them, at every width, from every `Renderer`.
abbrev pub StopsHold : Type 0
StopsHold =
    (max : ℕ) (columns : Text → ℕ) (s b store : List ℕ) (i j d : ℕ) (es : List OpenRow) (w : Bool) (r : Renderer) (n : ℕ)
    → Nests (view_of store) i j d → CommasChosen (nodes_at (view_of store) i j)
    → StopHolds s b store i r.buf (pieces_between store i j)
    (get_or (entered (view_of store) (page_with max columns s b) (nodes_at (view_of store) i j) i es w r) n
    (stop_at j es (render_nodes (page_with max columns s b) (nodes_at (view_of store) i j) w r)))

-- ---- of a list of calls
-- how many comments are in the rows before rendering's next one
abbrev pub comments_before_next : (s b : List ℕ) → Carried (rules_of s b) → ℕ
comments_before_next s b w = length (comments_in w.store w.render_state_of.row)

-- What calls leave, at every moment: the joined text is made of the first so many of the pieces of the rows laid out, with blanks and newlines around
-- them and nothing else. The comments among them are those of the rows before the next one, which are the first so many of the list. With the pieces
-- behind, they are the comments placed and the program as far as layout came.
pub record KeptInside (s b : List ℕ) (w : Carried (rules_of s b)) : Type 0 where
  pub these : List Piece
  pub behind : List Piece
  pub made : MadeOf (text_bytes s b) these w.text
  pub front : pieces_between w.store 0 w.layout_state_of.cursor.row ≡ these ++ behind
  pub before_next : comments_among these ≡ comments_in w.store w.render_state_of.row
  pub first : comments_among these ≡ take (comments_before_next s b w) (listed s b)
  pub comments : comments_among these ++ comments_among behind ≡ take w.layout_state_of.cursor.placed (listed s b)
  pub others : tokens_among these ++ tokens_among behind ≡ program_to s b w.layout_state_of

-- so it is of every list of calls, refused ones included, in which no accepted call reads rows not yet laid out
abbrev pub CallsKeepInside : Type 0
CallsKeepInside =
    (s b store₀ marks₀ : List ℕ) (calls : List (Call (rules_of s b))) → AllReadLaid (rules_of s b) (start (rules_of s b) store₀ marks₀) calls
    → KeptInside s b (run (rules_of s b) (start (rules_of s b) store₀ marks₀) calls)

-- In particular the text holds the first so many comments of the list, in order, each with its newline: those in the rows before the next one.
abbrev pub CommentsSoFar : Type 0
CommentsSoFar =
    (s b store₀ marks₀ : List ℕ) (calls : List (Call (rules_of s b))) → AllReadLaid (rules_of s b) (start (rules_of s b) store₀ marks₀) calls
    → (let w = run (rules_of s b) (start (rules_of s b) store₀ marks₀) calls in HoldsFirst s b (comments_before_next s b w) w.text)
