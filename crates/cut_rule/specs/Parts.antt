-- Document 01's rules and table, over parts that are open here: the shebang, one declaration, closing, the tests of image and rows,
-- the renderer. `rules` puts them together; what the parts owe is in PartLaws.antt.
use Rattle.std.specs.Prelude.{Bool, true, false, List, [], ◌∷◌, ◌++◌, ℕ, zero, suc, ◌+◌, ◌-◌, max, ltb, length, take, replicate, Option}
use Rattle.refusals.specs.Refusals.{Refusal, refuse_if, refuse_at, any, first}
use Rattle.cut_rule.specs.Rules.{LayoutArgs, RenderTo, RenderArgs, LayoutResult, RenderResult, Rules}
use Rattle.rows.specs.View.{view_of}
use Rattle.renderer_rules.specs.declared.Pen.{Pen}
use Rattle.renderer_rules.specs.Stops.{OpenRow}
use Rattle.renderer_rules.specs.Listed.{reads_from}
use Rattle.cut_rule.specs.States.{LayoutChoice, RenderChoice, Cursor, LayoutState, RenderState, layout_fresh, render_fresh}
use Rattle.cut_rule.specs.Tests.{rows_in, layout_tests_in, render_tests, width_tests, chosen_tests, allotment_tests, listed_tests}

-- what a piece of layout gives: the cursor behind it, and the rows that it adds, nine numbers a row
pub record Piece : Type 0 where
  pub cursor : Cursor
  pub rows : List ℕ

-- What rendering rows gives, where it stops: the pen, the rows listed and the next row; marks and text; how many rows it entered.
pub record Drawn : Type 0 where
  pub pen : Pen
  pub listed : List OpenRow
  pub row : ℕ
  pub marks : List ℕ
  pub text : List ℕ
  pub entered : ℕ

-- What is open here, for one source and one image. What depends on what a call chooses gets the whole choice.
pub record RuleParts : Type 0 where
  pub source_size : ℕ
  pub declarations : ℕ
  pub comments : ℕ
  -- 20's second cause: whether a rule is another than the image asks for
  pub other_rule : ℕ → Bool
  -- 1 to 7, by whether the call is the archive entry's; and of these 1 and 3, "by the same tests"
  pub layout_image : Bool → Option Refusal
  pub render_image_of : RenderChoice → Option Refusal
  -- the shebang, declaration n, and what closing adds, from a cursor
  pub shebang : LayoutChoice → Cursor → Piece
  pub declaration : LayoutChoice → ℕ → Cursor → Piece
  pub final : LayoutChoice → Cursor → Piece
  -- 11's place, "0 for the stop, tested first", for the rows of a store from one up to a stop; none if all is right
  pub wrong_row : RenderChoice → List ℕ → ℕ → ℕ → Option ℕ
  -- "largest number in the rows plus 1", for the rows of a store from one up to a stop; 0 if none has one
  pub needed : List ℕ → ℕ → ℕ → ℕ
  -- `Renderer` with marks enough, over the rows of a store: from where a state stopped up to the stop, entering so many of them at most
  pub draw : RenderState → RenderTo RenderChoice → ℕ → List ℕ → List ℕ → Drawn

-- the piece that adds nothing
abbrev pub still : Cursor → Piece
still c = record { cursor = c; rows = [] }

-- a piece, and then another from the cursor behind it
abbrev pub and_then : Piece → (Cursor → Piece) → Piece
and_then p g = record { cursor = (g p.cursor).cursor; rows = p.rows ++ (g p.cursor).rows }

-- 20
abbrev pub rule_line : Bool → ℕ → Option Refusal
rule_line other rule = refuse_if (any (chosen_tests other rule)) 20 0

-- 15
abbrev pub width_line : RenderChoice → RenderState → Option Refusal
width_line c s = refuse_if (any (width_tests c.width s.width)) 15 0

-- 22
abbrev pub allotment_line : ℕ → Option Refusal
allotment_line allotment = refuse_if (any (allotment_tests allotment)) 22 0

-- 23
abbrev pub listed_line : RenderState → List ℕ → Option Refusal
listed_line s store = refuse_if (any (listed_tests (view_of store) s)) 23 0

-- "9 and 11 read from the first listed row or the next row, the earlier."
abbrev pub read_from : RenderState → ℕ
read_from s = reads_from s.listed s.row

module _ (P : RuleParts) where
  -- "The first call lays the shebang"
  abbrev pub begin : LayoutChoice → Bool → Cursor → Piece
  begin k true c = still c
  begin k false c = P.shebang k c

  -- n declarations more, from declaration d on
  abbrev pub several : LayoutChoice → ℕ → ℕ → Piece → Piece
  several k zero d p = p
  several k (suc n) d p = and_then (several k n d p) (P.declaration k (d + n))

  -- "closing .. adds the final `Line`"
  abbrev pub end : LayoutChoice → Bool → Piece → Piece
  end k true p = and_then p (P.final k)
  end k false p = p

  -- what a layout call lays: "The rows and state due at a stop are those `fmt_parsed` has when its loop reaches that declaration."
  abbrev pub call_piece : LayoutState → LayoutArgs LayoutChoice → Piece
  call_piece s q = end q.choice q.close (several q.choice (q.stop - s.declaration) s.declaration (begin q.choice s.begun s.cursor))

  -- "Its answer is the new state with the number of comments left."
  abbrev pub laid_of : LayoutState → LayoutArgs LayoutChoice → LayoutResult LayoutState
  laid_of s q = record {
    state = record { begun = true; closed = q.close; declaration = q.stop; cursor = (call_piece s q).cursor; mode = q.choice.mode; rule = q.choice.rule };
    rows = (call_piece s q).rows;
    left = P.comments - (call_piece s q).cursor.placed;
  }

  -- 12, as far as it is of layout
  abbrev pub layout_tests : LayoutArgs LayoutChoice → LayoutState → List ℕ → List Bool
  layout_tests q s store = layout_tests_in P.declarations P.comments P.source_size (rows_in store) q s

  -- "more rows needed than the store has": the next row behind what the call lays
  abbrev pub rows_needed : LayoutArgs LayoutChoice → LayoutState → ℕ
  rows_needed q s = (call_piece s q).cursor.row

  -- "Layout uses 1 to 7, 12, 8", and 20 "before 1", in two parts: the lines before it is counted how many rows there will be, and 8
  abbrev pub before_rows : LayoutArgs LayoutChoice → LayoutState → List ℕ → List (Option Refusal)
  before_rows q s store = rule_line (P.other_rule q.choice.rule) q.choice.rule ∷ P.layout_image q.archive ∷ refuse_if (any (layout_tests q s store)) 12 0 ∷ []

  abbrev pub rows_line : LayoutArgs LayoutChoice → LayoutState → List ℕ → List (Option Refusal)
  rows_line q s store = refuse_if (ltb (rows_in store) (rows_needed q s)) 8 (rows_needed q s) ∷ []

  abbrev pub layout_table : LayoutArgs LayoutChoice → LayoutState → List ℕ → List (Option Refusal)
  layout_table q s store = before_rows q s store ++ rows_line q s store

  -- "Marks in use rise to the largest number read plus 1, if that is more, the new ones cleared first."
  abbrev pub with_cleared : List ℕ → ℕ → List ℕ
  with_cleared marks n = marks ++ replicate (n - length marks) 0

  -- what so many of the rows up to the stop give, with marks for all that are read, entered or not
  abbrev pub drawn_of : RenderState → RenderTo RenderChoice → ℕ → List ℕ → List ℕ → Drawn
  drawn_of s q n marks store = P.draw s q n (with_cleared marks (P.needed store (read_from s) q.stop)) store

  -- "carried in the rendering state": the state after an accepted call holds the width that it chose
  abbrev pub rendered_of : RenderState → RenderTo RenderChoice → ℕ → List ℕ → List ℕ → RenderResult RenderState
  rendered_of s q n marks store = record {
    state = record {
      pen = (drawn_of s q n marks store).pen;
      in_use = max s.in_use (P.needed store (read_from s) q.stop);
      row = (drawn_of s q n marks store).row;
      width = q.choice.width;
      rule = q.choice.rule;
      listed = (drawn_of s q n marks store).listed;
    };
    marks = (drawn_of s q n marks store).marks;
    text = (drawn_of s q n marks store).text;
    entered = (drawn_of s q n marks store).entered;
  }

  -- "largest number in the rows plus 1", and the bytes of the text, for the rows that a call reads
  abbrev pub marks_for : RenderArgs RenderChoice → RenderState → List ℕ → ℕ
  marks_for q s store = P.needed store (read_from s) q.to.stop

  abbrev pub bytes_needed : RenderArgs RenderChoice → RenderState → List ℕ → List ℕ → ℕ
  bytes_needed q s store marks = length (rendered_of s q.to q.allotment (take s.in_use marks) store).text

  -- "rendering 1, 3 by the same tests, then 11, 12, 9, 10", with 20 "before 1", 15 "directly after 12", 22 and 23 "both after 15", in parts: the
  -- lines before marks are counted, 9, and 10, which alone needs the text
  abbrev pub before_marks : RenderArgs RenderChoice → RenderState → List ℕ → List ℕ → List (Option Refusal)
  before_marks q s store marks =
      rule_line (P.other_rule q.to.choice.rule) q.to.choice.rule
      ∷ P.render_image_of q.to.choice
      ∷ refuse_at (P.wrong_row q.to.choice store (read_from s) q.to.stop) 11
      ∷ refuse_if (any (render_tests q s store marks)) 12 0
      ∷ width_line q.to.choice s
      ∷ allotment_line q.allotment
      ∷ listed_line s store
      ∷ []

  abbrev pub marks_line : RenderArgs RenderChoice → RenderState → List ℕ → List ℕ → List (Option Refusal)
  marks_line q s store marks = refuse_if (ltb (length marks) (marks_for q s store)) 9 (marks_for q s store) ∷ []

  abbrev pub before_text : RenderArgs RenderChoice → RenderState → List ℕ → List ℕ → List (Option Refusal)
  before_text q s store marks = before_marks q s store marks ++ marks_line q s store marks

  abbrev pub text_line : RenderArgs RenderChoice → RenderState → List ℕ → List ℕ → List (Option Refusal)
  text_line q s store marks = refuse_if (ltb q.room (bytes_needed q s store marks)) 10 (bytes_needed q s store marks) ∷ []

  abbrev pub render_table : RenderArgs RenderChoice → RenderState → List ℕ → List ℕ → List (Option Refusal)
  render_table q s store marks = before_text q s store marks ++ text_line q s store marks

  abbrev pub rules : Rules
  rules = record {
    LayoutState = LayoutState;
    RenderState = RenderState;
    LayoutChoice = LayoutChoice;
    RenderChoice = RenderChoice;
    layout_fresh_of = layout_fresh;
    render_fresh_of = render_fresh;
    next_row = λ s. s.cursor.row;
    placed = λ s. s.cursor.placed;
    next_of = λ s. s.row;
    reads_from = read_from;
    in_use = λ s. s.in_use;
    layout = laid_of;
    render = rendered_of;
    layout_refusal = λ q s store. first (layout_table q s store);
    render_refusal = λ q s store marks. first (render_table q s store marks);
  }
