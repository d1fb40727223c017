-- The numbers that the exported functions take and leave, in arrays of as many places as an answer or a state has. An answer begins with a
-- refusal's number and place, or with 0 and what is told below of what is given (`numbers_of`).
use Rattle.std.specs.Prelude.{ℕ, ◌+◌, ◌-◌, min, Bool, cond, not, List, [], ◌∷◌, ◌++◌, map, eqb, get_or, length, take, drop, replicate}
use Rattle.refusals.specs.Answers.{Answer, refused, accepted}
use Rattle.text.specs.declared.newlines.Newlines.{Newlines}
use Rattle.image.specs.declared.Document.{Document}
use Rattle.rows.specs.Limits.{MAX_DEPTH}
use Rattle.listed_rows.specs.Numbers.{row_number}
use Rattle.cut_rule.specs.Run.{CallResult, laid_out, written}
use Rattle.whole_run.specs.Demands.{rules_of}
use Rattle.whole_run.specs.File.{FileResult}
use Rattle.figures.specs.Figures.{CountResult}
use Rattle.tallies.specs.declared.Figures.{Figures}
use Rattle.tallies.specs.declared.Tallies.{Tallies}
use Rattle.tallies.specs.declared.Fraction.{Fraction}
use Rattle.layout_call.specs.declared.LayoutState.{LayoutState}
use Rattle.layout_call.specs.declared.LayoutArgs.{LayoutArgs}
use Rattle.render_call.specs.declared.RenderState.{RenderState}
use Rattle.render_call.specs.declared.RenderArgs.{RenderArgs}
use Rattle.file.specs.declared.FileChoice.{FileChoice}

-- ---- states, in document 01's order, and what a request adds behind
-- a flag is yes for every number but 0
abbrev pub flag : ℕ → Bool
flag n = not (eqb n 0)

abbrev pub bit : Bool → ℕ
bit b = cond b 1 0

abbrev pub layout_state : List ℕ → LayoutState
layout_state l = record {
  begun = flag (get_or l 0 0);
  closed = flag (get_or l 1 0);
  declaration = get_or l 2 0;
  row = get_or l 3 0;
  number = get_or l 4 0;
  placed = get_or l 5 0;
  position = get_or l 6 0;
  mode = get_or l 7 0;
  rule = get_or l 8 0;
}

abbrev pub render_state : List ℕ → RenderState
render_state l = record {
  pen = record { indent = get_or l 0 0; next_indent = get_or l 1 0; column = record { 0 = get_or l 2 0 } };
  in_use = get_or l 3 0;
  row = get_or l 4 0;
  width = record { 0 = get_or l 5 0 };
  rule = get_or l 6 0;
  listed_rows = get_or l 7 0;
}

-- Its listed rows, from its ninth number on: as many as it counts, then 0. A number over 2^32 - 1 stands for 2^32 - 1, which is no number of a row
-- that 11 and 12 let pass.
abbrev pub listed_number : ℕ → ℕ
listed_number n = min n 4294967295

abbrev pub render_list : List ℕ → List ℕ
render_list l =
    let rows = take (get_or l 7 0) (drop 8 l) in
    map listed_number rows ++ replicate (MAX_DEPTH - length rows) 0

-- ---- arguments and choices
-- the declaration to stop before, whether to close, the mode, and the rule of width, by the entry: the archive's, or the other
abbrev pub layout_args : Bool → List ℕ → LayoutArgs
layout_args archive l = record {
  stop = get_or l 0 0;
  close = flag (get_or l 1 0);
  mode = get_or l 2 0;
  rule = get_or l 3 0;
  archive = archive;
}

-- the row to stop before, the width, the rule, and how many rows may be entered
abbrev pub render_args : List ℕ → RenderArgs
render_args l = record { stop = get_or l 0 0; allotment = get_or l 3 0; width = record { 0 = get_or l 1 0 }; rule = get_or l 2 0 }

-- of a whole file: the width, the mode, and the rule
abbrev pub file_choice : List ℕ → FileChoice
file_choice l = record { width = record { 0 = get_or l 0 0 }; mode = get_or l 1 0; rule = get_or l 2 0 }

-- ---- answers
-- an answer with the numbers that it tells
abbrev pub told_in : {A : Type 0} → (A → List ℕ) → Answer A → Answer (List ℕ)
told_in given (refused r) = refused r
told_in given (accepted a) = accepted (given a)

-- the number of comments, the tree's offset, and the number of declarations
abbrev pub told_document : ℕ → Document → List ℕ
told_document declarations d = d.comments ∷ d.tree ∷ declarations ∷ []

-- the comments left, or the bytes written and the rows entered, and the new state, of rendering as far as rows are listed
abbrev pub told_call : (s b : List ℕ) → CallResult (rules_of s b) → List ℕ
told_call s b (laid_out t n) =
    n
    ∷ bit t.begun
    ∷ bit t.closed
    ∷ t.declaration
    ∷ t.cursor.row
    ∷ t.cursor.number
    ∷ t.cursor.placed
    ∷ t.cursor.position
    ∷ t.mode
    ∷ t.rule
    ∷ []
told_call s b (written t n entered) =
    n
    ∷ entered
    ∷ t.pen.indent
    ∷ t.pen.next_indent
    ∷ t.pen.column.0
    ∷ t.in_use
    ∷ t.row
    ∷ t.width
    ∷ t.rule
    ∷ length t.listed
    ∷ map row_number t.listed

-- of a whole file the bytes written, the comments left, the rows and the group numbers
abbrev pub told_file : FileResult → List ℕ
told_file x = x.bytes ∷ x.left ∷ x.rows ∷ x.numbers ∷ []

-- the newlines of a range: how many, and the place of the last or the range's end
abbrev pub told_newlines : Newlines → List ℕ
told_newlines found = found.count ∷ found.place ∷ []

-- ---- request 2
-- the seven figures, in document 02's order
abbrev pub figures_from : ℕ → List ℕ → Figures
figures_from at l = record {
  bytes = get_or l at 0;
  newlines = get_or l (at + 1) 0;
  column = get_or l (at + 2) 0;
  given = get_or l (at + 3) 0;
  wrapped = get_or l (at + 4) 0;
  placed = get_or l (at + 5) 0;
  left = get_or l (at + 6) 0;
}

-- the tallies: how many files, then their figures together
abbrev pub tallies_from : List ℕ → Tallies
tallies_from l = record { files = get_or l 0 0; all = figures_from 1 l }

-- of a file that is counted its figures, the new tallies, and wrapped over given of all
abbrev pub told_count : Figures → Tallies → Fraction → List ℕ
told_count f t q =
    f.bytes
    ∷ f.newlines
    ∷ f.column
    ∷ f.given
    ∷ f.wrapped
    ∷ f.placed
    ∷ f.left
    ∷ t.files
    ∷ t.all.bytes
    ∷ t.all.newlines
    ∷ t.all.column
    ∷ t.all.given
    ∷ t.all.wrapped
    ∷ t.all.placed
    ∷ t.all.left
    ∷ q.over
    ∷ q.under
    ∷ []

abbrev pub told_counted : CountResult → List ℕ
told_counted x = told_count x.figures x.tallies x.fraction
