-- "Our house rule now keeps them all" (document 02, 4), said of the text: it holds the comments, and it is the program that was read. In every
-- mode and at every width, of a whole file and of every list of calls, by the rules; crates/demands/specs/Text.antt says it of the functions.
-- proofs/Text.antt proves the claims. What a program is written of: `tokens_of` (crates/layout_facts/specs/Tokens.antt).
use Rattle.std.specs.Prelude.{◌≡◌, true, cond, List, [], ◌++◌, ℕ, ◌-◌, length, take, None}
use Rattle.image.specs.Read.{read_earlier, read_refusal}
use Rattle.rows.specs.View.{view_of, nodes_at}
use Rattle.layout_facts.specs.Tokens.{◌&◌, shebang_tokens, declarations_tokens, tokens_of}
use Rattle.renderer_rules.specs.Page.{text_bytes}
use Rattle.renderer_rules.specs.Holds.{HoldsInOrder, anything, Token, Piece, IsLine, comments_among, tokens_among, pieces, MadeOf}
use Rattle.refusals.specs.Answers.{accepted}
use Rattle.cut_rule.specs.Run.{Call, Carried, start, run}
use Rattle.cut_rule.specs.Plain.{AllReadLaid}
use Rattle.cut_rule.specs.States.{LayoutState, NEW_MODE}
use Rattle.whole_run.specs.Parts.{listed}
use Rattle.whole_run.specs.Built.{FileChoice, tree, declared, built, drawn_due}
use Rattle.whole_run.specs.Demands.{rules_of}
use Rattle.whole_run.specs.File.{FileResult, file_answer, file_output}

-- ---- what is said of a text
-- It holds the first so many comments of the list, in order: of each its bytes in the source, white space at the end cut, and a newline. What
-- else is in the text is not said.
abbrev pub HoldsFirst : List ℕ → List ℕ → ℕ → List ℕ → Type 0
HoldsFirst s b placed text = HoldsInOrder anything (IsLine (text_bytes s b)) (take placed (listed s b)) text

-- It is the first so many comments of the list and these tokens: each once, both in their order, with blanks and newlines around them and nothing else.
pub record Keeps (s b : List ℕ) (placed : ℕ) (tokens : List Token) (text : List ℕ) : Type 0 where
  pub these : List Piece
  pub made : MadeOf (text_bytes s b) these text
  pub comments : comments_among these ≡ take placed (listed s b)
  pub others : tokens_among these ≡ tokens

-- it is the first so many comments, and the program
abbrev pub IsProgram : List ℕ → List ℕ → ℕ → List ℕ → Type 0
IsProgram s b placed text = Keeps s b placed (tokens_of b (tree s b)) text

-- the second says more than the first
abbrev pub KeptCommentsHeld : Type 0
KeptCommentsHeld = (s b : List ℕ) (placed : ℕ) (tokens : List Token) (text : List ℕ) → Keeps s b placed tokens text → HoldsFirst s b placed text

-- ---- a whole file
-- its text is the program, with as many comments as are placed
abbrev pub TextIsTheProgram : Type 0
TextIsTheProgram = (s b : List ℕ) (c : FileChoice) → IsProgram s b (built s b c).placed (drawn_due s b c).text

-- in the new mode, of a file that is accepted, these are all
abbrev pub NewModePlacesAll : Type 0
NewModePlacesAll = (s b : List ℕ) (c : FileChoice) → read_refusal (read_earlier s b) ≡ None → c.mode ≡ NEW_MODE → (built s b c).placed ≡ length (listed s b)

-- As a caller of `format_file` sees it, by the answer alone: the bytes that it wrote are the program and all comments but the last so many,
-- those that it told to be left.
abbrev pub OutputIsTheProgram : Type 0
OutputIsTheProgram =
    (s b : List ℕ) (c : FileChoice) (out : List ℕ) (r : FileResult) → file_answer s b c (length out) ≡ accepted r
    → IsProgram s b (length (listed s b) - r.left) (take r.bytes (file_output s b c out))

-- ---- a list of calls
-- the tokens of the tree as far as layout came: of the shebang, once the document is begun, and of the declarations before the next
abbrev pub program_to : List ℕ → List ℕ → LayoutState → List Token
program_to s b l = cond l.begun (shebang_tokens b (tree s b).shebang) [] & declarations_tokens (take l.declaration (declared s b))

-- the pieces of the rows of a store from one up to another
abbrev pub pieces_between : List ℕ → ℕ → ℕ → List Piece
pieces_between store i j = pieces (nodes_at (view_of store) i j)

-- What calls leave, at every moment when no row is open: the text joined in call order is made of the pieces of the rows rendered so far. With
-- those of the rows that are laid out and not rendered yet, these are the comments placed and the program as far as layout came. (At a stop inside
-- a row, CutRule.antt says it of the comments.)
pub record SoFar (s b : List ℕ) (w : Carried (rules_of s b)) : Type 0 where
  pub made : MadeOf (text_bytes s b) (pieces_between w.store 0 w.render_state_of.row) w.text
  pub comments : comments_among (pieces_between w.store 0 w.render_state_of.row)
      ++ comments_among (pieces_between w.store w.render_state_of.row w.layout_state_of.cursor.row)
      ≡ take w.layout_state_of.cursor.placed (listed s b)
  pub others : tokens_among (pieces_between w.store 0 w.render_state_of.row)
      ++ tokens_among (pieces_between w.store w.render_state_of.row w.layout_state_of.cursor.row)
      ≡ program_to s b w.layout_state_of

-- once all rows laid out are rendered, the text is the comments placed and the program as far as layout came
abbrev pub AllRendered : (s b : List ℕ) → Carried (rules_of s b) → Type 0
AllRendered s b w = w.render_state_of.row ≡ w.layout_state_of.cursor.row

abbrev pub IsSoFar : (s b : List ℕ) → Carried (rules_of s b) → Type 0
IsSoFar s b w = Keeps s b w.layout_state_of.cursor.placed (program_to s b w.layout_state_of) w.text

-- where the document is closed too, this is the whole program; in the new mode with the whole list of comments
abbrev pub IsWhole : (s b : List ℕ) → Carried (rules_of s b) → Type 0
IsWhole s b w = IsProgram s b w.layout_state_of.cursor.placed w.text

abbrev pub IsWholeWithAll : (s b : List ℕ) → Carried (rules_of s b) → Type 0
IsWholeWithAll s b w = IsProgram s b (length (listed s b)) w.text

-- all of it, of what calls leave
pub record TextKept (s b : List ℕ) (w : Carried (rules_of s b)) : Type 0 where
  pub so_far : w.render_state_of.listed ≡ [] → SoFar s b w
  pub rendered : AllRendered s b w → IsSoFar s b w
  pub closed : AllRendered s b w → w.layout_state_of.closed ≡ true → IsWhole s b w
  pub all : AllRendered s b w → w.layout_state_of.closed ≡ true → w.layout_state_of.mode ≡ NEW_MODE → IsWholeWithAll s b w

-- so it is of every list of calls, refused ones included, in which no accepted call reads rows not yet laid out
abbrev pub CallsKeepTheText : Type 0
CallsKeepTheText =
    (s b store₀ marks₀ : List ℕ) (calls : List (Call (rules_of s b))) → AllReadLaid (rules_of s b) (start (rules_of s b) store₀ marks₀) calls
    → TextKept s b (run (rules_of s b) (start (rules_of s b) store₀ marks₀) calls)
