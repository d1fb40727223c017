-- Closing that keeps the comments that wait (document 02, 4): what `place_waiting` of layout/specs/Closing.antt comes to. proofs/Foot.antt proves the
-- claims.
use Rattle.std.specs.Prelude.{ℕ, ◌≤◌, ◌≡◌, true, List, [], ◌∷◌, length, None as nothing}
use Rattle.ast.specs.Syntax.{Declaration, SyntaxTree}
use Rattle.tree.specs.CommentList.{span, comments_of}
use Rattle.rows.specs.Node.{Node, comment, line, empty_line, none, ◌then◌}
use Rattle.acts.specs.Act.{Given, St, Out}
use Rattle.comments.specs.Listed.{given, Listed}
use Rattle.layout.specs.Closing.{fresh, closing}
use Rattle.layout_facts.specs.Placing.{trimmed}

-- all comments are placed, and the position is the source's end
pub record AtFoot (s b : List ℕ) (o : Out) : Type 0 where
  pub placed : o.placed ≡ length (comments_of b)
  pub position : o.pos ≡ length s

-- "closing places every waiting comment", a comment that is the last byte of the source too
abbrev pub ClosingLeavesNone : Type 0
ClosingLeavesNone =
    (s b : List ℕ) → Listed s b → (t : SyntaxTree) (z : St) → z.placed ≤ length (comments_of b) → AtFoot s b (closing (given s b) t true z)

-- a source of two newlines and a comment, and that comment
abbrev pub gap : Given
gap = record { source = 0x0A ∷ 0x0A ∷ 0x23 ∷ []; image = []; comments = span 2 3 ∷ []; columns = λ width text. width }

abbrev pub sharp : Node
sharp = comment (trimmed gap (span 2 3))

-- "with leading newlines kept if there is at least one declaration": they are dropped where there is none
abbrev pub NewlinesDropped : Type 0
NewlinesDropped = (closing gap (record { shebang = nothing; declarations = [] }) true fresh).nodes ≡ (sharp then line then none)

-- and kept where there is one
abbrev pub NewlinesKept : Type 0
NewlinesKept =
    (d : Declaration) → (closing gap (record { shebang = nothing; declarations = d ∷ [] }) true fresh).nodes ≡ (empty_line then sharp then line then none)
