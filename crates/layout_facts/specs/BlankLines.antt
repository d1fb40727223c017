-- Request 1: "the gap that made a blank line". A gap is a range of the source in which newlines are counted before a declaration: from where
-- layout is up to the first comment that stands before the declaration's name, from the byte before a comment's end up to the next comment, and
-- so on up to the name. Two newlines or more in a gap make a blank line, and nothing else does.
use Rattle.std.specs.Prelude.{ℕ, ◌-◌, ◌≡◌, Bool, true, false, cond, List, [], ◌∷◌, drop, ltb, eqb}
use Rattle.text.specs.Newlines.{count_newlines}
use Rattle.ast.specs.Syntax.{Span}
use Rattle.rows.specs.Node.{Nodes, comment, line, empty_line, none, ◌then◌}
use Rattle.acts.specs.Act.{Given, St}
use Rattle.comments.specs.Comments.{pop_whitespace}
use Rattle.layout.specs.Layout.{opening}
use Rattle.layout_facts.specs.Placing.{trimmed}

-- the comments at the front of a list that start before the name
unfoldable pub starting_before : ℕ → List Span → List Span
starting_before name [] = []
starting_before name (c ∷ cs) = cond (ltb c.start name) (c ∷ starting_before name cs) []

-- where the last gap starts, by where layout is and the comments before the name
unfoldable pub last_gap : ℕ → List Span → ℕ
last_gap from [] = from
last_gap from (c ∷ cs) = last_gap (c.end - 1) cs

module _ (g : Given) where
  -- what a gap makes, before other nodes: nothing, a line, or a blank line
  abbrev pub gap_then : ℕ → ℕ → Nodes → Nodes
  gap_then from to rest =
      let n = (count_newlines g.source from to).count in
      cond (eqb n 0) rest (cond (eqb n 1) (line then rest) (empty_line then rest))

  -- comments with the gaps around them
  unfoldable pub with_gaps : ℕ → List Span → ℕ → Nodes
  with_gaps from [] name = gap_then from name none
  with_gaps from (c ∷ cs) name = gap_then from c.start (comment (trimmed g c) then with_gaps (c.end - 1) cs name)

  -- what comes before a declaration. The file's first has nothing before it but comments, and no gap before the first of them; any other
  -- without a comment has a line at least
  abbrev pub before_name : Bool → ℕ → List Span → ℕ → Nodes
  before_name true from [] name = none
  before_name true from (c ∷ cs) name = comment (trimmed g c) then with_gaps (c.end - 1) cs name
  before_name false from [] name = cond (ltb 1 (count_newlines g.source from name).count) (empty_line then none) (line then none)
  before_name false from (c ∷ cs) name = with_gaps from (c ∷ cs) name

  -- the comments before the name, of those that are still to be placed
  abbrev pub standing : ℕ → St → List Span
  standing name s = starting_before name (drop s.placed g.comments)

-- from every state of layout
pub record BlankLines (g : Given) (name : ℕ) (s : St) : Type 0 where
  pub nodes : (first : Bool) → (opening g name first s).nodes ≡ before_name g first s.pos (standing g name s) name
  -- what a declaration but the first takes is the count of its last gap, with the place
  pub taken : (pop_whitespace g name true true true s).1.newlines ≡ count_newlines g.source (last_gap s.pos (standing g name s)) name
