-- What the layout rules keep to: how many rows and numbers they need, how deep the rows are, where the texts lie and what they measure, where
-- the position is.
use Rattle.std.specs.Prelude.{ℕ, ◌+◌, ◌*◌, ◌-◌, ◌≤◌, ◌≡◌, true, false, List, [], ◌∷◌, length, get_or, take, drop, Some}
use Prim.Native.String.{String}
use Rattle.text.specs.Utf8.{well_formed, cuts}
use Rattle.text.specs.Newlines.{is_range}
use Rattle.image.specs.Read.{stored_width}
use Rattle.ast.specs.Syntax.{Span}
use Rattle.rows.specs.Node.{Text, Node, Nodes, group, indent, indent_next, wrap_parent, comment, str, ascii, line, empty_line, line_or_space, if_wrap, call}
use Rattle.rows.specs.Node.{none, ◌then◌}
use Rattle.rows.specs.Rows.{sizes, depths}
use Rattle.rows.specs.Words.{words, word, There}
use Rattle.acts.specs.Act.{Given, St, Out, Act}
use Rattle.comments.specs.Comments.{nth}

-- a text is that of a word, whose letters are there
pub record Worded (t : Text) : Type 0 where
  pub letters : String
  pub same : t ≡ word letters
  pub there : There letters

-- what a text stands in: the source, the image or the fixed words
abbrev pub origin_of : Given → Text → List ℕ
origin_of g t = get_or (g.source ∷ g.image ∷ words ∷ []) t.origin []

-- a text lies inside its origin; of the fixed words, it is a word; it is UTF-8, and cuts no character
pub record Inside (g : Given) (t : Text) : Type 0 where
  pub origin : t.origin ≤ 2
  pub fits : t.start + t.size ≤ length (origin_of g t)
  pub due : t.origin ≡ 2 → Worded t
  pub formed : well_formed (take t.size (drop t.start (origin_of g t))) ≡ true
  pub uncut : cuts (origin_of g t) t.start ≡ false

-- a text of the image measures what `columns` makes of the width that the image supplies
pub record Supplied (g : Given) (w : ℕ) (t : Text) : Type 0 where
  pub at : ℕ
  pub same : w ≡ g.columns (stored_width g.image at) t

-- each text of a node and of nodes lies there, and each width is supplied
unfoldable mutual
  pub TextsOf : Given → Node → Type 0
  TextsOf g (group n ns) = TextsIn g ns
  TextsOf g (indent ns) = TextsIn g ns
  TextsOf g (indent_next ns) = TextsIn g ns
  TextsOf g wrap_parent = Unit
  TextsOf g (comment t) = Inside g t
  TextsOf g (str w t) = Inside g t × Supplied g w t
  TextsOf g (ascii t) = Inside g t
  TextsOf g line = Unit
  TextsOf g empty_line = Unit
  TextsOf g line_or_space = Unit
  TextsOf g (if_wrap n a b) = TextsOf g a × TextsOf g b
  TextsOf g (call n e k a) = TextsIn g e × TextsIn g a

  pub TextsIn : Given → Nodes → Type 0
  TextsIn g none = Unit
  TextsIn g (n then ns) = TextsOf g n × TextsIn g ns

-- a span is a range of a text
pub record Ranged (s : List ℕ) (p : Span) : Type 0 where
  pub ordered : p.start ≤ p.end
  pub fits : p.end ≤ length s
  pub range : is_range s p.start p.end ≡ true

-- the source is UTF-8, and the comments are ranges of it
pub record Commented (g : Given) : Type 0 where
  pub ranged : (k : ℕ) (c : Span) → nth g.comments k ≡ Some c → Ranged g.source c
  pub formed : well_formed g.source ≡ true

-- Rows are reckoned against the image's bytes in points: a byte gives 5 and a row takes 13. So a record's head, 13 bytes, gives five rows.
abbrev pub BYTE_GIVES : ℕ
BYTE_GIVES = 5

abbrev pub ROW_TAKES : ℕ
ROW_TAKES = 13

-- What a step gives from a state: no more rows than n points allow, and three more for each comment that it takes; no more numbers than n
-- points allow rows; rows at most d deep below the top ones; texts inside their origins, of widths that are supplied; a position within the
-- source, if it was there before.
pub record Sound (g : Given) (n d : ℕ) (s : St) (o : Out) : Type 0 where
  pub more : s.placed ≤ o.placed
  pub rows : ROW_TAKES * sizes o.nodes ≤ n + ROW_TAKES * (3 * (o.placed - s.placed))
  pub taken : ROW_TAKES * o.taken ≤ n
  pub deep : depths o.nodes ≤ 1 + d
  pub texts : TextsIn g o.nodes
  pub position : s.pos ≤ length g.source → o.pos ≤ length g.source

-- so it is from every state
pub record Sounds (g : Given) (n d : ℕ) (a : Act) : Type 0 where
  pub from : (s : St) → Sound g n d s (a s)
