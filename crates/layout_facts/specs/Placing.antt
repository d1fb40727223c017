-- A step that places comments: each that it takes from the list, once and in order.
use Rattle.std.specs.Prelude.{ℕ, ◌-◌, ◌≤◌, ◌≡◌, List, [], ◌∷◌, ◌++◌, map, length, take, drop}
use Rattle.text.specs.Space.{trim_end}
use Rattle.ast.specs.Syntax.{Span}
use Rattle.rows.specs.Node.{Text, Node, Nodes, group, indent, indent_next, wrap_parent, comment, str, ascii, line, empty_line, line_or_space, if_wrap, call}
use Rattle.rows.specs.Node.{none, ◌then◌}
use Rattle.acts.specs.Act.{Given, St, Out, Act}

-- the texts of the comments among nodes, in order
unfoldable mutual
  pub comments_of_node : Node → List Text
  comments_of_node (group n ns) = comments_in_nodes ns
  comments_of_node (indent ns) = comments_in_nodes ns
  comments_of_node (indent_next ns) = comments_in_nodes ns
  comments_of_node wrap_parent = []
  comments_of_node (comment t) = t ∷ []
  comments_of_node (str w t) = []
  comments_of_node (ascii t) = []
  comments_of_node line = []
  comments_of_node empty_line = []
  comments_of_node line_or_space = []
  comments_of_node (if_wrap n a b) = comments_of_node a ++ comments_of_node b
  comments_of_node (call n e k a) = comments_in_nodes e ++ comments_in_nodes a

  pub comments_in_nodes : Nodes → List Text
  comments_in_nodes none = []
  comments_in_nodes (n then ns) = comments_of_node n ++ comments_in_nodes ns

-- a comment of the list as `Node::Comment` has it: trimmed at the end
abbrev pub trimmed : Given → Span → Text
trimmed g c = record { origin = 0; start = c.start; size = trim_end g.source c.start c.end - c.start }

-- the comments of the list from place k up to place m, trimmed
abbrev pub between : Given → ℕ → ℕ → List Text
between g k m = take (m - k) (drop k (map (trimmed g) g.comments))

-- what a step gives that starts with k comments placed: the comments that it takes from the list are those among its nodes
pub record Placed (g : Given) (k : ℕ) (o : Out) : Type 0 where
  pub more : k ≤ o.placed
  pub within : o.placed ≤ length g.comments
  pub same : comments_in_nodes o.nodes ≡ between g k o.placed

-- so it is from every state
pub record Places (g : Given) (a : Act) : Type 0 where
  pub from : (s : St) → s.placed ≤ length g.comments → Placed g s.placed (a s)
