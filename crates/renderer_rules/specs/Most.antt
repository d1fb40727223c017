-- No rule rests on this file: it spares the code a dry run where a text surely has room. A bound on the bytes of a text, a sum over its nodes.
use Rattle.std.specs.Prelude.{ℕ, suc, ◌+◌, ◌*◌}
use Rattle.rows.specs.Node.{Node, Nodes, group, indent, indent_next, wrap_parent, comment, str, ascii, line, empty_line, line_or_space, if_wrap, call}
use Rattle.rows.specs.Node.{none, ◌then◌}

-- What a node adds at most, where lines start m steps in: its text; a newline, another or a blank, and a line's start. One that sets parts in adds a
-- step for the line on which its first text may be.
unfoldable mutual
  pub node_most : Node → ℕ → ℕ
  node_most (group n ns) m = nodes_most ns m
  node_most (indent ns) m = 4 + nodes_most ns (suc m)
  node_most (indent_next ns) m = 4 + nodes_most ns (suc m)
  node_most wrap_parent m = 0
  node_most (comment t) m = t.size + (2 + 4 * m)
  node_most (str w t) m = t.size
  node_most (ascii t) m = t.size
  node_most line m = 2 + 4 * m
  node_most empty_line m = 2 + 4 * m
  node_most line_or_space m = 2 + 4 * m
  node_most (if_wrap n a b) m = node_most a m + node_most b m
  node_most (call n e k a) m = 4 + (nodes_most e (suc m) + nodes_most a (suc m))

  pub nodes_most : Nodes → ℕ → ℕ
  nodes_most none m = 0
  nodes_most (n then ns) m = node_most n m + nodes_most ns m
