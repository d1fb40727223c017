-- "Layout writes the sum in `Str` rows, where rendering takes it": nodes with other widths of their `Str`s.
use Prim.Native.Nat.{ℕ}
use mathlib.Core.Path.{◌≡◌}
use mathlib.Core.List.{List}
use Rattle.rows.specs.Node.{Text, Node, Nodes, group, indent, indent_next, wrap_parent, comment, str, ascii, line, empty_line, line_or_space, if_wrap, call}
use Rattle.rows.specs.Node.{none, ◌then◌}
use Rattle.renderer_rules.specs.Page.{text_bytes}
use Rattle.widths.specs.Rules.{SUPPLIED, columns_by}

-- each `Str` has what f gives for its width and its text; nothing else changes
unfoldable mutual
  pub summed : (ℕ → Text → ℕ) → Node → Node
  summed f (group n ns) = group n (summed_all f ns)
  summed f (indent ns) = indent (summed_all f ns)
  summed f (indent_next ns) = indent_next (summed_all f ns)
  summed f wrap_parent = wrap_parent
  summed f (comment t) = comment t
  summed f (str w t) = str (f w t) t
  summed f (ascii t) = ascii t
  summed f line = line
  summed f empty_line = empty_line
  summed f line_or_space = line_or_space
  summed f (if_wrap n a b) = if_wrap n (summed f a) (summed f b)
  summed f (call n e k a) = call n (summed_all f e) k (summed_all f a)

  pub summed_all : (ℕ → Text → ℕ) → Nodes → Nodes
  summed_all f none = none
  summed_all f (n then ns) = summed f n then summed_all f ns

-- what a `Str` measures by a rule, w being its width in the image
unfoldable pub str_columns : ℕ → List ℕ → List ℕ → ℕ → Text → ℕ
str_columns rule source image w t = columns_by rule w (text_bytes source image t)

-- what is laid under a rule: the nodes of `fmt_parsed`, with the sum in each `Str`
abbrev pub laid_nodes : ℕ → List ℕ → List ℕ → Nodes → Nodes
laid_nodes rule source image = summed_all (str_columns rule source image)

-- "Supplied widths stay equal to the Rust"
abbrev pub SuppliedStay : Type 0
SuppliedStay = (source image : List ℕ) (ns : Nodes) → laid_nodes SUPPLIED source image ns ≡ ns
