-- "rendering measures `Ascii` text by the rule too": it renders as the nodes do in which each `Ascii` is a `Str` of the width that the rule gives.
use Prim.Native.Nat.{ℕ, ◌≤◌, ◌<◌}
use mathlib.Core.Path.{◌≡◌}
use mathlib.Core.Bool.{Bool}
use mathlib.Core.List.{List}
use Rattle.rows.specs.Kinds.{STR, ASCII}
use Rattle.rows.specs.Node.{Text, Node, Nodes, group, indent, indent_next, wrap_parent, comment, str, ascii, line, empty_line, line_or_space, if_wrap, call}
use Rattle.rows.specs.Node.{none, ◌then◌}
use Rattle.rows.specs.View.{View, nodes_at}
use Rattle.renderer_rules.specs.Page.{text_bytes}
use Rattle.renderer_rules.specs.Renderer.{Page, Renderer, render_nodes}
use Rattle.node_widths.specs.Summed.{str_columns}

-- what an `Ascii` measures by a rule: by the Rust, its bytes
unfoldable pub ascii_columns : ℕ → List ℕ → List ℕ → Text → ℕ
ascii_columns rule source image t = str_columns rule source image t.size t

-- the page that is rendered by under a rule
abbrev pub rule_page : ℕ → ℕ → List ℕ → List ℕ → Page
rule_page max rule source image = record { max = max; columns = ascii_columns rule source image; bytes = text_bytes source image }

-- each `Ascii` as a `Str` of the width that f gives for its text
unfoldable mutual
  pub measured : (Text → ℕ) → Node → Node
  measured f (group n ns) = group n (measured_all f ns)
  measured f (indent ns) = indent (measured_all f ns)
  measured f (indent_next ns) = indent_next (measured_all f ns)
  measured f wrap_parent = wrap_parent
  measured f (comment t) = comment t
  measured f (str w t) = str w t
  measured f (ascii t) = str (f t) t
  measured f line = line
  measured f empty_line = empty_line
  measured f line_or_space = line_or_space
  measured f (if_wrap n a b) = if_wrap n (measured f a) (measured f b)
  measured f (call n e k a) = call n (measured_all f e) k (measured_all f a)

  pub measured_all : (Text → ℕ) → Nodes → Nodes
  measured_all f none = none
  measured_all f (n then ns) = measured f n then measured_all f ns

-- a page that measures `Ascii` texts by f
abbrev pub page_by : ℕ → (Text → ℕ) → (Text → List ℕ) → Page
page_by max f bytes = record { max = max; columns = f; bytes = bytes }

-- rendering by such a page is rendering these nodes, whatever a page measures
abbrev pub MeasuredRenders : Type 0
MeasuredRenders =
    (max : ℕ) (f g : Text → ℕ) (bytes : Text → List ℕ) (ns : Nodes) (wrap : Bool) (r : Renderer)
    → render_nodes (page_by max f bytes) ns wrap r ≡ render_nodes (page_by max g bytes) (measured_all f ns) wrap r

-- ---- rows in which each `Ascii` is such a `Str`
-- row i of v2 is row i of v, or the `Str` that an `Ascii` is turned into; what else such a row holds in v2 doesn't matter
pub record TurnedAt (f : Text → ℕ) (v v2 : View) (i : ℕ) : Type 0 where
  pub after : v2.after i ≡ v.after i
  pub second : v2.second i ≡ v.second i
  pub text : v2.text i ≡ v.text i
  pub ascii_kind : v.kind i ≡ ASCII → v2.kind i ≡ STR
  pub ascii_width : v.kind i ≡ ASCII → v2.width i ≡ f (v.text i)
  pub kind : (v.kind i ≡ ASCII → ⊥) → v2.kind i ≡ v.kind i
  pub width : (v.kind i ≡ ASCII → ⊥) → v2.width i ≡ v.width i
  pub number : (v.kind i ≡ ASCII → ⊥) → v2.number i ≡ v.number i
  pub number2 : (v.kind i ≡ ASCII → ⊥) → v2.number2 i ≡ v.number2 i

-- rows that are turned from `from` up to `stop` are there the nodes in which the texts are measured
abbrev pub TurnedMeasures : Type 0
TurnedMeasures =
    (f : Text → ℕ) (v v2 : View) (from stop : ℕ) → ((i : ℕ) → from ≤ i → i < stop → TurnedAt f v v2 i)
    → nodes_at v2 from stop ≡ measured_all f (nodes_at v from stop)
