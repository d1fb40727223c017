-- `Node` and `Nodes` of fmt.rs, with `must_wrap` and `width`.
use Rattle.std.specs.Prelude.{ℕ, ◌+◌, Bool, true, false, cond, ◌||◌, List, get_or, eqb}

-- A text by where it comes from (0 the source, 1 the image, 2 the fixed words), its start there and its length in bytes: what the Rust
-- has as a `&str`.
pub record Text : Type 0 where
  pub origin : ℕ
  pub start : ℕ
  pub size : ℕ

mutual
  pub data Node : Type 0 where
    group : ℕ → Nodes → Node
    indent : Nodes → Node
    indent_next : Nodes → Node
    wrap_parent : Node
    comment : Text → Node
    str : ℕ → Text → Node
    ascii : Text → Node
    line : Node
    empty_line : Node
    line_or_space : Node
    if_wrap : ℕ → Node → Node → Node
    call : ℕ → Nodes → ℕ → Nodes → Node

  pub data Nodes : Type 0 where
    none : Nodes
    ◌then◌ : Node → Nodes → Nodes

infixr 60 ◌then◌
-- nodes and, behind them, others
unfoldable pub join : Nodes → Nodes → Nodes
join none b = b
join (n then a) b = n then join a b

-- `must_wrap`, which looks into `Indent` only
unfoldable mutual
  pub must_wrap : Node → Bool
  must_wrap (group n ns) = false
  must_wrap (indent ns) = must_wraps ns
  must_wrap (indent_next ns) = false
  must_wrap wrap_parent = true
  must_wrap (comment t) = true
  must_wrap (str w t) = false
  must_wrap (ascii t) = false
  must_wrap line = false
  must_wrap empty_line = false
  must_wrap line_or_space = false
  must_wrap (if_wrap n a b) = false
  must_wrap (call n e k a) = false

  pub must_wraps : Nodes → Bool
  must_wraps none = false
  must_wraps (n then ns) = must_wrap n || must_wraps ns

-- `wrapped.contains`: a byte of the marks for each number, 1 where its group has wrapped
abbrev pub wrapped : List ℕ → ℕ → Bool
wrapped marks n = eqb (get_or marks n 0) 1

-- `width`. What an `Ascii` text measures is asked of `columns`: in the Rust, its bytes.
module _ (columns : Text → ℕ) (marks : List ℕ) where
  unfoldable mutual
    pub width : Node → ℕ
    width (group n ns) = widths ns
    width (indent ns) = widths ns
    width (indent_next ns) = widths ns
    width wrap_parent = 0
    width (comment t) = 0
    width (str w t) = w
    width (ascii t) = columns t
    width line = 0
    width empty_line = 0
    width line_or_space = 1
    width (if_wrap n a b) = cond (wrapped marks n) (width a) (width b)
    width (call n e k a) = widths e + widths a

    pub widths : Nodes → ℕ
    widths none = 0
    widths (n then ns) = width n + widths ns

-- `s.len()`: an `Ascii` text counts bytes
abbrev pub byte_columns : Text → ℕ
byte_columns t = t.size
