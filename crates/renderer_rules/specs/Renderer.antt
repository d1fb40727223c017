-- `Renderer` of fmt.rs: `render_node`, `new_line`, `comment` and `text`.
use Rattle.std.specs.Prelude.{ℕ, ◌+◌, ◌*◌, ◌-◌, max, Bool, true, false, cond, not, ◌&&◌, ◌||◌, ltb}
use Rattle.std.specs.Prelude.{List, [], ◌∷◌, ◌++◌, set, replicate}
use Rattle.renderer_rules.specs.declared.Pen.{Pen}
use Rattle.rows.specs.Node.{Text, Node, Nodes, group, indent, indent_next, wrap_parent, comment as comment_node, str, ascii}
use Rattle.rows.specs.Node.{line, empty_line, line_or_space, if_wrap, call, none, ◌then◌, wrapped, widths, must_wraps}

-- What a rendering goes by: `max`, what an `Ascii` text measures, and the bytes of a text.
pub record Page : Type 0 where
  pub max : ℕ
  pub columns : Text → ℕ
  pub bytes : Text → List ℕ

-- The fields of `Renderer` but `max`: `indent`, `next_indent` and `column` as a pen, `wrapped` as marks. And one that the Rust has not, the
-- greatest value that `column` was set to.
pub record Renderer : Type 0 where
  pub buf : List ℕ
  pub pen : Pen
  pub marks : List ℕ
  pub widest : ℕ

-- `Renderer` before it writes anything. `column` was not set yet: a rendering that goes on from a pen counts for itself.
abbrev pub fresh_renderer : Pen → List ℕ → Renderer
fresh_renderer p marks = record { buf = []; pen = p; marks = marks; widest = 0 }

-- One field set. No rule and no proof writes a record out but by these.
abbrev pub with_buf : List ℕ → Renderer → Renderer
with_buf b r = record { buf = b; pen = r.pen; marks = r.marks; widest = r.widest }

abbrev pub with_pen : Pen → Renderer → Renderer
with_pen p r = record { buf = r.buf; pen = p; marks = r.marks; widest = r.widest }

abbrev pub with_marks : List ℕ → Renderer → Renderer
with_marks m r = record { buf = r.buf; pen = r.pen; marks = m; widest = r.widest }

abbrev pub with_widest : ℕ → Renderer → Renderer
with_widest c r = record { buf = r.buf; pen = r.pen; marks = r.marks; widest = c }

abbrev pub with_indent : ℕ → Pen → Pen
with_indent i p = record { indent = i; next_indent = p.next_indent; column = p.column }

abbrev pub with_next_indent : ℕ → Pen → Pen
with_next_indent n p = record { indent = p.indent; next_indent = n; column = p.column }

abbrev pub with_column : ℕ → Pen → Pen
with_column c p = record { indent = p.indent; next_indent = p.next_indent; column = record { 0 = c } }

abbrev pub with_margin : ℕ → ℕ → Pen → Pen
with_margin i n p = with_indent i (with_next_indent n p)

-- what changes the pen alone
abbrev pub on_pen : (Pen → Pen) → Renderer → Renderer
on_pen f r = with_pen (f r.pen) r

-- `buf.push_str`
unfoldable pub push_str : List ℕ → Renderer → Renderer
push_str t r = with_buf (r.buf ++ t) r

-- `column` set, and the greatest value with it
unfoldable pub at_column : ℕ → Renderer → Renderer
at_column c r = with_widest (max r.widest c) (on_pen (with_column c) r)

-- `new_line`, and what it does to the pen. It sets `column` to 0, which is never a new greatest value.
abbrev pub on_new_line : Pen → Pen
on_new_line p = with_margin (p.indent + p.next_indent) 0 (with_column 0 p)

unfoldable pub new_line : Renderer → Renderer
new_line r = on_pen on_new_line (with_buf (r.buf ++ cond (ltb 0 r.pen.column.0) (0x0A ∷ []) []) r)

-- what `comment` and `text` do at column 0: the indent, four blanks a step
unfoldable pub margin : Renderer → Renderer
margin r = at_column (4 * r.pen.indent) (push_str (replicate (4 * r.pen.indent) 0x20) r)

-- `comment`
unfoldable pub comment : List ℕ → Renderer → Renderer
comment t r = at_column 0 (push_str (t ++ (0x0A ∷ [])) (cond (ltb 0 r.pen.column.0) (push_str (0x20 ∷ []) r) (margin r)))

-- `text`
unfoldable pub text : List ℕ → ℕ → Renderer → Renderer
text t w r = let s = cond (ltb 0 r.pen.column.0) r (margin r) in at_column (s.pen.column.0 + w) (push_str t s)

-- `virtual_column`: the column, or where the line will start
unfoldable pub virtual_column : Pen → ℕ
virtual_column p = cond (ltb 0 p.column.0) p.column.0 (4 * p.indent)

-- `wrapped.insert`, where a group wraps
unfoldable pub insert : Bool → ℕ → Renderer → Renderer
insert w n r = with_marks (cond w (set r.marks n 1) r.marks) r

-- `indent` one more and one less, where `wrap` holds
unfoldable pub indent_more : Bool → Pen → Pen
indent_more w p = with_indent (cond w (p.indent + 1) p.indent) p

unfoldable pub indent_less : Bool → Pen → Pen
indent_less w p = with_indent (cond w (p.indent - 1) p.indent) p

-- `next_indent` one more, and what `IndentNext` takes back in the end
unfoldable pub next_indent_more : Bool → Pen → Pen
next_indent_more w p = with_next_indent (cond w (p.next_indent + 1) p.next_indent) p

unfoldable pub next_indent_less : Bool → Pen → Pen
next_indent_less w p = cond w (cond (ltb 0 p.next_indent) (with_next_indent (p.next_indent - 1) p) (indent_less true p)) p

module _ (p : Page) where
  -- `nodes.width`, by the groups that have wrapped so far
  abbrev pub nodes_width : Nodes → Renderer → ℕ
  nodes_width ns r = widths p.columns r.marks ns

  -- a group wraps: it must, or it does not fit
  unfoldable pub wraps : Bool → ℕ → Renderer → Bool
  wraps must w r = must || ltb p.max (virtual_column r.pen + w)

  unfoldable pub group_wraps : Nodes → Renderer → Bool
  group_wraps ns r = wraps (must_wraps ns) (nodes_width ns r) r

  -- the first branch of `Call`, "the special case for trailing function calls": the callee keeps its line
  unfoldable pub trailing_call : Nodes → Nodes → Renderer → Bool
  trailing_call e a r =
      not (must_wraps e || must_wraps a)
      && ltb p.max (virtual_column r.pen + nodes_width e r + nodes_width a r)
      && ltb (virtual_column r.pen + nodes_width e r + 1) p.max

  -- The callee's parts wrap: in the first branch as a group of their own, in the second as one with the arguments, whose `must_wrap` the
  -- `IndentNext` between hides.
  unfoldable pub callee_wraps : Bool → Nodes → Nodes → Renderer → Bool
  callee_wraps trails e a r = cond trails (group_wraps e r) (wraps false (nodes_width e r + nodes_width a r) r)

  -- `render_node`. Of a `Call` the groups that the Rust makes up are written out; Call.antt has the Rust's own form, and claims that the two are equal.
  unfoldable mutual
    pub render_node : Node → Bool → Renderer → Renderer
    render_node (group n ns) w r = render_nodes ns (group_wraps ns r) (insert (group_wraps ns r) n r)
    render_node (indent ns) w r = on_pen (indent_less w) (render_nodes ns w (on_pen (indent_more w) r))
    render_node (indent_next ns) w r = on_pen (next_indent_less w) (render_nodes ns w (on_pen (next_indent_more w) r))
    render_node wrap_parent w r = r
    render_node (comment_node t) w r = comment (p.bytes t) r
    render_node (str k t) w r = text (p.bytes t) k r
    render_node (ascii t) w r = text (p.bytes t) (p.columns t) r
    render_node line w r = cond w (new_line r) r
    render_node empty_line w r = new_line (push_str (0x0A ∷ []) r)
    render_node line_or_space w r = cond w (new_line r) (text (0x20 ∷ []) 1 r)
    render_node (if_wrap n a b) w r = cond (wrapped r.marks n) (render_node a w r) (render_node b w r)
    render_node (call n e k a) w r =
        let trails = trailing_call e a r in
        let outer = callee_wraps trails e a r in
        let deeper = not trails && outer in
        let s = render_nodes e outer (on_pen (next_indent_more deeper) (insert outer n r)) in
        let inner = group_wraps a s in
        on_pen (next_indent_less deeper) (render_nodes a inner (insert inner k s))

    pub render_nodes : Nodes → Bool → Renderer → Renderer
    render_nodes none w r = r
    render_nodes (n then ns) w r = render_nodes ns w (render_node n w r)
