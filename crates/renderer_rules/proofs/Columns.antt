-- No column is past what all nodes measure together, with four for each that sets its parts in.
-- Assumes nothing.
use Prim.Native.Nat.{ℕ, ◌+◌, ◌*◌, ◌-◌, ◌≤◌}
use native.Mathlib.Omega.{arith}
use mathlib.Core.Bool.{Bool, true, false, cond, not, ◌&&◌}
use mathlib.Core.List.{List, [], ◌∷◌}
use lib.Dec.{ltb}
use Rattle.rows.specs.Node.{Node, Nodes, group, indent, indent_next, wrap_parent, comment as comment_node, str}
use Rattle.rows.specs.Node.{ascii, line, empty_line, line_or_space, if_wrap, call, none, ◌then◌, wrapped}
use Rattle.renderer_rules.specs.declared.Pen.{Pen}
use Rattle.renderer_rules.specs.Renderer.{Page, Renderer, with_next_indent, on_pen, push_str, at_column, new_line, margin}
use Rattle.renderer_rules.specs.Renderer.{comment, text, insert, indent_more, indent_less, next_indent_more, next_indent_less}
use Rattle.renderer_rules.specs.Renderer.{fresh_renderer, group_wraps, trailing_call, callee_wraps, render_node, render_nodes}
use Rattle.renderer_rules.specs.Widest.{fresh_pen, greatest_column}

-- what `column` is, was, and starts a line with
record Under (s : Renderer) (c : ℕ) : Type 0 where
  widest : s.widest ≤ c
  column : s.pen.column.0 ≤ c
  starts : 4 * (s.pen.indent + s.pen.next_indent) ≤ c

under_more : {s : Renderer} {a : ℕ} (b : ℕ) → a ≤ b → Under s a → Under s b
under_more b h p = record { widest = omega (arith, p.widest); column = omega (arith, p.column); starts = omega (arith, p.starts) }

under_either : (b : Bool) {s t : Renderer} {c : ℕ} → Under s c → Under t c → Under (cond b s t) c
under_either true p q = p
under_either false p q = q

push_under : (t : List ℕ) (c : ℕ) (s : Renderer) → Under s c → Under (push_str t s) c
unfolding push_str
push_under t c s p = record { widest = p.widest; column = p.column; starts = p.starts }

column_under : (k c : ℕ) (s : Renderer) → k ≤ c → Under s c → Under (at_column k s) c
unfolding at_column
column_under k c s h p = let x = p.widest in record { widest = omega arith; column = h; starts = p.starts }

line_under : (c : ℕ) (s : Renderer) → Under s c → Under (new_line s) c
unfolding new_line
line_under c s p = let z = p.starts in record { widest = p.widest; column = omega arith; starts = omega arith }

margin_under : (c : ℕ) (s : Renderer) → Under s c → Under (margin s) c
unfolding margin
margin_under c s p = let z = p.starts in column_under (4 * s.pen.indent) c _ (omega arith) (push_under _ c s p)

comment_under : (t : List ℕ) (c : ℕ) (s : Renderer) → Under s c → Under (comment t s) c
unfolding comment
comment_under t c s p =
    column_under 0 c _ (omega arith)
    (push_under _ c _ (under_either (ltb 0 s.pen.column.0) (push_under (0x20 ∷ []) c s p) (margin_under c s p)))

text_under : (t : List ℕ) (w c : ℕ) (s : Renderer) → Under s c → Under (text t w s) (c + w)
unfolding text
text_under t w c s p =
    let q = under_either (ltb 0 s.pen.column.0) p (margin_under c s p) in
    let h = q.column in
    column_under _ (c + w) _ (omega arith) (push_under t (c + w) _ (under_more (c + w) (omega arith) q))

insert_under : (n c : ℕ) (b : Bool) (s : Renderer) → Under s c → Under (insert b n s) c
unfolding insert
insert_under n c b s p = record { widest = p.widest; column = p.column; starts = p.starts }

in_under : (b : Bool) (c : ℕ) (s : Renderer) → Under s c → Under (on_pen (indent_more b) s) (c + 4)
unfolding indent_more
in_under true c s p = record { widest = omega (arith, p.widest); column = omega (arith, p.column); starts = omega (arith, p.starts) }
in_under false c s p = under_more (c + 4) (omega arith) p

out_under : (b : Bool) (c : ℕ) (s : Renderer) → Under s c → Under (on_pen (indent_less b) s) c
unfolding indent_less
out_under true c s p = let z = p.starts in record { widest = p.widest; column = p.column; starts = omega arith }
out_under false c s p = p

next_in_under : (b : Bool) (c : ℕ) (s : Renderer) → Under s c → Under (on_pen (next_indent_more b) s) (c + 4)
unfolding next_indent_more
next_in_under true c s p = record { widest = omega (arith, p.widest); column = omega (arith, p.column); starts = omega (arith, p.starts) }
next_in_under false c s p = under_more (c + 4) (omega arith) p

next_out_under : (b : Bool) (c : ℕ) (s : Renderer) → Under s c → Under (on_pen (next_indent_less b) s) c
unfolding next_indent_less
next_out_under true c s p = go (ltb 0 s.pen.next_indent)
  where
    go : (b : Bool) → Under (on_pen (λ (p : Pen). cond b (with_next_indent (p.next_indent - 1) p) (indent_less true p)) s) c
    go true = let z = p.starts in record { widest = p.widest; column = p.column; starts = omega arith }
    go false = out_under true c s p
next_out_under false c s p = p

-- ---- what nodes measure
module _ (pg : Page) where
  unfoldable mutual
    pub measure : Node → ℕ
    measure (group n ns) = measures ns
    measure (indent ns) = 4 + measures ns
    measure (indent_next ns) = 4 + measures ns
    measure wrap_parent = 0
    measure (comment_node t) = 0
    measure (str w t) = w
    measure (ascii t) = pg.columns t
    measure line = 0
    measure empty_line = 0
    measure line_or_space = 1
    measure (if_wrap n a b) = measure a + measure b
    measure (call n e k a) = 4 + (measures e + measures a)

    pub measures : Nodes → ℕ
    measures none = 0
    measures (n then ns) = measure n + measures ns

  mutual
    unfolding render_node measure

    node_under : (n : Node) (w : Bool) (c : ℕ) (s : Renderer) → Under s c → Under (render_node pg n w s) (c + measure n)
    node_under (group n ns) w c s p = let b = group_wraps pg ns s in nodes_under ns b c _ (insert_under n c b s p)
    node_under (indent ns) w c s p =
        under_more (c + (4 + measures ns)) (omega arith) (out_under w (c + 4 + measures ns) _ (nodes_under ns w (c + 4) _ (in_under w c s p)))
    node_under (indent_next ns) w c s p =
        under_more (c + (4 + measures ns)) (omega arith) (next_out_under w (c + 4 + measures ns) _ (nodes_under ns w (c + 4) _ (next_in_under w c s p)))
    node_under wrap_parent w c s p = under_more (c + 0) (omega arith) p
    node_under (comment_node t) w c s p = under_more (c + 0) (omega arith) (comment_under (pg.bytes t) c s p)
    node_under (str k t) w c s p = text_under (pg.bytes t) k c s p
    node_under (ascii t) w c s p = text_under (pg.bytes t) (pg.columns t) c s p
    node_under line w c s p = under_more (c + 0) (omega arith) (under_either w (line_under c s p) p)
    node_under empty_line w c s p = under_more (c + 0) (omega arith) (line_under c _ (push_under (0x0A ∷ []) c s p))
    node_under line_or_space w c s p =
        under_either w (under_more (c + 1) (omega arith) (line_under c s p)) (text_under (0x20 ∷ []) 1 c s p)
    node_under (if_wrap n a b) w c s p =
        under_either (wrapped s.marks n) (under_more (c + (measure a + measure b)) (omega arith) (node_under a w c s p))
        (under_more (c + (measure a + measure b)) (omega arith) (node_under b w c s p))
    node_under (call n e k a) w c s p =
        let t = trailing_call pg e a s in
        let b = callee_wraps pg t e a s in
        let d = not t && b in
        let s0 = on_pen (next_indent_more d) (insert b n s) in
        let s1 = render_nodes pg e b s0 in
        let i = group_wraps pg a s1 in
        let q = nodes_under e b (c + 4) s0 (next_in_under d c _ (insert_under n c b s p)) in
        under_more (c + (4 + (measures e + measures a))) (omega arith)
        (next_out_under d (c + 4 + measures e + measures a) _
        (nodes_under a i (c + 4 + measures e) _ (insert_under k (c + 4 + measures e) i s1 q)))

    nodes_under : (ns : Nodes) (w : Bool) (c : ℕ) (s : Renderer) → Under s c → Under (render_nodes pg ns w s) (c + measures ns)
    nodes_under none w c s p = under_more (c + 0) (omega arith) p
    nodes_under (n then ns) w c s p =
        under_more (c + (measure n + measures ns)) (omega arith) (nodes_under ns w (c + measure n) _ (node_under n w c s p))

  -- from the start
  pub column_most : (ns : Nodes) (marks : List ℕ) → greatest_column pg ns marks ≤ measures ns
  column_most ns marks =
      let p = (nodes_under ns true 0 (fresh_renderer fresh_pen marks) (record { widest = omega arith; column = omega arith; starts = omega arith })).widest in
      omega arith
