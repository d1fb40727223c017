-- The margin never drifts: rendering keeps `indent` plus `next_indent`, and `indent` is no smaller. So no step back goes under 0.
-- Assumes nothing.
use mathlib.Core.Path.{◌≡◌, refl, ◌∙◌}
use Prim.Native.Nat.{ℕ, ◌+◌, ◌*◌, ◌-◌, ◌≤◌}
use native.Mathlib.Omega.{arith}
use mathlib.Core.Bool.{Bool, true, false, cond, not, ◌&&◌}
use mathlib.Core.List.{List, [], ◌∷◌, ◌++◌}
use lib.ListN.{replicate}
use lib.Dec.{ltb}
use borrow.Author.Tests.{ltb-true, ltb-false}
use Rattle.rows.specs.Node.{Node, Nodes, group, indent, indent_next, wrap_parent, comment as comment_node, str}
use Rattle.rows.specs.Node.{ascii, line, empty_line, line_or_space, if_wrap, call, none, ◌then◌, wrapped}
use Rattle.renderer_rules.specs.declared.Pen.{Pen}
use Rattle.renderer_rules.specs.Renderer.{Page, Renderer, with_next_indent, on_pen, push_str, at_column, new_line, margin, comment, text, insert, indent_more}
use Rattle.renderer_rules.specs.Renderer.{indent_less, next_indent_more, next_indent_less, group_wraps, trailing_call, callee_wraps, render_node, render_nodes}

-- the sum is the same, and `indent` is no smaller
pub record Kept (s t : Renderer) : Type 0 where
  pub sum : t.pen.indent + t.pen.next_indent ≡ s.pen.indent + s.pen.next_indent
  pub low : s.pen.indent ≤ t.pen.indent

still : (s : Renderer) → Kept s s
still s = record { sum = refl; low = omega arith }

after : {s t u : Renderer} → Kept s t → Kept t u → Kept s u
after a b = record { sum = b.sum ∙ a.sum; low = omega arith }

line_kept : (s : Renderer) → Kept s (new_line s)
unfolding new_line
line_kept s = record { sum = omega arith; low = omega arith }

cond_kept : (b : Bool) (s t u : Renderer) → Kept s t → Kept s u → Kept s (cond b t u)
cond_kept true s t u p q = p
cond_kept false s t u p q = q

push_kept : (t : List ℕ) (s : Renderer) → Kept s (push_str t s)
unfolding push_str
push_kept t s = record { sum = refl; low = omega arith }

column_kept : (c : ℕ) (s : Renderer) → Kept s (at_column c s)
unfolding at_column
column_kept c s = record { sum = refl; low = omega arith }

margin_kept : (s : Renderer) → Kept s (margin s)
unfolding margin
margin_kept s = after (push_kept (replicate (4 * s.pen.indent) 0x20) s) (column_kept (4 * s.pen.indent) (push_str (replicate (4 * s.pen.indent) 0x20) s))

text_kept : (t : List ℕ) (w : ℕ) (s : Renderer) → Kept s (text t w s)
unfolding text
text_kept t w s =
    let u = cond (ltb 0 s.pen.column.0) s (margin s) in
    after (cond_kept (ltb 0 s.pen.column.0) s s (margin s) (still s) (margin_kept s))
    (after (push_kept t u) (column_kept (u.pen.column.0 + w) (push_str t u)))

comment_kept : (t : List ℕ) (s : Renderer) → Kept s (comment t s)
unfolding comment
comment_kept t s =
    let u = cond (ltb 0 s.pen.column.0) (push_str (0x20 ∷ []) s) (margin s) in
    after
    (cond_kept (ltb 0 s.pen.column.0) s (push_str (0x20 ∷ []) s) (margin s) (push_kept (0x20 ∷ []) s) (margin_kept s))
    (after (push_kept (t ++ (0x0A ∷ [])) u) (column_kept 0 (push_str (t ++ (0x0A ∷ [])) u)))

insert_kept : (n : ℕ) (b : Bool) (s : Renderer) → Kept s (insert b n s)
unfolding insert
insert_kept n b s = record { sum = refl; low = omega arith }

in_kept : (b : Bool) (s t : Renderer) → Kept (on_pen (indent_more b) s) t → Kept s (on_pen (indent_less b) t)
unfolding indent_more indent_less
in_kept true s t k = let a = k.sum in let c = k.low in record { sum = omega arith; low = omega arith }
in_kept false s t k = record { sum = k.sum; low = k.low }

next_kept : (b : Bool) (s t : Renderer) → Kept (on_pen (next_indent_more b) s) t → Kept s (on_pen (next_indent_less b) t)
unfolding next_indent_more next_indent_less indent_less
next_kept true s t k = go (ltb 0 t.pen.next_indent) refl
  where
    go : (b : Bool) → ltb 0 t.pen.next_indent ≡ b → Kept s (on_pen (λ (p : Pen). cond b (with_next_indent (p.next_indent - 1) p) (indent_less true p)) t)
    go true e = let h = ltb-true 0 t.pen.next_indent e in let a = k.sum in let c = k.low in record { sum = omega arith; low = omega arith }
    go false e = let h = ltb-false 0 t.pen.next_indent e in let a = k.sum in let c = k.low in record { sum = omega arith; low = omega arith }
next_kept false s t k = record { sum = k.sum; low = k.low }

mutual
  unfolding render_node

  pub render_kept : (n : Node) (pg : Page) (w : Bool) (s : Renderer) → Kept s (render_node pg n w s)
  render_kept (group n ns) pg w s = after (insert_kept n (group_wraps pg ns s) s) (renders_kept ns pg (group_wraps pg ns s) (insert (group_wraps pg ns s) n s))
  render_kept (indent ns) pg w s = in_kept w s (render_nodes pg ns w (on_pen (indent_more w) s)) (renders_kept ns pg w (on_pen (indent_more w) s))
  render_kept (indent_next ns) pg w s = next_kept w s (render_nodes pg ns w (on_pen (next_indent_more w) s))
      (renders_kept ns pg w (on_pen (next_indent_more w) s))
  render_kept wrap_parent pg w s = still s
  render_kept (comment_node t) pg w s = comment_kept (pg.bytes t) s
  render_kept (str k t) pg w s = text_kept (pg.bytes t) k s
  render_kept (ascii t) pg w s = text_kept (pg.bytes t) (pg.columns t) s
  render_kept line pg w s = cond_kept w s (new_line s) s (line_kept s) (still s)
  render_kept empty_line pg w s = after (push_kept (0x0A ∷ []) s) (line_kept (push_str (0x0A ∷ []) s))
  render_kept line_or_space pg w s = cond_kept w s (new_line s) (text (0x20 ∷ []) 1 s) (line_kept s) (text_kept (0x20 ∷ []) 1 s)
  render_kept (if_wrap n a b) pg w s =
      cond_kept (wrapped s.marks n) s (render_node pg a w s) (render_node pg b w s) (render_kept a pg w s) (render_kept b pg w s)
  render_kept (call n e k a) pg w s =
      let t = trailing_call pg e a s in
      let b = callee_wraps pg t e a s in
      let d = not t && b in
      let s1 = render_nodes pg e b (on_pen (next_indent_more d) (insert b n s)) in
      let c = group_wraps pg a s1 in
      after (insert_kept n b s)
      (next_kept d (insert b n s) (render_nodes pg a c (insert c k s1))
      (after (renders_kept e pg b (on_pen (next_indent_more d) (insert b n s))) (after (insert_kept k c s1) (renders_kept a pg c (insert c k s1)))))

  pub renders_kept : (ns : Nodes) (pg : Page) (w : Bool) (s : Renderer) → Kept s (render_nodes pg ns w s)
  renders_kept none pg w s = still s
  renders_kept (n then ns) pg w s = after (render_kept n pg w s) (renders_kept ns pg w (render_node pg n w s))
