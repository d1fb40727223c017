-- Nodes are rendered to no more bytes than their sum, and the start of the first line.
-- Assumes nothing.
use mathlib.Core.Path.{◌≡◌, refl}
use Prim.Native.Nat.{ℕ, suc, ◌+◌, ◌*◌, ◌-◌, ◌≤◌, ◌<◌}
use native.Mathlib.Omega.{arith}
use mathlib.Core.Bool.{Bool, true, false, cond, not, ◌&&◌}
use mathlib.Core.List.{List, [], ◌∷◌, ◌++◌}
use lib.ListN.{length, drop, replicate, length-append, length-take, length-replicate}
use lib.Dec.{ltb}
use borrow.Author.Tests.{ltb-true, ltb-false}
use Rattle.rows.specs.Node.{Text, Node, Nodes, group, indent, indent_next, wrap_parent, comment as comment_node}
use Rattle.rows.specs.Node.{str, ascii, line, empty_line, line_or_space, if_wrap, call, none, ◌then◌, wrapped}
use Rattle.renderer_rules.specs.Most.{node_most, nodes_most}
use Rattle.rows.specs.Texts.{origin_text}
use Rattle.renderer_rules.specs.Page.{text_bytes, page_with}
use Rattle.renderer_rules.specs.declared.Pen.{Pen}
use Rattle.renderer_rules.specs.Renderer.{Page, Renderer, with_next_indent, on_pen, push_str, at_column, new_line, margin, comment, text, insert, indent_more}
use Rattle.renderer_rules.specs.Renderer.{indent_less, next_indent_more, next_indent_less, group_wraps, trailing_call, callee_wraps, render_node, render_nodes}
use Rattle.renderer_rules.proofs.Margin.{render_kept, renders_kept}

-- ---- a step adds no more
-- the bytes of the line's start that are still to come
unfoldable ahead : Renderer → ℕ
ahead r = cond (ltb 0 r.pen.column.0) 0 (4 * (r.pen.indent + r.pen.next_indent))

record Adds (s t : Renderer) (n : ℕ) : Type 0 where
  most : length t.buf + ahead t ≤ length s.buf + ahead s + n

adds_none : (s : Renderer) → Adds s s 0
adds_none s = record { most = omega arith }

adds_then : {s t u : Renderer} {a b : ℕ} → Adds s t a → Adds t u b → Adds s u (a + b)
adds_then p q = record { most = omega arith }

adds_more : {s t : Renderer} {a : ℕ} (b : ℕ) → a ≤ b → Adds s t a → Adds s t b
adds_more b h p = record { most = omega arith }

adds_cond : (c : Bool) (s t u : Renderer) (a b : ℕ) → Adds s t a → Adds s u b → Adds s (cond c t u) (a + b)
adds_cond true s t u a b p q = adds_more (a + b) (omega arith) p
adds_cond false s t u a b p q = adds_more (a + b) (omega arith) q

adds_either : (c : Bool) (s t u : Renderer) (a : ℕ) → Adds s t a → Adds s u a → Adds s (cond c t u) a
adds_either true s t u a p q = p
adds_either false s t u a p q = q

push_adds : (t : List ℕ) (s : Renderer) → Adds s (push_str t s) (length t)
unfolding push_str ahead
push_adds t s = record { most = omega (arith, length-append s.buf t) }

line_adds : (m : ℕ) (s : Renderer) → s.pen.indent + s.pen.next_indent ≤ m → Adds s (new_line s) (1 + 4 * m)
unfolding new_line ahead
line_adds m s h = go (ltb 0 s.pen.column.0) refl
  where
    go : (c : Bool) → ltb 0 s.pen.column.0 ≡ c → Adds s (new_line s) (1 + 4 * m)
    go true e = record { most = rw e (omega (arith, length-append s.buf (0x0A ∷ []))) }
    go false e = record { most = rw e (omega (arith, length-append s.buf [])) }

-- the start of a line, four bytes a step; then a text of any width
text_adds : (t : List ℕ) (w : ℕ) (s : Renderer) → Adds s (text t w s) (length t)
unfolding text margin push_str at_column ahead
text_adds t w s = go (ltb 0 s.pen.column.0) refl
  where
    wide : (c : Bool) → ltb 0 (s.pen.column.0 + w) ≡ c → 0 < s.pen.column.0 → cond c 0 (4 * (s.pen.indent + s.pen.next_indent)) ≤ 0
    wide true e h = omega arith
    wide false e h = let g = ltb-false 0 (s.pen.column.0 + w) e in omega arith

    start : (c : Bool) → ltb 0 (4 * s.pen.indent + w) ≡ c
        → 4 * s.pen.indent + cond c 0 (4 * (s.pen.indent + s.pen.next_indent)) ≤ 4 * (s.pen.indent + s.pen.next_indent)
    start true e = omega arith
    start false e = let g = ltb-false 0 (4 * s.pen.indent + w) e in omega arith

    go : (c : Bool) → ltb 0 s.pen.column.0 ≡ c → Adds s (text t w s) (length t)
    go true e =
        let h = wide (ltb 0 (s.pen.column.0 + w)) refl (ltb-true 0 s.pen.column.0 e) in
        record { most = rw e (omega (arith, length-append s.buf t)) }
    go false e =
        let h = start (ltb 0 (4 * s.pen.indent + w)) refl in
        let blanks : List ℕ = replicate (4 * s.pen.indent) 0x20 in
        record {
          most = rw e (omega (arith, length-append (s.buf ++ blanks) t, length-append s.buf blanks, length-replicate {A = ℕ} (4 * s.pen.indent) 0x20));
        }

comment_adds : (t : List ℕ) (m : ℕ) (s : Renderer) → s.pen.indent + s.pen.next_indent ≤ m → Adds s (comment t s) (length t + (2 + 4 * m))
unfolding comment margin push_str at_column ahead
comment_adds t m s h = go (ltb 0 s.pen.column.0) refl
  where
    go : (c : Bool) → ltb 0 s.pen.column.0 ≡ c → Adds s (comment t s) (length t + (2 + 4 * m))
    go true e =
        record {
          most =
              rw e
              (omega (
                arith,
                length-append (s.buf ++ (0x20 ∷ [])) (t ++ (0x0A ∷ [])),
                length-append s.buf (0x20 ∷ []),
                length-append t (0x0A ∷ []),
              ));
        }
    go false e =
        let blanks : List ℕ = replicate (4 * s.pen.indent) 0x20 in
        record {
          most =
              rw e
              (omega (
                arith,
                length-append (s.buf ++ blanks) (t ++ (0x0A ∷ [])),
                length-append s.buf blanks,
                length-append t (0x0A ∷ []),
                length-replicate {A = ℕ} (4 * s.pen.indent) 0x20,
              ));
        }

insert_adds : (n : ℕ) (b : Bool) (s : Renderer) → Adds s (insert b n s) 0
unfolding insert ahead
insert_adds n b s = record { most = omega arith }

-- with an indent more and less
less : (c : Bool) (a b : ℕ) → a ≤ b → cond c 0 (4 * a) ≤ cond c 0 (4 * b)
less true a b h = omega arith
less false a b h = omega arith

more : (c : Bool) (a b : ℕ) → a ≤ b + 1 → cond c 0 (4 * a) ≤ cond c 0 (4 * b) + 4
more true a b h = omega arith
more false a b h = omega arith

in_adds : (b : Bool) (s : Renderer) → Adds s (on_pen (indent_more b) s) 4
unfolding indent_more ahead
in_adds true s = record {
  most =
      let h = more (ltb 0 s.pen.column.0) (s.pen.indent + 1 + s.pen.next_indent) (s.pen.indent + s.pen.next_indent) (omega arith) in
      omega arith;
}
in_adds false s = record { most = omega arith }

out_adds : (b : Bool) (s : Renderer) → Adds s (on_pen (indent_less b) s) 0
unfolding indent_less ahead
out_adds true s = record {
  most =
      let h = less (ltb 0 s.pen.column.0) (s.pen.indent - 1 + s.pen.next_indent) (s.pen.indent + s.pen.next_indent) (omega arith) in
      omega arith;
}
out_adds false s = record { most = omega arith }

next_in_adds : (b : Bool) (s : Renderer) → Adds s (on_pen (next_indent_more b) s) 4
unfolding next_indent_more ahead
next_in_adds true s = record {
  most =
      let h = more (ltb 0 s.pen.column.0) (s.pen.indent + (s.pen.next_indent + 1)) (s.pen.indent + s.pen.next_indent) (omega arith) in
      omega arith;
}
next_in_adds false s = record { most = omega arith }

next_out_adds : (b : Bool) (s : Renderer) → Adds s (on_pen (next_indent_less b) s) 0
unfolding next_indent_less ahead
next_out_adds true s = go (ltb 0 s.pen.next_indent)
  where
    go : (c : Bool) → Adds s (on_pen (λ (p : Pen). cond c (with_next_indent (p.next_indent - 1) p) (indent_less true p)) s) 0
    go true = record {
      most =
          let h = less (ltb 0 s.pen.column.0) (s.pen.indent + (s.pen.next_indent - 1)) (s.pen.indent + s.pen.next_indent) (omega arith) in
          omega arith;
    }
    go false = out_adds true s
next_out_adds false s = record { most = omega arith }

push_sum : (t : List ℕ) (m : ℕ) (s : Renderer) → s.pen.indent + s.pen.next_indent ≤ m
    → (push_str t s).pen.indent + (push_str t s).pen.next_indent ≤ m
unfolding push_str
push_sum t m s h = h

insert_sum : (n : ℕ) (b : Bool) (m : ℕ) (s : Renderer) → s.pen.indent + s.pen.next_indent ≤ m
    → (insert b n s).pen.indent + (insert b n s).pen.next_indent ≤ m
unfolding insert
insert_sum n b m s h = h

in_sum : (b : Bool) (m : ℕ) (s : Renderer) → s.pen.indent + s.pen.next_indent ≤ m
    → (indent_more b s.pen).indent + (indent_more b s.pen).next_indent ≤ suc m
unfolding indent_more
in_sum true m s h = omega arith
in_sum false m s h = omega arith

next_sum : (b : Bool) (m : ℕ) (s : Renderer) → s.pen.indent + s.pen.next_indent ≤ m
    → (next_indent_more b s.pen).indent + (next_indent_more b s.pen).next_indent ≤ suc m
unfolding next_indent_more
next_sum true m s h = omega arith
next_sum false m s h = omega arith

-- ---- nodes add no more than their node_most, where each text is as long as it says
module _ (pg : Page) (said : (t : Text) → length (pg.bytes t) ≤ t.size) where
  mutual
    unfolding render_node node_most

    render_adds : (n : Node) (w : Bool) (m : ℕ) (s : Renderer) → s.pen.indent + s.pen.next_indent ≤ m → Adds s (render_node pg n w s) (node_most n m)
    render_adds (group n ns) w m s h =
        let b = group_wraps pg ns s in
        adds_more (nodes_most ns m) (omega arith) (adds_then (insert_adds n b s) (renders_adds ns b m (insert b n s) (insert_sum n b m s h)))
    render_adds (indent ns) w m s h =
        adds_more (4 + nodes_most ns (suc m)) (omega arith)
        (adds_then (adds_then (in_adds w s) (renders_adds ns w (suc m) (on_pen (indent_more w) s) (in_sum w m s h)))
        (out_adds w (render_nodes pg ns w (on_pen (indent_more w) s))))
    render_adds (indent_next ns) w m s h =
        adds_more (4 + nodes_most ns (suc m)) (omega arith)
        (adds_then (adds_then (next_in_adds w s) (renders_adds ns w (suc m) (on_pen (next_indent_more w) s) (next_sum w m s h)))
        (next_out_adds w (render_nodes pg ns w (on_pen (next_indent_more w) s))))
    render_adds wrap_parent w m s h = adds_none s
    render_adds (comment_node t) w m s h = let g = said t in adds_more (t.size + (2 + 4 * m)) (omega arith) (comment_adds (pg.bytes t) m s h)
    render_adds (str k t) w m s h = adds_more t.size (said t) (text_adds (pg.bytes t) k s)
    render_adds (ascii t) w m s h = adds_more t.size (said t) (text_adds (pg.bytes t) (pg.columns t) s)
    render_adds line w m s h =
        adds_either w s (new_line s) s (2 + 4 * m) (adds_more (2 + 4 * m) (omega arith) (line_adds m s h)) (adds_more (2 + 4 * m) (omega arith) (adds_none s))
    render_adds empty_line w m s h =
        adds_more (2 + 4 * m) (omega arith) (adds_then (push_adds (0x0A ∷ []) s) (line_adds m (push_str (0x0A ∷ []) s) (push_sum (0x0A ∷ []) m s h)))
    render_adds line_or_space w m s h =
        adds_either w s (new_line s) (text (0x20 ∷ []) 1 s) (2 + 4 * m)
        (adds_more (2 + 4 * m) (omega arith) (line_adds m s h))
        (adds_more (2 + 4 * m) (omega arith) (text_adds (0x20 ∷ []) 1 s))
    render_adds (if_wrap n a b) w m s h =
        adds_cond (wrapped s.marks n) s (render_node pg a w s) (render_node pg b w s) (node_most a m) (node_most b m)
        (render_adds a w m s h) (render_adds b w m s h)
    render_adds (call n e k a) w m s h =
        let t = trailing_call pg e a s in
        let b = callee_wraps pg t e a s in
        let d = not t && b in
        let s0 = on_pen (next_indent_more d) (insert b n s) in
        let h0 = next_sum d m (insert b n s) (insert_sum n b m s h) in
        let s1 = render_nodes pg e b s0 in
        let z = (renders_kept e pg b s0).sum in
        let c = group_wraps pg a s1 in
        adds_more (4 + (nodes_most e (suc m) + nodes_most a (suc m))) (omega arith)
        (adds_then (adds_then (insert_adds n b s) (next_in_adds d (insert b n s)))
        (adds_then (renders_adds e b (suc m) s0 h0)
        (adds_then (insert_adds k c s1)
        (adds_then (renders_adds a c (suc m) (insert c k s1) (insert_sum k c (suc m) s1 (omega arith)))
        (next_out_adds d (render_nodes pg a c (insert c k s1)))))))

    renders_adds : (ns : Nodes) (w : Bool) (m : ℕ) (s : Renderer) → s.pen.indent + s.pen.next_indent ≤ m → Adds s (render_nodes pg ns w s) (nodes_most ns m)
    renders_adds none w m s h = adds_none s
    renders_adds (n then ns) w m s h =
        let z = (render_kept n pg w s).sum in
        adds_then (render_adds n w m s h) (renders_adds ns w m (render_node pg n w s) (omega arith))

ahead_most : (r : Renderer) → ahead r ≤ 4 * (r.pen.indent + r.pen.next_indent)
unfolding ahead
ahead_most r = go (ltb 0 r.pen.column.0) (4 * (r.pen.indent + r.pen.next_indent))
  where
    go : (c : Bool) (n : ℕ) → cond c 0 n ≤ n
    go true n = omega arith
    go false n = omega arith

pub text_size : (source image : List ℕ) (t : Text) → length (text_bytes source image t) ≤ t.size
unfolding text_bytes
text_size source image t = rw (length-take t.size (drop t.start (origin_text source image t.origin))) (omega arith)

-- the text of nodes
pub text_most : (max : ℕ) (columns : Text → ℕ) (source image : List ℕ) (ns : Nodes) (m : ℕ) (w : Bool) (r : Renderer) → r.buf ≡ []
    → r.pen.indent + r.pen.next_indent ≡ m
    → length (render_nodes (page_with max columns source image) ns w r).buf ≤ 4 * m + nodes_most ns m
text_most max columns source image ns m w r e f =
    let a = (renders_adds (page_with max columns source image) (text_size source image) ns w m r (omega arith)).most in
    let c = ahead_most r in
    let h : length r.buf ≡ 0 = rw e in
    omega arith
