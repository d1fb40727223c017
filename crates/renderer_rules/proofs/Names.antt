-- Rendering changes the marks of the rows' own numbers alone, and keeps their number.
-- Assumes nothing.
use mathlib.Core.Path.{◌≡◌, refl, ap, ◌∙◌}
use Prim.Native.Nat.{ℕ}
use native.Mathlib.Omega.{arith}
use mathlib.Core.Bool.{Bool, true, false, cond, not, ◌&&◌, ◌||◌}
use mathlib.Core.List.{List, [], ◌∷◌}
use lib.ListN.{length, get_or, length-set}
use lib.Seq.{get_or-set_other}
use lib.Dec.{ltb, eqb}
use borrow.Author.Tests.{eqb-false}
use Rattle.rows.specs.Node.{Node, Nodes, group, indent, indent_next, wrap_parent, comment as comment_node, str}
use Rattle.rows.specs.Node.{ascii, line, empty_line, line_or_space, if_wrap, call, none, ◌then◌, wrapped}
use Rattle.renderer_rules.specs.Renderer.{Page, Renderer, on_pen, push_str, at_column, new_line, margin, comment, text, insert, indent_more, next_indent_more}
use Rattle.renderer_rules.specs.Renderer.{group_wraps, trailing_call, callee_wraps, render_node, render_nodes}

-- x is a number of the node, or of one in it
unfoldable mutual
  pub names : ℕ → Node → Bool
  names x (group n ns) = eqb x n || names_in x ns
  names x (indent ns) = names_in x ns
  names x (indent_next ns) = names_in x ns
  names x wrap_parent = false
  names x (comment_node t) = false
  names x (str w t) = false
  names x (ascii t) = false
  names x line = false
  names x empty_line = false
  names x line_or_space = false
  names x (if_wrap n a b) = eqb x n || (names x a || names x b)
  names x (call n e k a) = (eqb x n || eqb x k) || (names_in x e || names_in x a)

  pub names_in : ℕ → Nodes → Bool
  names_in x none = false
  names_in x (n then ns) = names x n || names_in x ns

pub neither : (a b : Bool) → (a || b) ≡ false → (a ≡ false) × (b ≡ false)
neither true b e = absurd (let z : ◌≡◌ {A = ℕ} 0 1 = cc in omega arith)
neither false b e = (refl, e)

-- the mark of x, and how many marks there are, are the same
pub record Same (x : ℕ) (s t : Renderer) : Type 0 where
  pub mark : get_or t.marks x 0 ≡ get_or s.marks x 0
  pub size : length t.marks ≡ length s.marks

same_marks : (x : ℕ) (s t : Renderer) → t.marks ≡ s.marks → Same x s t
same_marks x s t e = record { mark = ap (λ (m : List ℕ). get_or m x 0) e; size = ap length e }

after : {x : ℕ} {s t u : Renderer} → Same x s t → Same x t u → Same x s u
after a b = record { mark = b.mark ∙ a.mark; size = b.size ∙ a.size }

cond_same : (b : Bool) (x : ℕ) (s t u : Renderer) → Same x s t → Same x s u → Same x s (cond b t u)
cond_same true x s t u p q = p
cond_same false x s t u p q = q

insert_same : (x n : ℕ) (w : Bool) (s : Renderer) → eqb x n ≡ false → Same x s (insert w n s)
unfolding insert
insert_same x n true s e = record { mark = get_or-set_other s.marks n x 1 0 (eqb-false x n e); size = length-set s.marks n 1 }
insert_same x n false s e = record { mark = refl; size = refl }

text_marks : (t : List ℕ) (w : ℕ) (s : Renderer) → (text t w s).marks ≡ s.marks
unfolding text push_str at_column margin
text_marks t w s = go (ltb 0 s.pen.column.0)
  where
    go : (b : Bool) → (cond b s (margin s)).marks ≡ s.marks
    go true = refl
    go false = refl

comment_marks : (t : List ℕ) (s : Renderer) → (comment t s).marks ≡ s.marks
unfolding comment push_str at_column margin
comment_marks t s = go (ltb 0 s.pen.column.0)
  where
    go : (b : Bool) → (cond b (push_str (0x20 ∷ []) s) (margin s)).marks ≡ s.marks
    go true = refl
    go false = refl

line_marks : (s : Renderer) → (new_line s).marks ≡ s.marks
unfolding new_line
line_marks s = refl

empty_marks : (s : Renderer) → (new_line (push_str (0x0A ∷ []) s)).marks ≡ s.marks
unfolding new_line push_str
empty_marks s = refl

mutual
  unfolding render_node names

  pub render_same : (x : ℕ) (n : Node) (p : Page) (w : Bool) (s : Renderer) → names x n ≡ false → Same x s (render_node p n w s)
  render_same x (group n ns) p w s e =
      let h = neither (eqb x n) (names_in x ns) e in
      after (insert_same x n (group_wraps p ns s) s h.0) (renders_same x ns p (group_wraps p ns s) (insert (group_wraps p ns s) n s) h.1)
  render_same x (indent ns) p w s e =
      after (same_marks x s (on_pen (indent_more w) s) refl) (after (renders_same x ns p w (on_pen (indent_more w) s) e) (same_marks x _ _ refl))
  render_same x (indent_next ns) p w s e =
      after (same_marks x s (on_pen (next_indent_more w) s) refl) (after (renders_same x ns p w (on_pen (next_indent_more w) s) e) (same_marks x _ _ refl))
  render_same x wrap_parent p w s e = same_marks x s s refl
  render_same x (comment_node t) p w s e = same_marks x s _ (comment_marks (p.bytes t) s)
  render_same x (str k t) p w s e = same_marks x s _ (text_marks (p.bytes t) k s)
  render_same x (ascii t) p w s e = same_marks x s _ (text_marks (p.bytes t) (p.columns t) s)
  render_same x line p w s e = cond_same w x s (new_line s) s (same_marks x s _ (line_marks s)) (same_marks x s s refl)
  render_same x empty_line p w s e = same_marks x s _ (empty_marks s)
  render_same x line_or_space p w s e =
      cond_same w x s (new_line s) (text (0x20 ∷ []) 1 s) (same_marks x s _ (line_marks s)) (same_marks x s _ (text_marks (0x20 ∷ []) 1 s))
  render_same x (if_wrap n a b) p w s e =
      let h = neither (eqb x n) (names x a || names x b) e in
      let k = neither (names x a) (names x b) h.1 in
      cond_same (wrapped s.marks n) x s (render_node p a w s) (render_node p b w s) (render_same x a p w s k.0) (render_same x b p w s k.1)
  render_same x (call n e k a) p w s q =
      let h = neither (eqb x n || eqb x k) (names_in x e || names_in x a) q in
      let i = neither (eqb x n) (eqb x k) h.0 in
      let j = neither (names_in x e) (names_in x a) h.1 in
      let t = trailing_call p e a s in
      let o = callee_wraps p t e a s in
      let d = not t && o in
      let s1 = render_nodes p e o (on_pen (next_indent_more d) (insert o n s)) in
      let c = group_wraps p a s1 in
      after (insert_same x n o s i.0)
      (after (same_marks x (insert o n s) (on_pen (next_indent_more d) (insert o n s)) refl)
      (after (renders_same x e p o (on_pen (next_indent_more d) (insert o n s)) j.0)
      (after (insert_same x k c s1 i.1)
      (after (renders_same x a p c (insert c k s1) j.1) (same_marks x _ _ refl)))))

  pub renders_same : (x : ℕ) (ns : Nodes) (p : Page) (w : Bool) (s : Renderer) → names_in x ns ≡ false → Same x s (render_nodes p ns w s)
  renders_same x none p w s e = same_marks x s s refl
  renders_same x (n then ns) p w s e =
      let h = neither (names x n) (names_in x ns) e in
      after (render_same x n p w s h.0) (renders_same x ns p w (render_node p n w s) h.1)
