-- Rendering keeps the number of marks, neither reads nor changes marks past the numbers of its nodes, and only adds to the text: with text
-- ahead and more marks behind it is the same rendering. By induction on the nodes; widths look at the marks of `IfWrap` alone.
-- Assumes nothing.
use mathlib.Core.Path.{◌≡◌, refl, sym, ap, ap₂, subst, ◌∙◌}
use mathlib.Core.Bool.{Bool, true, false, cond, not, ◌&&◌, ◌||◌}
use mathlib.Core.List.{List, [], ◌∷◌, ◌++◌, append_assoc}
use Prim.Native.Nat.{ℕ, ◌+◌, ◌*◌, ◌<◌, max}
use lib.Dec.{ltb, eqb}
use lib.ListN.{length, replicate, length-set, get_or-append}
use lib.Seq.{set-append_left}
use Rattle.rows.specs.Node.{Text, Node, Nodes, group, indent, indent_next, wrap_parent, comment as comment_node, str, ascii}
use Rattle.rows.specs.Node.{line, empty_line, line_or_space, if_wrap, call, none, ◌then◌, wrapped, width, widths, must_wraps}
use Rattle.renderer_rules.specs.Renderer.{Page, Renderer, with_buf, with_marks, with_widest, on_pen, push_str, at_column}
use Rattle.renderer_rules.specs.Renderer.{new_line, margin, comment, text, virtual_column, insert, indent_more, indent_less}
use Rattle.renderer_rules.proofs.Choices.{grouped, callee, called}
use Rattle.renderer_rules.proofs.Widest.{max_of_three}
use Rattle.renderer_rules.specs.Renderer.{next_indent_more, next_indent_less, wraps, group_wraps, trailing_call, callee_wraps, render_node, render_nodes}

-- the numbers of a node and of nodes are under b
abbrev mutual
  pub Under : ℕ → Node → Type 0
  Under b (group n ns) = (n < b) × Unders b ns
  Under b (indent ns) = Unders b ns
  Under b (indent_next ns) = Unders b ns
  Under b wrap_parent = Unit {0}
  Under b (comment_node t) = Unit {0}
  Under b (str w t) = Unit {0}
  Under b (ascii t) = Unit {0}
  Under b line = Unit {0}
  Under b empty_line = Unit {0}
  Under b line_or_space = Unit {0}
  Under b (if_wrap n x y) = (n < b) × Under b x × Under b y
  Under b (call n e k a) = (n < b) × (k < b) × Unders b e × Unders b a

  pub Unders : ℕ → Nodes → Type 0
  Unders b none = Unit {0}
  Unders b (n then ns) = Under b n × Unders b ns

-- ---- the marks keep their number
abbrev marks_in : Renderer → ℕ
marks_in r = length r.marks

cond_length : (c : Bool) (x y : Renderer) (n : ℕ) → marks_in x ≡ n → marks_in y ≡ n → marks_in (cond c x y) ≡ n
cond_length true x y n p q = p
cond_length false x y n p q = q

pub insert_length : (w : Bool) (n : ℕ) (r : Renderer) → marks_in (insert w n r) ≡ marks_in r
unfolding insert
insert_length true n r = length-set r.marks n 1
insert_length false n r = refl

margin_length : (r : Renderer) → marks_in (margin r) ≡ marks_in r
unfolding margin at_column push_str
margin_length r = refl

comment_length : (t : List ℕ) (r : Renderer) → marks_in (comment t r) ≡ marks_in r
unfolding comment at_column push_str
comment_length t r = cond_length (ltb 0 r.pen.column.0) _ (margin r) (marks_in r) refl (margin_length r)

text_length : (t : List ℕ) (w : ℕ) (r : Renderer) → marks_in (text t w r) ≡ marks_in r
unfolding text at_column push_str
text_length t w r = cond_length (ltb 0 r.pen.column.0) r (margin r) (marks_in r) refl (margin_length r)

module _ (p : Page) where
  mutual
    unfolding render_node render_nodes new_line push_str indent_more indent_less next_indent_more

    pub render_length : (n : Node) (w : Bool) (r : Renderer) → marks_in (render_node p n w r) ≡ marks_in r
    render_length (group n ns) w r = renders_length ns _ _ ∙ insert_length _ n r
    render_length (indent ns) w r = renders_length ns w (on_pen (indent_more w) r)
    render_length (indent_next ns) w r = renders_length ns w (on_pen (next_indent_more w) r)
    render_length wrap_parent w r = refl
    render_length (comment_node t) w r = comment_length (p.bytes t) r
    render_length (str k t) w r = text_length (p.bytes t) k r
    render_length (ascii t) w r = text_length (p.bytes t) (p.columns t) r
    render_length line w r = cond_length w (new_line r) r (marks_in r) refl refl
    render_length empty_line w r = refl
    render_length line_or_space w r = cond_length w (new_line r) _ (marks_in r) refl (text_length (0x20 ∷ []) 1 r)
    render_length (if_wrap n x y) w r =
        cond_length (wrapped r.marks n) _ _ (marks_in r) (render_length x w r) (render_length y w r)
    render_length (call n e k a) w r =
        renders_length a _ _ ∙ insert_length _ k _ ∙ renders_length e _ _ ∙ insert_length _ n r

    pub renders_length : (ns : Nodes) (w : Bool) (r : Renderer) → marks_in (render_nodes p ns w r) ≡ marks_in r
    renders_length none w r = refl
    renders_length (n then ns) w r = renders_length ns w (render_node p n w r) ∙ render_length n w r

-- ---- marks past the numbers are not read
pub wrapped_past : (m past : List ℕ) (n : ℕ) → n < length m → wrapped (m ++ past) n ≡ wrapped m n
wrapped_past m past n h = ap (λ (x : ℕ). eqb x 1) (get_or-append m past 0 n h)

module _ (columns : Text → ℕ) (m past : List ℕ) where
  mutual
    unfolding width widths

    width_past : (n : Node) → Under (length m) n → width columns (m ++ past) n ≡ width columns m n
    width_past (group n ns) u = widths_past ns u.1
    width_past (indent ns) u = widths_past ns u
    width_past (indent_next ns) u = widths_past ns u
    width_past wrap_parent u = refl
    width_past (comment_node t) u = refl
    width_past (str w t) u = refl
    width_past (ascii t) u = refl
    width_past line u = refl
    width_past empty_line u = refl
    width_past line_or_space u = refl
    width_past (if_wrap n x y) u =
        ap (λ (c : Bool). cond c (width columns (m ++ past) x) (width columns (m ++ past) y)) (wrapped_past m past n u.0)
        ∙ ap₂ (cond (wrapped m n)) (width_past x u.1) (width_past y u.2)
    width_past (call n e k a) u = ap₂ ◌+◌ (widths_past e u.2) (widths_past a u.3)

    widths_past : (ns : Nodes) → Unders (length m) ns → widths columns (m ++ past) ns ≡ widths columns m ns
    widths_past none u = refl
    widths_past (n then ns) u = ap₂ ◌+◌ (width_past n u.0) (widths_past ns u.1)

-- ---- the same with text ahead and marks behind, where `column` was `before` at most
module _ (ahead past : List ℕ) (before : ℕ) where
  abbrev pub ext : Renderer → Renderer
  ext r = with_widest (max before r.widest) (with_buf (ahead ++ r.buf) (with_marks (r.marks ++ past) r))

  cond_ext : (c : Bool) (x y : Renderer) → cond c (ext x) (ext y) ≡ ext (cond c x y)
  cond_ext true x y = refl
  cond_ext false x y = refl

  push_ext : (t : List ℕ) (r : Renderer) → push_str t (ext r) ≡ ext (push_str t r)
  unfolding push_str
  push_ext t r = ap (λ (x : List ℕ). with_buf x (ext r)) (append_assoc ahead r.buf t)

  column_ext : (c : ℕ) (r : Renderer) → at_column c (ext r) ≡ ext (at_column c r)
  unfolding at_column
  column_ext c r = ap (λ (x : ℕ). with_widest x (at_column c (ext r))) (max_of_three before r.widest c)

  new_line_ext : (r : Renderer) → new_line (ext r) ≡ ext (new_line r)
  unfolding new_line
  new_line_ext r = ap (λ (x : List ℕ). with_buf x (ext (new_line r))) (append_assoc ahead r.buf (cond (ltb 0 r.pen.column.0) (0x0A ∷ []) []))

  margin_ext : (r : Renderer) → margin (ext r) ≡ ext (margin r)
  unfolding margin
  margin_ext r =
      ap (at_column (4 * r.pen.indent)) (push_ext (replicate (4 * r.pen.indent) 0x20) r)
      ∙ column_ext (4 * r.pen.indent) (push_str (replicate (4 * r.pen.indent) 0x20) r)

  text_ext : (t : List ℕ) (w : ℕ) (r : Renderer) → text t w (ext r) ≡ ext (text t w r)
  unfolding text
  text_ext t w r =
      let x = cond (ltb 0 r.pen.column.0) r (margin r) in
      ap (λ (x : Renderer). at_column (x.pen.column.0 + w) (push_str t x))
      (ap (cond (ltb 0 r.pen.column.0) (ext r)) (margin_ext r) ∙ cond_ext (ltb 0 r.pen.column.0) r (margin r))
      ∙ ap (at_column (x.pen.column.0 + w)) (push_ext t x)
      ∙ column_ext (x.pen.column.0 + w) (push_str t x)

  comment_ext : (t : List ℕ) (r : Renderer) → comment t (ext r) ≡ ext (comment t r)
  unfolding comment
  comment_ext t r =
      let x = cond (ltb 0 r.pen.column.0) (push_str (0x20 ∷ []) r) (margin r) in
      ap (λ (x : Renderer). at_column 0 (push_str (t ++ (0x0A ∷ [])) x))
      (ap₂ (cond (ltb 0 r.pen.column.0)) (push_ext (0x20 ∷ []) r) (margin_ext r)
      ∙ cond_ext (ltb 0 r.pen.column.0) (push_str (0x20 ∷ []) r) (margin r))
      ∙ ap (at_column 0) (push_ext (t ++ (0x0A ∷ [])) x)
      ∙ column_ext 0 (push_str (t ++ (0x0A ∷ [])) x)

  pub insert_ext : (w : Bool) (n : ℕ) (r : Renderer) → n < length r.marks → insert w n (ext r) ≡ ext (insert w n r)
  unfolding insert
  insert_ext true n r h = ap (λ (m : List ℕ). with_marks m (ext r)) (set-append_left r.marks past n 1 h)
  insert_ext false n r h = refl

  module _ (p : Page) where
    wide_ext : (ns : Nodes) (r : Renderer) → Unders (length r.marks) ns → widths p.columns (r.marks ++ past) ns ≡ widths p.columns r.marks ns
    wide_ext ns r u = widths_past p.columns r.marks past ns u

    pub group_wraps_ext : (ns : Nodes) (r : Renderer) → Unders (length r.marks) ns → group_wraps p ns (ext r) ≡ group_wraps p ns r
    unfolding group_wraps wraps virtual_column
    group_wraps_ext ns r u = ap (λ (x : ℕ). wraps p (must_wraps ns) x r) (wide_ext ns r u)

    pub trailing_ext : (e a : Nodes) (r : Renderer) → Unders (length r.marks) e → Unders (length r.marks) a
        → trailing_call p e a (ext r) ≡ trailing_call p e a r
    unfolding trailing_call virtual_column
    trailing_ext e a r u v =
        ap₂
        (λ (x y : ℕ).
        not (must_wraps e || must_wraps a)
        && ltb p.max (virtual_column r.pen + x + y)
        && ltb (virtual_column r.pen + x + 1) p.max)
        (wide_ext e r u)
        (wide_ext a r v)

    pub callee_wraps_ext : (t : Bool) (e a : Nodes) (r : Renderer) → Unders (length r.marks) e → Unders (length r.marks) a
        → callee_wraps p t e a (ext r) ≡ callee_wraps p t e a r
    unfolding callee_wraps group_wraps wraps virtual_column
    callee_wraps_ext t e a r u v =
        ap₂ (λ (x y : ℕ). cond t (wraps p (must_wraps e) x r) (wraps p false (x + y) r)) (wide_ext e r u) (wide_ext a r v)

    abbrev Ih : Nodes → Type 0
    Ih ns = (w : Bool) (r : Renderer) → Unders (length r.marks) ns → render_nodes p ns w (ext r) ≡ ext (render_nodes p ns w r)

    group_ext : (n : ℕ) (ns : Nodes) (r : Renderer) → Ih ns → n < length r.marks → Unders (length r.marks) ns
        → render_nodes p ns (group_wraps p ns (ext r)) (insert (group_wraps p ns (ext r)) n (ext r))
        ≡ ext (render_nodes p ns (group_wraps p ns r) (insert (group_wraps p ns r) n r))
    group_ext n ns r ih h u =
        let w = group_wraps p ns r in
        ap (λ (c : Bool). render_nodes p ns c (insert c n (ext r))) (group_wraps_ext ns r u)
        ∙ ap (render_nodes p ns w) (insert_ext w n r h)
        ∙ ih w (insert w n r) (subst (λ (b : ℕ). Unders b ns) (sym (insert_length w n r)) u)

    callee_length : (t w : Bool) (n : ℕ) (e : Nodes) (r : Renderer) → length r.marks ≡ length (callee p t w n e r).marks
    unfolding callee next_indent_more
    callee_length t w n e r = sym (renders_length p e w (on_pen (next_indent_more (not t && w)) (insert w n r)) ∙ insert_length w n r)

    callee_ext : (t w : Bool) (n : ℕ) (e : Nodes) (r : Renderer) → Ih e → n < length r.marks → Unders (length r.marks) e
        → callee p t w n e (ext r) ≡ ext (callee p t w n e r)
    unfolding callee next_indent_more
    callee_ext t w n e r ih h u =
        ap (λ (x : Renderer). render_nodes p e w (on_pen (next_indent_more (not t && w)) x)) (insert_ext w n r h)
        ∙ ih w (on_pen (next_indent_more (not t && w)) (insert w n r)) (subst (λ (b : ℕ). Unders b e) (sym (insert_length w n r)) u)

    call_ext : (t w : Bool) (n : ℕ) (e : Nodes) (k : ℕ) (a : Nodes) (r : Renderer) → Ih e → Ih a → Under (length r.marks) (call n e k a)
        → called p t w n e k a (ext r) ≡ ext (called p t w n e k a r)
    unfolding called grouped
    call_ext t w n e k a r ihe iha u =
        let x = callee p t w n e r in
        let l = callee_length t w n e r in
        ap
        (λ (y : Renderer). on_pen (next_indent_less (not t && w)) (render_nodes p a (group_wraps p a y) (insert (group_wraps p a y) k y)))
        (callee_ext t w n e r ihe u.0 u.2)
        ∙ ap (on_pen (next_indent_less (not t && w)))
        (group_ext k a x iha (subst (λ (z : ℕ). k < z) l u.1) (subst (λ (b : ℕ). Unders b a) l u.3))

    mutual
      unfolding render_node render_nodes callee called grouped indent_more indent_less next_indent_more

      pub render_ext : (n : Node) (w : Bool) (r : Renderer) → Under (length r.marks) n → render_node p n w (ext r) ≡ ext (render_node p n w r)
      render_ext (group n ns) w r u = group_ext n ns r (λ w' r' u'. renders_ext ns w' r' u') u.0 u.1
      render_ext (indent ns) w r u = ap (on_pen (indent_less w)) (renders_ext ns w (on_pen (indent_more w) r) u)
      render_ext (indent_next ns) w r u = ap (on_pen (next_indent_less w)) (renders_ext ns w (on_pen (next_indent_more w) r) u)
      render_ext wrap_parent w r u = refl
      render_ext (comment_node t) w r u = comment_ext (p.bytes t) r
      render_ext (str k t) w r u = text_ext (p.bytes t) k r
      render_ext (ascii t) w r u = text_ext (p.bytes t) (p.columns t) r
      render_ext line w r u = ap (λ (x : Renderer). cond w x (ext r)) (new_line_ext r) ∙ cond_ext w (new_line r) r
      render_ext empty_line w r u = ap new_line (push_ext (0x0A ∷ []) r) ∙ new_line_ext (push_str (0x0A ∷ []) r)
      render_ext line_or_space w r u =
          ap₂ (cond w) (new_line_ext r) (text_ext (0x20 ∷ []) 1 r) ∙ cond_ext w (new_line r) (text (0x20 ∷ []) 1 r)
      render_ext (if_wrap n x y) w r u =
          ap (λ (c : Bool). cond c (render_node p x w (ext r)) (render_node p y w (ext r))) (wrapped_past r.marks past n u.0)
          ∙ ap₂ (cond (wrapped r.marks n)) (render_ext x w r u.1) (render_ext y w r u.2)
          ∙ cond_ext (wrapped r.marks n) (render_node p x w r) (render_node p y w r)
      render_ext (call n e k a) w r u =
          ap (λ (t : Bool). called p t (callee_wraps p t e a (ext r)) n e k a (ext r)) (trailing_ext e a r u.2 u.3)
          ∙ ap (λ (c : Bool). called p (trailing_call p e a r) c n e k a (ext r)) (callee_wraps_ext (trailing_call p e a r) e a r u.2 u.3)
          ∙ call_ext (trailing_call p e a r) (callee_wraps p (trailing_call p e a r) e a r) n e k a r (λ w' r' u'. renders_ext e w' r' u')
          (λ w' r' u'. renders_ext a w' r' u')
          u

      pub renders_ext : (ns : Nodes) (w : Bool) (r : Renderer) → Unders (length r.marks) ns → render_nodes p ns w (ext r) ≡ ext (render_nodes p ns w r)
      renders_ext none w r u = refl
      renders_ext (n then ns) w r u =
          ap (render_nodes p ns w) (render_ext n w r u.0)
          ∙ renders_ext ns w (render_node p n w r) (subst (λ (b : ℕ). Unders b ns) (sym (render_length p n w r)) u.1)
