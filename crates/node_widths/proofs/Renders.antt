-- Rendering with texts measured by a rule is rendering nodes in which they are measured already.
-- Assumes nothing.
use mathlib.Core.Path.{◌≡◌, refl, ap, ap₂, ◌∙◌}
use Prim.Native.Nat.{ℕ, ◌+◌}
use mathlib.Core.Bool.{Bool, cond, not, ◌&&◌, ◌||◌}
use mathlib.Core.List.{List}
use lib.Dec.{ltb}
use Rattle.rows.specs.Node.{Text, Node, Nodes, group, indent, indent_next, wrap_parent, comment, str, ascii, line, empty_line, line_or_space, if_wrap, call}
use Rattle.rows.specs.Node.{none, ◌then◌, must_wrap, must_wraps, width, widths, wrapped}
use Rattle.renderer_rules.specs.Renderer.{Page, Renderer, on_pen, indent_less, indent_more, next_indent_less, next_indent_more, insert, virtual_column, wraps}
use Rattle.renderer_rules.specs.Renderer.{group_wraps, trailing_call, callee_wraps, render_node, render_nodes}
use Rattle.node_widths.specs.Measured.{measured, measured_all, page_by, MeasuredRenders}

module _ (f g : Text → ℕ) (marks : List ℕ) where
  mutual
    unfolding measured width

    width_same : (n : Node) → width f marks n ≡ width g marks (measured f n)
    width_same (group n ns) = widths_same ns
    width_same (indent ns) = widths_same ns
    width_same (indent_next ns) = widths_same ns
    width_same wrap_parent = refl
    width_same (comment t) = refl
    width_same (str w t) = refl
    width_same (ascii t) = refl
    width_same line = refl
    width_same empty_line = refl
    width_same line_or_space = refl
    width_same (if_wrap n a b) = ap₂ (λ (x y : ℕ). cond (wrapped marks n) x y) (width_same a) (width_same b)
    width_same (call n e k a) = ap₂ ◌+◌ (widths_same e) (widths_same a)

    widths_same : (ns : Nodes) → widths f marks ns ≡ widths g marks (measured_all f ns)
    widths_same none = refl
    widths_same (n then ns) = ap₂ ◌+◌ (width_same n) (widths_same ns)

module _ (f : Text → ℕ) where
  mutual
    unfolding measured must_wrap

    must_same : (n : Node) → must_wrap n ≡ must_wrap (measured f n)
    must_same (group n ns) = refl
    must_same (indent ns) = musts_same ns
    must_same (indent_next ns) = refl
    must_same wrap_parent = refl
    must_same (comment t) = refl
    must_same (str w t) = refl
    must_same (ascii t) = refl
    must_same line = refl
    must_same empty_line = refl
    must_same line_or_space = refl
    must_same (if_wrap n a b) = refl
    must_same (call n e k a) = refl

    musts_same : (ns : Nodes) → must_wraps ns ≡ must_wraps (measured_all f ns)
    musts_same none = refl
    musts_same (n then ns) = ap₂ ◌||◌ (must_same n) (musts_same ns)

module _ (max : ℕ) (f g : Text → ℕ) (bytes : Text → List ℕ) where
  abbrev pub p : Page
  p = page_by max f bytes

  abbrev pub q : Page
  q = page_by max g bytes

  pub group_same : (ns : Nodes) (r : Renderer) → group_wraps p ns r ≡ group_wraps q (measured_all f ns) r
  unfolding group_wraps wraps
  group_same ns r =
      ap₂ (λ (m : Bool) (w : ℕ). m || ltb max (virtual_column r.pen + w)) (musts_same f ns) (widths_same f g r.marks ns)

  pub trailing_same : (e a : Nodes) (r : Renderer) → trailing_call p e a r ≡ trailing_call q (measured_all f e) (measured_all f a) r
  unfolding trailing_call
  trailing_same e a r = rw (musts_same f e, musts_same f a, widths_same f g r.marks e, widths_same f g r.marks a)

  pub callee_same : (t : Bool) (e a : Nodes) (r : Renderer) → callee_wraps p t e a r ≡ callee_wraps q t (measured_all f e) (measured_all f a) r
  unfolding callee_wraps wraps
  callee_same t e a r = rw (group_same e r, widths_same f g r.marks e, widths_same f g r.marks a)

  -- what a `Call` does, by the two decisions and the two renderings
  abbrev called : (Bool → Renderer → Renderer) → (Renderer → Bool) → (Bool → Renderer → Renderer) → ℕ → ℕ → Bool → Bool → Renderer → Renderer
  called callee inner args n k trails outer r =
      let deeper = not trails && outer in
      let s = callee outer (on_pen (next_indent_more deeper) (insert outer n r)) in
      on_pen (next_indent_less deeper) (args (inner s) (insert (inner s) k s))

  mutual
    unfolding measured render_node

    pub node_same : (n : Node) (w : Bool) (r : Renderer) → render_node p n w r ≡ render_node q (measured f n) w r
    node_same (group n ns) w r =
        nodes_same ns (group_wraps p ns r) (insert (group_wraps p ns r) n r)
        ∙ ap (λ (t : Bool). render_nodes q (measured_all f ns) t (insert t n r)) (group_same ns r)
    node_same (indent ns) w r = ap (on_pen (indent_less w)) (nodes_same ns w (on_pen (indent_more w) r))
    node_same (indent_next ns) w r = ap (on_pen (next_indent_less w)) (nodes_same ns w (on_pen (next_indent_more w) r))
    node_same wrap_parent w r = refl
    node_same (comment t) w r = refl
    node_same (str k t) w r = refl
    node_same (ascii t) w r = refl
    node_same line w r = refl
    node_same empty_line w r = refl
    node_same line_or_space w r = refl
    node_same (if_wrap n a b) w r = ap₂ (λ (x y : Renderer). cond (wrapped r.marks n) x y) (node_same a w r) (node_same b w r)
    node_same (call n e k a) w r =
        let trails = trailing_call p e a r in
        let outer = callee_wraps p trails e a r in
        let deeper = not trails && outer in
        let entered = on_pen (next_indent_more deeper) (insert outer n r) in
        let s = render_nodes p e outer entered in
        let callee = render_nodes q (measured_all f e) in
        let args = render_nodes q (measured_all f a) in
        let inner = group_wraps q (measured_all f a) in
        let back = on_pen (next_indent_less deeper) in
        ap back (nodes_same a (group_wraps p a s) (insert (group_wraps p a s) k s))
        ∙ ap (λ (t : Bool). back (args t (insert t k s))) (group_same a s)
        ∙ ap (λ (z : Renderer). back (args (inner z) (insert (inner z) k z))) (nodes_same e outer entered)
        ∙ ap (λ (o : Bool). called callee inner args n k trails o r) (callee_same trails e a r)
        ∙ ap (λ (t : Bool). called callee inner args n k t (callee_wraps q t (measured_all f e) (measured_all f a) r) r) (trailing_same e a r)

    pub nodes_same : (ns : Nodes) (w : Bool) (r : Renderer) → render_nodes p ns w r ≡ render_nodes q (measured_all f ns) w r
    nodes_same none w r = refl
    nodes_same (n then ns) w r = nodes_same ns w (render_node p n w r) ∙ ap (render_nodes q (measured_all f ns) w) (node_same n w r)

pub measured_renders : MeasuredRenders
measured_renders max f g bytes ns wrap r = nodes_same max f g bytes ns wrap r
