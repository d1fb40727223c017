-- Rendering reads the marks of the nodes' own numbers alone: with other marks elsewhere it gives the same text, and marks that again differ
-- elsewhere alone. By induction on the nodes; widths look at the marks of `IfWrap`.
-- Assumes nothing.
use mathlib.Core.Path.{◌≡◌, refl, sym, ap, ap₂, subst, subst₂, ◌∙◌}
use Prim.Native.Nat.{ℕ, ◌+◌, ◌<◌}
use native.Mathlib.Omega.{arith}
use native.Mathlib.Decide.{dec_lt}
use mathlib.Core.Bool.{Bool, true, false, cond, not, ◌&&◌, ◌||◌}
use mathlib.Core.List.{List, [], ◌∷◌, ◌++◌}
use lib.ListN.{length, get_or, set, length-set, get_or-eq_default}
use lib.Seq.{get_or-set_same, get_or-set_other}
use lib.Dec.{ltb, eqb}
use borrow.Author.Tests.{eqb-true, eqb-false}
use Rattle.rows.specs.Node.{Text, Node, Nodes, group, indent, indent_next, wrap_parent, comment as comment_node, str, ascii}
use Rattle.rows.specs.Node.{line, empty_line, line_or_space, if_wrap, call, none, ◌then◌, wrapped, width, widths, must_wraps}
use Rattle.renderer_rules.specs.declared.Pen.{Pen}
use Rattle.renderer_rules.specs.Renderer.{Page, Renderer, with_marks, on_pen, push_str, at_column, new_line, margin, comment, text}
use Rattle.renderer_rules.specs.Renderer.{virtual_column, insert, indent_more, indent_less, next_indent_more, next_indent_less, wraps}
use Rattle.renderer_rules.specs.Renderer.{group_wraps, trailing_call, callee_wraps, render_node, render_nodes}
use Rattle.renderer_rules.proofs.Names.{names, names_in, neither}
use Rattle.renderer_rules.proofs.Choices.{grouped, callee, called}

-- what keeps the marks does the same over other marks
cond_marked : (c : Bool) (m : List ℕ) (s t : Renderer) → cond c (with_marks m s) (with_marks m t) ≡ with_marks m (cond c s t)
cond_marked true m s t = refl
cond_marked false m s t = refl

text_marked : (t : List ℕ) (w : ℕ) (m : List ℕ) (s : Renderer) → text t w (with_marks m s) ≡ with_marks m (text t w s)
unfolding text push_str at_column margin
text_marked t w m s = ap (λ (x : Renderer). at_column (x.pen.column.0 + w) (push_str t x)) (cond_marked (ltb 0 s.pen.column.0) m s (margin s))

comment_marked : (t : List ℕ) (m : List ℕ) (s : Renderer) → comment t (with_marks m s) ≡ with_marks m (comment t s)
unfolding comment push_str at_column margin
comment_marked t m s =
    ap (λ (x : Renderer). at_column 0 (push_str (t ++ (0x0A ∷ [])) x)) (cond_marked (ltb 0 s.pen.column.0) m (push_str (0x20 ∷ []) s) (margin s))

line_marked : (m : List ℕ) (s : Renderer) → new_line (with_marks m s) ≡ with_marks m (new_line s)
unfolding new_line
line_marked m s = refl

empty_marked : (m : List ℕ) (s : Renderer) → new_line (push_str (0x0A ∷ []) (with_marks m s)) ≡ with_marks m (new_line (push_str (0x0A ∷ []) s))
unfolding new_line push_str
empty_marked m s = refl

module _ (q : ℕ → Bool) where
  -- as many marks, and the same at the numbers q
  pub record Agree (m n : List ℕ) : Type 0 where
    pub size : length n ≡ length m
    pub at : (x : ℕ) → q x ≡ true → get_or n x 0 ≡ get_or m x 0

  -- t is s but for marks at numbers that are not q
  pub record Alike (s t : Renderer) : Type 0 where
    pub rest : t ≡ with_marks t.marks s
    pub marks : Agree s.marks t.marks

  -- all numbers of nodes are q
  abbrev pub Inside : Nodes → Type 0
  Inside ns = (x : ℕ) → q x ≡ false → names_in x ns ≡ false

  abbrev pub Within : Node → Type 0
  Within n = (x : ℕ) → q x ≡ false → names x n ≡ false

  -- what keeps the marks keeps renderers alike
  keeps : (f : Renderer → Renderer) → ((m : List ℕ) (s : Renderer) → f (with_marks m s) ≡ with_marks m (f s)) → (s t : Renderer)
      → Alike s t → Alike (f s) (f t)
  keeps f k s t a =
      let e : f t ≡ with_marks t.marks (f s) = ap f a.rest ∙ k t.marks s in
      let l : t.marks ≡ (f t).marks = sym (ap (λ (r : Renderer). r.marks) e) in
      let h : s.marks ≡ (f s).marks = sym (ap (λ (r : Renderer). r.marks) (k s.marks s)) in
      record {
        rest = e ∙ ap (λ (m : List ℕ). with_marks m (f s)) l;
        marks = subst₂ (λ (m n : List ℕ). Agree m n) h l a.marks;
      }

  -- and so does what changes the pen
  pub keeps_pen : (f : Pen → Pen) (s t : Renderer) → Alike s t → Alike (on_pen f s) (on_pen f t)
  keeps_pen f s t a = keeps (on_pen f) (λ m r. refl) s t a

  set_agree : (n : ℕ) (m o : List ℕ) → Agree m o → Agree (set m n 1) (set o n 1)
  set_agree n m o a = record { size = length-set o n 1 ∙ a.size ∙ sym (length-set m n 1); at = λ x h. go x h (eqb x n) refl (dec_lt n (length m)) }
    where
      go : (x : ℕ) → q x ≡ true → (b : Bool) → eqb x n ≡ b → Dec (n < length m) → get_or (set o n 1) x 0 ≡ get_or (set m n 1) x 0
      go x h false e d = let f = eqb-false x n e in get_or-set_other o n x 1 0 f ∙ a.at x h ∙ sym (get_or-set_other m n x 1 0 f)
      go x h true e (yes d) =
          let f = eqb-true x n e in
          rw f (get_or-set_same o n 1 0 (omega (arith, a.size)) ∙ sym (get_or-set_same m n 1 0 d))
      go x h true e (no d) =
          let f = eqb-true x n e in
          let z = a.size in
          get_or-eq_default (set o n 1) 0 (let y = length-set o n 1 in omega arith)
          ∙ sym (get_or-eq_default (set m n 1) 0 (let y = length-set m n 1 in omega arith))

  pub insert_alike : (w : Bool) (n : ℕ) (s t : Renderer) → Alike s t → Alike (insert w n s) (insert w n t)
  unfolding insert
  insert_alike true n s t a =
      record { rest = ap (λ (r : Renderer). with_marks (set t.marks n 1) r) a.rest; marks = set_agree n s.marks t.marks a.marks }
  insert_alike false n s t a = record { rest = ap (λ (r : Renderer). with_marks t.marks r) a.rest; marks = a.marks }

  pub cond_alike : (c : Bool) (s t u v : Renderer) → Alike s u → Alike t v → Alike (cond c s t) (cond c u v)
  cond_alike true s t u v a b = a
  cond_alike false s t u v a b = b

  -- a number of its own
  own : (n : ℕ) (m o : List ℕ) → Agree m o → (b : Bool) → q n ≡ b → (q n ≡ false → eqb n n ≡ false) → get_or o n 0 ≡ get_or m n 0
  own n m o a true e h = a.at n e
  own n m o a false e h = absurd (eqb-false n n (h e) refl)

  pub wrapped_same : (n : ℕ) (m o : List ℕ) → Agree m o → (q n ≡ false → eqb n n ≡ false) → wrapped o n ≡ wrapped m n
  wrapped_same n m o a h = ap (λ (x : ℕ). eqb x 1) (own n m o a (q n) refl h)

  module _ (columns : Text → ℕ) (m o : List ℕ) (a : Agree m o) where
    mutual
      unfolding width widths names

      width_same : (n : Node) → Within n → width columns o n ≡ width columns m n
      width_same (group n ns) i = widths_same ns (λ x h. (neither (eqb x n) (names_in x ns) (i x h)).1)
      width_same (indent ns) i = widths_same ns i
      width_same (indent_next ns) i = widths_same ns i
      width_same wrap_parent i = refl
      width_same (comment_node t) i = refl
      width_same (str w t) i = refl
      width_same (ascii t) i = refl
      width_same line i = refl
      width_same empty_line i = refl
      width_same line_or_space i = refl
      width_same (if_wrap n b c) i =
          ap (λ (z : Bool). cond z (width columns o b) (width columns o c))
          (wrapped_same n m o a (λ h. (neither (eqb n n) (names n b || names n c) (i n h)).0))
          ∙ ap₂ (cond (wrapped m n))
          (width_same b (λ x h. (neither (names x b) (names x c) (neither (eqb x n) (names x b || names x c) (i x h)).1).0))
          (width_same c (λ x h. (neither (names x b) (names x c) (neither (eqb x n) (names x b || names x c) (i x h)).1).1))
      width_same (call n e k b) i =
          ap₂ ◌+◌
          (widths_same e (λ x h. (neither (names_in x e) (names_in x b) (neither (eqb x n || eqb x k) (names_in x e || names_in x b) (i x h)).1).0))
          (widths_same b (λ x h. (neither (names_in x e) (names_in x b) (neither (eqb x n || eqb x k) (names_in x e || names_in x b) (i x h)).1).1))

      widths_same : (ns : Nodes) → Inside ns → widths columns o ns ≡ widths columns m ns
      widths_same none i = refl
      widths_same (n then ns) i =
          ap₂ ◌+◌ (width_same n (λ x h. (neither (names x n) (names_in x ns) (i x h)).0))
          (widths_same ns (λ x h. (neither (names x n) (names_in x ns) (i x h)).1))

  module _ (p : Page) where
    -- what is decided is the same
    virtual_same : (s t : Renderer) → Alike s t → virtual_column t.pen ≡ virtual_column s.pen
    unfolding virtual_column
    virtual_same s t a = ap (λ (r : Renderer). virtual_column r.pen) a.rest

    wide_same : (ns : Nodes) (s t : Renderer) → Inside ns → Alike s t → widths p.columns t.marks ns ≡ widths p.columns s.marks ns
    wide_same ns s t i a = widths_same p.columns s.marks t.marks a.marks ns i

    wraps_same : (must : Bool) (w v : ℕ) (s t : Renderer) → w ≡ v → Alike s t → wraps p must w t ≡ wraps p must v s
    unfolding wraps
    wraps_same must w v s t e a = ap₂ (λ (c x : ℕ). must || ltb p.max (c + x)) (virtual_same s t a) e

    pub group_same : (ns : Nodes) (s t : Renderer) → Inside ns → Alike s t → group_wraps p ns t ≡ group_wraps p ns s
    unfolding group_wraps
    group_same ns s t i a = wraps_same (must_wraps ns) _ _ s t (wide_same ns s t i a) a

    pub trailing_same : (e b : Nodes) (s t : Renderer) → Inside e → Inside b → Alike s t → trailing_call p e b t ≡ trailing_call p e b s
    unfolding trailing_call
    trailing_same e b s t i j a =
        rw (virtual_same s t a, wide_same e s t i a, wide_same b s t j a)

    pub callee_same : (c : Bool) (e b : Nodes) (s t : Renderer) → Inside e → Inside b → Alike s t → callee_wraps p c e b t ≡ callee_wraps p c e b s
    unfolding callee_wraps
    callee_same c e b s t i j a =
        ap₂ (λ (x y : Bool). cond c x y) (group_same e s t i a)
        (wraps_same false _ _ s t (ap₂ ◌+◌ (wide_same e s t i a) (wide_same b s t j a)) a)

    abbrev Ih : Nodes → Type 0
    Ih ns = (w : Bool) (s t : Renderer) → Alike s t → Alike (render_nodes p ns w s) (render_nodes p ns w t)

    grouped_alike : (n : ℕ) (ns : Nodes) (s t : Renderer) → Inside ns → Ih ns → Alike s t → Alike (grouped p n ns s) (grouped p n ns t)
    unfolding grouped
    grouped_alike n ns s t i ih a =
        let w = group_wraps p ns s in
        subst (λ (c : Bool). Alike (render_nodes p ns w (insert w n s)) (render_nodes p ns c (insert c n t))) (sym (group_same ns s t i a))
        (ih w (insert w n s) (insert w n t) (insert_alike w n s t a))

    called_alike : (c w : Bool) (n : ℕ) (e : Nodes) (k : ℕ) (b : Nodes) (s t : Renderer) → Inside b → Ih e → Ih b → Alike s t
        → Alike (called p c w n e k b s) (called p c w n e k b t)
    unfolding called callee
    called_alike c w n e k b s t j ihe ihb a =
        let d = not c && w in
        keeps_pen (next_indent_less d) _ _
        (grouped_alike k b _ _ j ihb
        (ihe w _ _ (keeps_pen (next_indent_more d) _ _ (insert_alike w n s t a))))

    mutual
      unfolding render_node names called callee grouped

      pub render_alike : (n : Node) (w : Bool) (s t : Renderer) → Within n → Alike s t → Alike (render_node p n w s) (render_node p n w t)
      render_alike (group n ns) w s t i a =
          let j : Inside ns = λ x h. (neither (eqb x n) (names_in x ns) (i x h)).1 in
          grouped_alike n ns s t j (λ w' s' t' a'. renders_alike ns w' s' t' j a') a
      render_alike (indent ns) w s t i a =
          keeps_pen (indent_less w) _ _ (renders_alike ns w _ _ i (keeps_pen (indent_more w) s t a))
      render_alike (indent_next ns) w s t i a =
          keeps_pen (next_indent_less w) _ _ (renders_alike ns w _ _ i (keeps_pen (next_indent_more w) s t a))
      render_alike wrap_parent w s t i a = a
      render_alike (comment_node x) w s t i a = keeps (comment (p.bytes x)) (comment_marked (p.bytes x)) s t a
      render_alike (str k x) w s t i a = keeps (text (p.bytes x) k) (text_marked (p.bytes x) k) s t a
      render_alike (ascii x) w s t i a = keeps (text (p.bytes x) (p.columns x)) (text_marked (p.bytes x) (p.columns x)) s t a
      render_alike line w s t i a = cond_alike w (new_line s) s (new_line t) t (keeps new_line line_marked s t a) a
      render_alike empty_line w s t i a = keeps (λ (r : Renderer). new_line (push_str (0x0A ∷ []) r)) empty_marked s t a
      render_alike line_or_space w s t i a =
          cond_alike w (new_line s) _ (new_line t) _ (keeps new_line line_marked s t a) (keeps (text (0x20 ∷ []) 1) (text_marked (0x20 ∷ []) 1) s t a)
      render_alike (if_wrap n b c) w s t i a =
          let f : (x : ℕ) → q x ≡ false → (names x b ≡ false) × (names x c ≡ false) =
          λ x h. neither (names x b) (names x c) (neither (eqb x n) (names x b || names x c) (i x h)).1
          in
          subst (λ (z : Bool). Alike (cond (wrapped s.marks n) (render_node p b w s) (render_node p c w s))
          (cond z (render_node p b w t) (render_node p c w t)))
          (sym (wrapped_same n s.marks t.marks a.marks (λ h. (neither (eqb n n) (names n b || names n c) (i n h)).0)))
          (cond_alike (wrapped s.marks n) _ _ _ _ (render_alike b w s t (λ x h. (f x h).0) a) (render_alike c w s t (λ x h. (f x h).1) a))
      render_alike (call n e k b) w s t i a =
          let f : (x : ℕ) → q x ≡ false → (names_in x e ≡ false) × (names_in x b ≡ false) =
          λ x h. neither (names_in x e) (names_in x b) (neither (eqb x n || eqb x k) (names_in x e || names_in x b) (i x h)).1
          in
          let u : Inside e = λ x h. (f x h).0 in
          let v : Inside b = λ x h. (f x h).1 in
          let c = trailing_call p e b s in
          let o = callee_wraps p c e b s in
          let one : trailing_call p e b t ≡ c = trailing_same e b s t u v a in
          let two : callee_wraps p (trailing_call p e b t) e b t ≡ o = ap (λ (z : Bool). callee_wraps p z e b t) one ∙ callee_same c e b s t u v a in
          subst₂ (λ (y z : Bool). Alike (called p c o n e k b s) (called p y z n e k b t)) (sym one) (sym two)
          (called_alike c o n e k b s t v (λ w' s' t' a'. renders_alike e w' s' t' u a') (λ w' s' t' a'. renders_alike b w' s' t' v a') a)

      pub renders_alike : (ns : Nodes) (w : Bool) (s t : Renderer) → Inside ns → Alike s t → Alike (render_nodes p ns w s) (render_nodes p ns w t)
      renders_alike none w s t i a = a
      renders_alike (n then ns) w s t i a =
          let f : (x : ℕ) → q x ≡ false → (names x n ≡ false) × (names_in x ns ≡ false) = λ x h. neither (names x n) (names_in x ns) (i x h) in
          renders_alike ns w (render_node p n w s) (render_node p n w t) (λ x h. (f x h).1) (render_alike n w s t (λ x h. (f x h).0) a)
