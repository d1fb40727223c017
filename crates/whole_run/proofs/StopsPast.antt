-- The rows entered, with text ahead and more marks behind, are the same rows, each with that text ahead and those marks behind. By induction on the
-- nodes, from the same law of rendering (Past.antt). And each has as many marks as there were.
-- Assumes nothing.
use mathlib.Core.Path.{◌≡◌, refl, sym, ap, ap₂, subst, ◌∙◌}
use mathlib.Core.Bool.{Bool, true, false, cond, not, ◌&&◌}
use mathlib.Core.List.{List, ◌∷◌, ◌++◌, map}
use Prim.Native.Nat.{ℕ, suc, ◌<◌}
use Rattle.std.proofs.lemmas.List.{map-append}
use lib.ListN.{length}
use Rattle.rows.specs.Node.{Node, Nodes, group, indent, indent_next, wrap_parent, comment as comment_node, str, ascii}
use Rattle.rows.specs.Node.{line, empty_line, line_or_space, if_wrap, call, none, ◌then◌, wrapped}
use Rattle.rows.specs.View.{View}
use Rattle.renderer_rules.specs.Renderer.{Page, Renderer, on_pen, insert, indent_more, next_indent_more, group_wraps, trailing_call, callee_wraps}
use Rattle.renderer_rules.specs.Renderer.{render_node, render_nodes}
use Rattle.renderer_rules.specs.Stops.{OpenRow, trailing, way_of, open_at, Stop, stop_at, inside, within, entered}
use Rattle.whole_run.proofs.Past.{Under, Unders, insert_length, render_length, renders_length, wrapped_past}
use Rattle.whole_run.proofs.Past.{ext, insert_ext, group_wraps_ext, trailing_ext, callee_wraps_ext, render_ext, renders_ext}

-- nodes under the marks of one renderer are under those of another with as many
under_same : (ns : Nodes) (m n : ℕ) → n ≡ m → Unders m ns → Unders n ns
under_same ns m n e u = subst (λ (b : ℕ). Unders b ns) (sym e) u

module _ (ahead past : List ℕ) (before : ℕ) (v : View) (p : Page) where
  abbrev pub longer : Renderer → Renderer
  longer r = ext ahead past before r

  abbrev pub stop_longer : Stop → Stop
  stop_longer e = record { next = e.next; listed = e.listed; state = longer e.state }

  abbrev all : List Stop → List Stop
  all l = map stop_longer l

  abbrev Ih : Nodes → Type 0
  Ih ns = (i : ℕ) (es : List OpenRow) (w : Bool) (r : Renderer) → Unders (length r.marks) ns
      → entered v p ns i es w (longer r) ≡ all (entered v p ns i es w r)

  cond_all : (c : Bool) (x y : List Stop) → cond c (all x) (all y) ≡ all (cond c x y)
  cond_all true x y = refl
  cond_all false x y = refl

  -- nodes as a group: the rows entered in it, by whether it wraps
  pub group_rows : (n : ℕ) (ns : Nodes) (i : ℕ) (es : Bool → List OpenRow) (r : Renderer) → Ih ns → n < length r.marks → Unders (length r.marks) ns
      → entered v p ns i (es (group_wraps p ns (longer r))) (group_wraps p ns (longer r)) (insert (group_wraps p ns (longer r)) n (longer r))
      ≡ all (entered v p ns i (es (group_wraps p ns r)) (group_wraps p ns r) (insert (group_wraps p ns r) n r))
  group_rows n ns i es r ih h u =
      let b = group_wraps p ns r in
      ap (λ (c : Bool). entered v p ns i (es c) c (insert c n (longer r))) (group_wraps_ext ahead past before p ns r u)
      ∙ ap (entered v p ns i (es b) b) (insert_ext ahead past before b n r h)
      ∙ ih i (es b) b (insert b n r) (under_same ns _ _ (insert_length b n r) u)

  -- the rows entered in a `Call`, by its branch and whether its callee wraps
  abbrev inner_of : Nodes → Nodes → Bool → Bool → ℕ → Renderer → Renderer
  inner_of e a trails outer n r = render_nodes p e outer (on_pen (next_indent_more (not trails && outer)) (insert outer n r))

  abbrev call_rows : Bool → Bool → ℕ → Nodes → ℕ → Nodes → ℕ → List OpenRow → Renderer → List Stop
  call_rows trails outer n e k a i es r =
      let deeper = not trails && outer in
      let way = way_of (not trails) deeper in
      let t = inner_of e a trails outer n r in
      let inner = group_wraps p a t in
      entered v p e (suc i) (inside es (open_at i outer way)) outer (on_pen (next_indent_more deeper) (insert outer n r))
      ++ entered v p a (v.second i) (inside es (open_at i inner way)) inner (insert inner k t)

  call_same : (trails outer : Bool) (n : ℕ) (e : Nodes) (k : ℕ) (a : Nodes) (i : ℕ) (es : List OpenRow) (r : Renderer) → Ih e → Ih a
      → Under (length r.marks) (call n e k a)
      → call_rows trails outer n e k a i es (longer r) ≡ all (call_rows trails outer n e k a i es r)
  unfolding next_indent_more
  call_same trails outer n e k a i es r ihe iha u =
      let deeper = not trails && outer in
      let way = way_of (not trails) deeper in
      let s : Renderer = on_pen (next_indent_more deeper) (insert outer n r) in
      let t : Renderer = render_nodes p e outer s in
      let ue : Unders (length s.marks) e = under_same e _ _ (insert_length outer n r) u.2 in
      let l : length t.marks ≡ length r.marks = renders_length p e outer s ∙ insert_length outer n r in
      let x : on_pen (next_indent_more deeper) (insert outer n (longer r)) ≡ longer s =
      ap (λ (y : Renderer). on_pen (next_indent_more deeper) y) (insert_ext ahead past before outer n r u.0) in
      let y : render_nodes p e outer (on_pen (next_indent_more deeper) (insert outer n (longer r))) ≡ longer t =
      ap (render_nodes p e outer) x ∙ renders_ext ahead past before p e outer s ue in
      ap₂ {A = List Stop} {B = List Stop} ◌++◌
      (ap (entered v p e (suc i) (inside es (open_at i outer way)) outer) x ∙ ihe (suc i) (inside es (open_at i outer way)) outer s ue)
      (ap
      (λ (z : Renderer).
      entered v p a (v.second i) (inside es (open_at i (group_wraps p a z) way)) (group_wraps p a z) (insert (group_wraps p a z) k z))
      y
      ∙ group_rows k a (v.second i) (λ c. inside es (open_at i c way)) t iha (subst (λ (m : ℕ). k < m) (sym l) u.1) (under_same a _ _ l u.3))
      ∙ sym (map-append stop_longer (entered v p e (suc i) (inside es (open_at i outer way)) outer s) _)

  mutual
    unfolding within entered indent_more next_indent_more

    within_longer : (n : Node) (i : ℕ) (es : List OpenRow) (w : Bool) (r : Renderer) → Under (length r.marks) n
        → within v p n i es w (longer r) ≡ all (within v p n i es w r)
    within_longer (group n ns) i es w r u =
        group_rows n ns (suc i) (λ c. inside es (open_at i c trailing)) r (λ j fs w' r' u'. entered_longer ns j fs w' r' u') u.0 u.1
    within_longer (indent ns) i es w r u = entered_longer ns (suc i) (inside es (open_at i w trailing)) w (on_pen (indent_more w) r) u
    within_longer (indent_next ns) i es w r u = entered_longer ns (suc i) (inside es (open_at i w trailing)) w (on_pen (next_indent_more w) r) u
    within_longer wrap_parent i es w r u = refl
    within_longer (comment_node t) i es w r u = refl
    within_longer (str k t) i es w r u = refl
    within_longer (ascii t) i es w r u = refl
    within_longer line i es w r u = refl
    within_longer empty_line i es w r u = refl
    within_longer line_or_space i es w r u = refl
    within_longer (if_wrap n x y) i es w r u =
        let fs = inside es (open_at i w trailing) in
        let gs = inside es (open_at i w trailing) in
        let j = v.second i in
        ap
        (λ (c : Bool).
        cond c (stop_at (suc i) fs (longer r) ∷ within v p x (suc i) fs w (longer r)) (stop_at j gs (longer r) ∷ within v p y j gs w (longer r)))
        (wrapped_past r.marks past n u.0)
        ∙ ap₂ (λ (a b : List Stop). cond (wrapped r.marks n) (stop_at (suc i) fs (longer r) ∷ a) (stop_at j gs (longer r) ∷ b))
        (within_longer x (suc i) fs w r u.1)
        (within_longer y j gs w r u.2)
        ∙ cond_all (wrapped r.marks n) (stop_at (suc i) fs r ∷ within v p x (suc i) fs w r) (stop_at j gs r ∷ within v p y j gs w r)
    within_longer (call n e k a) i es w r u =
        let t = trailing_call p e a r in
        ap (λ (c : Bool). call_rows c (callee_wraps p c e a (longer r)) n e k a i es (longer r)) (trailing_ext ahead past before p e a r u.2 u.3)
        ∙ ap (λ (c : Bool). call_rows t c n e k a i es (longer r)) (callee_wraps_ext ahead past before p t e a r u.2 u.3)
        ∙ call_same t (callee_wraps p t e a r) n e k a i es r (λ j fs w' r' u'. entered_longer e j fs w' r' u')
        (λ j fs w' r' u'. entered_longer a j fs w' r' u')
        u

    pub entered_longer : (ns : Nodes) (i : ℕ) (es : List OpenRow) (w : Bool) (r : Renderer) → Unders (length r.marks) ns
        → entered v p ns i es w (longer r) ≡ all (entered v p ns i es w r)
    entered_longer none i es w r u = refl
    entered_longer (n then ns) i es w r u =
        let t = render_node p n w r in
        ap (λ (l : List Stop). stop_at i es (longer r) ∷ l)
        (ap₂ {A = List Stop} {B = List Stop} ◌++◌ (within_longer n i es w r u.0)
        (ap (entered v p ns (v.after i) es w) (render_ext ahead past before p n w r u.0)
        ∙ entered_longer ns (v.after i) es w t (under_same ns _ _ (render_length p n w r) u.1))
        ∙ sym (map-append stop_longer (within v p n i es w r) (entered v p ns (v.after i) es w t)))
