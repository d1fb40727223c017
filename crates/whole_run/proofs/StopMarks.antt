-- Each row entered, and what is rendered in the end, has as many marks as there were, wherever the rendering goes on from.
-- Assumes nothing.
use mathlib.Core.Path.{◌≡◌, refl, ◌∙◌}
use mathlib.Core.Bool.{Bool, true, false, cond, not, ◌&&◌}
use mathlib.Core.List.{List, [], ◌∷◌, ◌++◌}
use Prim.Native.Nat.{ℕ, zero, suc}
use lib.Dec.{eqb}
use lib.ListN.{length}
use Rattle.rows.specs.Kinds.{CALL}
use Rattle.rows.specs.Node.{Node, Nodes, group, indent, indent_next, wrap_parent, comment as comment_node, str, ascii}
use Rattle.rows.specs.Node.{line, empty_line, line_or_space, if_wrap, call, none, ◌then◌, wrapped}
use Rattle.rows.specs.View.{View, nodes_at}
use Rattle.renderer_rules.specs.declared.Frame.{Frame}
use Rattle.renderer_rules.specs.Frames.{frame_at, part_limit, wrap_at}
use Rattle.renderer_rules.specs.Machine.{closing}
use Rattle.renderer_rules.specs.Renderer.{Page, Renderer, on_pen, insert, indent_more, next_indent_more, indent_less, next_indent_less}
use Rattle.renderer_rules.specs.Renderer.{group_wraps, trailing_call, callee_wraps, render_node, render_nodes}
use Rattle.renderer_rules.specs.Stops.{OpenRow, Stop, stop_at, listed_rows, within, entered, arguments, behind, ahead, rest, meaning}
use Rattle.renderer_rules.specs.Drift.{AllStops}
use Rattle.whole_run.proofs.Past.{insert_length, render_length, renders_length}

-- as many marks as m
pub record Keeps (m : ℕ) (e : Stop) : Type 0 where
  pub marks : length e.state.marks ≡ m

abbrev AllKeep : ℕ → List Stop → Type 0
AllKeep m l = AllStops (Keeps m) l

keep_none : (m : ℕ) → AllKeep m []
unfolding AllStops
keep_none m = tt

keep_first : (m i : ℕ) (es : List OpenRow) (r : Renderer) (l : List Stop) → length r.marks ≡ m → AllKeep m l → AllKeep m (stop_at i es r ∷ l)
unfolding AllStops
keep_first m i es r l h a = (record { marks = h }, a)

keep_on : (m : ℕ) (k l : List Stop) → AllKeep m k → AllKeep m l → AllKeep m (k ++ l)
unfolding AllStops
keep_on m [] l a b = b
keep_on m (e ∷ k) l a b = (a.0, keep_on m k l a.1 b)

keep_by : (m : ℕ) (c : Bool) (k l : List Stop) → AllKeep m k → AllKeep m l → AllKeep m (cond c k l)
keep_by m true k l a b = a
keep_by m false k l a b = b

module _ (v : View) (p : Page) (m : ℕ) where
  mutual
    unfolding within entered indent_more next_indent_more

    within_keeps : (n : Node) (i : ℕ) (es : List OpenRow) (w : Bool) (r : Renderer) → length r.marks ≡ m → AllKeep m (within v p n i es w r)
    within_keeps (group n ns) i es w r h = entered_keeps ns (suc i) _ _ _ (insert_length (group_wraps p ns r) n r ∙ h)
    within_keeps (indent ns) i es w r h = entered_keeps ns (suc i) _ w _ h
    within_keeps (indent_next ns) i es w r h = entered_keeps ns (suc i) _ w _ h
    within_keeps wrap_parent i es w r h = keep_none m
    within_keeps (comment_node t) i es w r h = keep_none m
    within_keeps (str k t) i es w r h = keep_none m
    within_keeps (ascii t) i es w r h = keep_none m
    within_keeps line i es w r h = keep_none m
    within_keeps empty_line i es w r h = keep_none m
    within_keeps line_or_space i es w r h = keep_none m
    within_keeps (if_wrap n a b) i es w r h =
        keep_by m (wrapped r.marks n) _ _
        (keep_first m (suc i) _ r _ h (within_keeps a (suc i) _ w r h))
        (keep_first m (v.second i) _ r _ h (within_keeps b (v.second i) _ w r h))
    within_keeps (call n e k a) i es w r h =
        let trails = trailing_call p e a r in
        let outer = callee_wraps p trails e a r in
        let s : Renderer = on_pen (next_indent_more (not trails && outer)) (insert outer n r) in
        let t = render_nodes p e outer s in
        let x : length s.marks ≡ m = insert_length outer n r ∙ h in
        keep_on m _ _ (entered_keeps e (suc i) _ outer s x)
        (entered_keeps a (v.second i) _ _ _ (insert_length (group_wraps p a t) k t ∙ renders_length p e outer s ∙ x))

    pub entered_keeps : (ns : Nodes) (i : ℕ) (es : List OpenRow) (w : Bool) (r : Renderer) → length r.marks ≡ m → AllKeep m (entered v p ns i es w r)
    entered_keeps none i es w r h = keep_none m
    entered_keeps (n then ns) i es w r h =
        keep_first m i es r _ h
        (keep_on m _ _ (within_keeps n i es w r h)
        (entered_keeps ns (v.after i) es w (render_node p n w r) (render_length p n w r ∙ h)))

  -- ---- going on from open rows
  by_length : (c : Bool) (x y : Renderer) → length x.marks ≡ m → length y.marks ≡ m → length (cond c x y).marks ≡ m
  by_length true x y a b = a
  by_length false x y a b = b

  pub closing_length : (f : Frame) (s : Renderer) (k : ℕ) → v.kind f.row ≡ k → length s.marks ≡ m → length (closing v p f s).marks ≡ m
  unfolding closing indent_less next_indent_less
  closing_length f s zero e h = rw e h
  closing_length f s (suc zero) e h = rw e h
  closing_length f s (suc (suc zero)) e h = rw e h
  closing_length f s (suc (suc (suc zero))) e h = rw e h
  closing_length f s (suc (suc (suc (suc zero)))) e h = rw e h
  closing_length f s (suc (suc (suc (suc (suc zero))))) e h = rw e h
  closing_length f s (suc (suc (suc (suc (suc (suc zero)))))) e h = rw e h
  closing_length f s (suc (suc (suc (suc (suc (suc (suc zero))))))) e h = rw e h
  closing_length f s (suc (suc (suc (suc (suc (suc (suc (suc zero)))))))) e h = rw e h
  closing_length f s (suc (suc (suc (suc (suc (suc (suc (suc (suc zero))))))))) e h = rw e h
  closing_length f s (suc (suc (suc (suc (suc (suc (suc (suc (suc (suc zero)))))))))) e h = rw e h
  closing_length f s (suc (suc (suc (suc (suc (suc (suc (suc (suc (suc (suc zero))))))))))) e h =
      let a : Node = group (v.number2 f.row) (nodes_at v (v.second f.row) (v.after f.row)) in
      rw e (by_length f.first (render_node p a true s) s (render_length p a true s ∙ h) h)
  closing_length f s (suc (suc (suc (suc (suc (suc (suc (suc (suc (suc (suc (suc k)))))))))))) e h = rw e h

  arguments_keep : (es : List OpenRow) (f : Frame) (s : Renderer) → length s.marks ≡ m → AllKeep m (arguments v p es f s)
  unfolding arguments
  arguments_keep es f s h =
      keep_by m (eqb (v.kind f.row) CALL && f.first) _ _
      (entered_keeps (nodes_at v (v.second f.row) (v.after f.row)) (v.second f.row) _ _ _ (insert_length _ (v.number2 f.row) s ∙ h))
      (keep_none m)

  module _ (stop : ℕ) where
    behind_keeps : (fs : List Frame) (d : ℕ) (s : Renderer) → length s.marks ≡ m → AllKeep m (behind v p stop fs d s)
    unfolding behind
    behind_keeps fs zero s h = keep_none m
    behind_keeps fs (suc d) s h =
        let f = frame_at fs d in
        let t = closing v p f s in
        let x = closing_length f s (v.kind f.row) refl h in
        let ns = nodes_at v (v.after f.row) (part_limit v stop fs d) in
        keep_on m _ _ (arguments_keep (listed_rows fs d) f s h)
        (keep_on m _ _ (entered_keeps ns (v.after f.row) (listed_rows fs d) (wrap_at fs d) t x)
        (behind_keeps fs d (render_nodes p ns (wrap_at fs d) t) (renders_length p ns (wrap_at fs d) t ∙ x)))

    pub ahead_keeps : (fs : List Frame) (d i : ℕ) (s : Renderer) → length s.marks ≡ m → AllKeep m (ahead v p stop fs d i s)
    unfolding ahead
    ahead_keeps fs d i s h =
        let ns = nodes_at v i (part_limit v stop fs d) in
        keep_on m _ _ (entered_keeps ns i (listed_rows fs d) (wrap_at fs d) s h)
        (behind_keeps fs d (render_nodes p ns (wrap_at fs d) s) (renders_length p ns (wrap_at fs d) s ∙ h))

    rest_length : (fs : List Frame) (d : ℕ) (s : Renderer) → length s.marks ≡ m → length (rest v p stop fs d s).marks ≡ m
    unfolding rest
    rest_length fs zero s h = h
    rest_length fs (suc d) s h =
        let f = frame_at fs d in
        let ns = nodes_at v (v.after f.row) (part_limit v stop fs d) in
        rest_length fs d (render_nodes p ns (wrap_at fs d) (closing v p f s))
        (renders_length p ns (wrap_at fs d) (closing v p f s) ∙ closing_length f s (v.kind f.row) refl h)

    pub meaning_length : (fs : List Frame) (d i : ℕ) (s : Renderer) → length s.marks ≡ m → length (meaning v p stop fs d i s).marks ≡ m
    unfolding meaning
    meaning_length fs d i s h =
        let ns = nodes_at v i (part_limit v stop fs d) in
        rest_length fs d (render_nodes p ns (wrap_at fs d) s) (renders_length p ns (wrap_at fs d) s ∙ h)
