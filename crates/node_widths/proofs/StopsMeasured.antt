-- The rows entered where texts are measured by a rule are those entered in rows whose texts are measured already, with the same standing there. Also
-- where a rendering goes on from open rows.
-- Assumes nothing.
use mathlib.Core.Path.{◌≡◌, refl, sym, ap, ap₂, ◌∙◌}
use mathlib.Core.Bool.{Bool, true, false, cond, not, ◌&&◌}
use mathlib.Core.List.{List, [], ◌∷◌, ◌++◌}
use Prim.Native.Nat.{ℕ, zero, suc, ◌≤◌, ◌<◌}
use native.Mathlib.Omega.{arith}
use borrow.Author.Tests.{eqb-true}
use lib.Dec.{eqb}
use Rattle.rows.specs.Kinds.{ASCII, CALL}
use Rattle.rows.specs.Node.{Text, Node, Nodes, group, indent, indent_next, wrap_parent, comment as comment_node, str, ascii}
use Rattle.rows.specs.Node.{line, empty_line, line_or_space, if_wrap, call, none, ◌then◌, wrapped}
use Rattle.rows.specs.View.{View, nodes_at}
use Rattle.rows.proofs.Nested.{nests_le}
use Rattle.renderer_rules.specs.declared.Frame.{Frame}
use Rattle.renderer_rules.specs.Frames.{frame_at, part_end, part_limit, wrap_at, Open, Under, AllLie}
use Rattle.renderer_rules.specs.Machine.{closing}
use Rattle.renderer_rules.specs.Renderer.{Page, Renderer, on_pen, insert, indent_more, next_indent_more, next_indent_less}
use Rattle.renderer_rules.specs.Renderer.{group_wraps, trailing_call, callee_wraps, render_node, render_nodes}
use Rattle.renderer_rules.specs.Stops.{OpenRow, trailing, way_of, open_at, inside, Stop, stop_at, listed_rows, within, entered, arguments, behind, ahead}
use Rattle.renderer_rules.specs.Stops.{rest, meaning}
use Rattle.node_widths.specs.Measured.{measured, measured_all, page_by, TurnedAt}
use Rattle.node_widths.proofs.Renders.{group_same, trailing_same, callee_same, node_same, nodes_same}
use Rattle.node_widths.proofs.Turned.{turned_measures}

module _ (max : ℕ) (f g : Text → ℕ) (bytes : Text → List ℕ) (v u : View) (seconds : (i : ℕ) → u.second i ≡ v.second i)
    (afters : (i : ℕ) → u.after i ≡ v.after i) where
  abbrev p : Page
  p = page_by max f bytes

  abbrev q : Page
  q = page_by max g bytes

  abbrev Ih : Nodes → Type 0
  Ih ns = (i : ℕ) (es : List OpenRow) (w : Bool) (r : Renderer) → entered v p ns i es w r ≡ entered u q (measured_all f ns) i es w r

  -- nodes as a group
  group_rows : (n : ℕ) (ns : Nodes) (i : ℕ) (es : Bool → List OpenRow) (r : Renderer) → Ih ns
      → entered v p ns i (es (group_wraps p ns r)) (group_wraps p ns r) (insert (group_wraps p ns r) n r)
      ≡ entered u q (measured_all f ns) i (es (group_wraps q (measured_all f ns) r)) (group_wraps q (measured_all f ns) r)
      (insert (group_wraps q (measured_all f ns) r) n r)
  group_rows n ns i es r ih =
      let b = group_wraps p ns r in
      ih i (es b) b (insert b n r)
      ∙ ap (λ (c : Bool). entered u q (measured_all f ns) i (es c) c (insert c n r)) (group_same max f g bytes ns r)

  -- a `Call`, by its branch and whether its callee wraps
  abbrev call_rows : View → Page → Bool → Bool → ℕ → Nodes → ℕ → Nodes → ℕ → List OpenRow → Renderer → List Stop
  call_rows x y trails outer n e k a i es r =
      let deeper = not trails && outer in
      let way = way_of (not trails) deeper in
      let s : Renderer = on_pen (next_indent_more deeper) (insert outer n r) in
      let t : Renderer = render_nodes y e outer s in
      let inner = group_wraps y a t in
      entered x y e (suc i) (inside es (open_at i outer way)) outer s
      ++ entered x y a (x.second i) (inside es (open_at i inner way)) inner (insert inner k t)

  called_rows : (trails outer : Bool) (n : ℕ) (e : Nodes) (k : ℕ) (a : Nodes) (i : ℕ) (es : List OpenRow) (r : Renderer) → Ih e → Ih a
      → call_rows v p trails outer n e k a i es r ≡ call_rows u q trails outer n (measured_all f e) k (measured_all f a) i es r
  called_rows trails outer n e k a i es r ihe iha =
      let deeper = not trails && outer in
      let way = way_of (not trails) deeper in
      let s : Renderer = on_pen (next_indent_more deeper) (insert outer n r) in
      let t : Renderer = render_nodes p e outer s in
      let m = measured_all f a in
      let rows : ℕ → Renderer → List Stop =
      λ j z. entered u q m j (inside es (open_at i (group_wraps q m z) way)) (group_wraps q m z) (insert (group_wraps q m z) k z)
      in
      ap₂ {A = List Stop} {B = List Stop} ◌++◌ (ihe (suc i) (inside es (open_at i outer way)) outer s)
      (group_rows k a (v.second i) (λ c. inside es (open_at i c way)) t iha
      ∙ ap₂ rows (sym (seconds i)) (nodes_same max f g bytes e outer s))

  mutual
    unfolding within entered measured

    within_same : (n : Node) (i : ℕ) (es : List OpenRow) (w : Bool) (r : Renderer) → within v p n i es w r ≡ within u q (measured f n) i es w r
    within_same (group n ns) i es w r =
        group_rows n ns (suc i) (λ c. inside es (open_at i c trailing)) r (λ j fs c s. entered_same ns j fs c s)
    within_same (indent ns) i es w r = entered_same ns (suc i) (inside es (open_at i w trailing)) w (on_pen (indent_more w) r)
    within_same (indent_next ns) i es w r = entered_same ns (suc i) (inside es (open_at i w trailing)) w (on_pen (next_indent_more w) r)
    within_same wrap_parent i es w r = refl
    within_same (comment_node t) i es w r = refl
    within_same (str k t) i es w r = refl
    within_same (ascii t) i es w r = refl
    within_same line i es w r = refl
    within_same empty_line i es w r = refl
    within_same line_or_space i es w r = refl
    within_same (if_wrap n a b) i es w r =
        let fs = inside es (open_at i w trailing) in
        ap₂
        (λ (x y : List Stop). cond (wrapped r.marks n) (stop_at (suc i) fs r ∷ x) (stop_at (v.second i) fs r ∷ y))
        (within_same a (suc i) fs w r)
        (within_same b (v.second i) fs w r)
        ∙ ap
        (λ (j : ℕ).
        cond (wrapped r.marks n) (stop_at (suc i) fs r ∷ within u q (measured f a) (suc i) fs w r)
        (stop_at j fs r ∷ within u q (measured f b) j fs w r))
        (sym (seconds i))
    within_same (call n e k a) i es w r =
        let trails = trailing_call p e a r in
        let outer = callee_wraps p trails e a r in
        let m = measured_all f e in
        let o = measured_all f a in
        called_rows trails outer n e k a i es r (λ j fs c s. entered_same e j fs c s) (λ j fs c s. entered_same a j fs c s)
        ∙ ap (λ (c : Bool). call_rows u q trails c n m k o i es r) (callee_same max f g bytes trails e a r)
        ∙ ap (λ (c : Bool). call_rows u q c (callee_wraps q c m o r) n m k o i es r) (trailing_same max f g bytes e a r)

    pub entered_same : (ns : Nodes) (i : ℕ) (es : List OpenRow) (w : Bool) (r : Renderer)
        → entered v p ns i es w r ≡ entered u q (measured_all f ns) i es w r
    entered_same none i es w r = refl
    entered_same (n then ns) i es w r =
        let t = render_node p n w r in
        ap₂ (λ (x y : List Stop). stop_at i es r ∷ (x ++ y)) (within_same n i es w r)
        (entered_same ns (v.after i) es w t
        ∙ ap₂ (λ (j : ℕ) (z : Renderer). entered u q (measured_all f ns) j es w z) (sym (afters i)) (node_same max f g bytes n w r))

  -- ---- going on from open rows
  module _ (from stop : ℕ) (turned : (i : ℕ) → from ≤ i → i < stop → TurnedAt f v u i) where
    nodes_turned : (i j : ℕ) → from ≤ i → j ≤ stop → nodes_at u i j ≡ measured_all f (nodes_at v i j)
    nodes_turned i j h k = turned_measures f v u i j (λ m a b. turned m (omega arith) (omega arith))

    end_same : (fr : Frame) → part_end u fr ≡ part_end v fr
    unfolding part_end
    end_same fr = ap₂ (cond fr.first) (seconds fr.row) (afters fr.row)

    limit_same : (fs : List Frame) (d : ℕ) → part_limit u stop fs d ≡ part_limit v stop fs d
    unfolding part_limit
    limit_same fs zero = refl
    limit_same fs (suc d) = end_same (frame_at fs d)

    -- the parts of row fr, its second part, on
    abbrev parts : View → Frame → Nodes
    parts x fr = nodes_at x (x.second fr.row) (x.after fr.row)

    parts_turned : (fr : Frame) → v.after fr.row ≤ stop → from ≤ v.second fr.row → parts u fr ≡ measured_all f (parts v fr)
    parts_turned fr d h =
        ap₂ (nodes_at u) (seconds fr.row) (afters fr.row) ∙ nodes_turned (v.second fr.row) (v.after fr.row) h d

    -- a row that is no `Ascii`
    kind_same : (i c : ℕ) → v.kind i ≡ c → (c ≡ ASCII → ⊥) → from ≤ i → i < stop → u.kind i ≡ c
    kind_same i c e n h k = (turned i h k).kind (λ z. n (sym e ∙ z)) ∙ e

    group_done : (n : ℕ) (ns : Nodes) (r : Renderer)
        → render_nodes p ns (group_wraps p ns r) (insert (group_wraps p ns r) n r)
        ≡ render_nodes q (measured_all f ns) (group_wraps q (measured_all f ns) r) (insert (group_wraps q (measured_all f ns) r) n r)
    group_done n ns r =
        nodes_same max f g bytes ns (group_wraps p ns r) (insert (group_wraps p ns r) n r)
        ∙ ap (λ (c : Bool). render_nodes q (measured_all f ns) c (insert c n r)) (group_same max f g bytes ns r)

    closing_same : (fr : Frame) (s : Renderer) (c : ℕ) → v.kind fr.row ≡ c → from ≤ fr.row → fr.row < stop → v.after fr.row ≤ stop
        → (fr.first ≡ true → from ≤ v.second fr.row) → closing v p fr s ≡ closing u q fr s
    unfolding closing render_node
    closing_same fr s zero e h k d x = rw (e, kind_same fr.row 0 e (λ z. omega arith) h k) refl
    closing_same fr s (suc zero) e h k d x = rw (e, kind_same fr.row 1 e (λ z. omega arith) h k) refl
    closing_same fr s (suc (suc zero)) e h k d x = rw (e, kind_same fr.row 2 e (λ z. omega arith) h k) refl
    closing_same fr s (suc (suc (suc zero))) e h k d x = rw (e, kind_same fr.row 3 e (λ z. omega arith) h k) refl
    closing_same fr s (suc (suc (suc (suc zero)))) e h k d x = rw (e, kind_same fr.row 4 e (λ z. omega arith) h k) refl
    closing_same fr s (suc (suc (suc (suc (suc zero))))) e h k d x = rw (e, kind_same fr.row 5 e (λ z. omega arith) h k) refl
    closing_same fr s (suc (suc (suc (suc (suc (suc zero)))))) e h k d x = rw (e, (turned fr.row h k).ascii_kind e) refl
    closing_same fr s (suc (suc (suc (suc (suc (suc (suc zero))))))) e h k d x = rw (e, kind_same fr.row 7 e (λ z. omega arith) h k) refl
    closing_same fr s (suc (suc (suc (suc (suc (suc (suc (suc zero)))))))) e h k d x = rw (e, kind_same fr.row 8 e (λ z. omega arith) h k) refl
    closing_same fr s (suc (suc (suc (suc (suc (suc (suc (suc (suc zero))))))))) e h k d x = rw (e, kind_same fr.row 9 e (λ z. omega arith) h k) refl
    closing_same fr s (suc (suc (suc (suc (suc (suc (suc (suc (suc (suc zero)))))))))) e h k d x =
        rw (e, kind_same fr.row 10 e (λ z. omega arith) h k) refl
    closing_same fr s (suc (suc (suc (suc (suc (suc (suc (suc (suc (suc (suc zero))))))))))) e h k d x =
        rw (e, kind_same fr.row 11 e (λ z. omega arith) h k) (ap (on_pen (next_indent_less fr.deeper)) (go fr.first refl))
      where
        done : Page → ℕ → Nodes → Renderer
        done y n ns = render_nodes y ns (group_wraps y ns s) (insert (group_wraps y ns s) n s)

        go : (c : Bool) → fr.first ≡ c → cond c (done p (v.number2 fr.row) (parts v fr)) s ≡ cond c (done q (u.number2 fr.row) (parts u fr)) s
        go true y =
            group_done (v.number2 fr.row) (parts v fr) s
            ∙ ap₂ (done q) (sym ((turned fr.row h k).number2 (λ z. (let w = sym e ∙ z in omega arith)))) (sym (parts_turned fr d (x y)))
        go false y = refl
    closing_same fr s (suc (suc (suc (suc (suc (suc (suc (suc (suc (suc (suc (suc c)))))))))))) e h k d x =
        rw (e, kind_same fr.row _ e (λ z. omega arith) h k) refl

    -- whether row i is a `Call`
    call_same : (i : ℕ) → from ≤ i → i < stop → eqb (v.kind i) CALL ≡ eqb (u.kind i) CALL
    call_same i h k = go (eqb (v.kind i) ASCII) refl
      where
        go : (c : Bool) → eqb (v.kind i) ASCII ≡ c → eqb (v.kind i) CALL ≡ eqb (u.kind i) CALL
        go true e = let x = eqb-true (v.kind i) ASCII e in rw (x, (turned i h k).ascii_kind x)
        go false e = rw ((turned i h k).kind (λ z. (let w : true ≡ false = sym (rw z) ∙ e in no_true w)))
          where
            no_true : true ≡ false → ⊥
            no_true w = let z : ◌≡◌ {A = ℕ} 0 1 = cc in omega arith

    arguments_same : (es : List OpenRow) (fr : Frame) (s : Renderer) → from ≤ fr.row → fr.row < stop → v.after fr.row ≤ stop
        → (fr.first ≡ true → from ≤ v.second fr.row) → arguments v p es fr s ≡ arguments u q es fr s
    unfolding arguments
    arguments_same es fr s h k d x =
        go (eqb (v.kind fr.row) CALL) refl fr.first refl
        ∙ ap (λ (c : Bool). cond (c && fr.first) (rows u q (parts u fr) (u.second fr.row) (u.number2 fr.row)) []) (call_same fr.row h k)
      where
        rows : View → Page → Nodes → ℕ → ℕ → List Stop
        rows y z ns j n =
            entered y z ns j (inside es (open_at fr.row (group_wraps z ns s) (way_of fr.made fr.deeper))) (group_wraps z ns s)
            (insert (group_wraps z ns s) n s)

        go : (b : Bool) → eqb (v.kind fr.row) CALL ≡ b → (c : Bool) → fr.first ≡ c
            → cond (b && c) (rows v p (parts v fr) (v.second fr.row) (v.number2 fr.row)) []
            ≡ cond (b && c) (rows u q (parts u fr) (u.second fr.row) (u.number2 fr.row)) []
        go true e true y =
            let w = eqb-true (v.kind fr.row) CALL e in
            group_rows (v.number2 fr.row) (parts v fr) (v.second fr.row) (λ b. inside es (open_at fr.row b (way_of fr.made fr.deeper))) s
            (λ i fs b t. entered_same (parts v fr) i fs b t)
            ∙ ap (λ (ns : Nodes). rows u q ns (v.second fr.row) (v.number2 fr.row)) (sym (parts_turned fr d (x y)))
            ∙ ap₂ (rows u q (parts u fr)) (sym (seconds fr.row)) (sym ((turned fr.row h k).number2 (λ z. (let m = sym w ∙ z in omega arith))))
        go true e false y = refl
        go false e c y = refl

    behind_same : (fs : List Frame) (d : ℕ) (s : Renderer) → Under v stop fs d → AllLie v from fs d
        → (behind v p stop fs d s ≡ behind u q stop fs d s) × (rest v p stop fs d s ≡ rest u q stop fs d s)
    unfolding rest behind Under
    behind_same fs zero s a l = (refl, refl)
    behind_same fs (suc d) s a l =
        let fr = frame_at fs d in
        let o : Open v stop fs d = a.0 in
        let at = l d (omega arith) in
        let row = o.row in
        let low = o.low in
        let le = nests_le o.after in
        let end : v.after fr.row ≤ stop = omega arith in
        let t = closing v p fr s in
        let w = wrap_at fs d in
        let es = listed_rows fs d in
        let j = part_limit v stop fs d in
        let ns = nodes_at v (v.after fr.row) j in
        let c = closing_same fr s (v.kind fr.row) refl at.row row end at.part in
        let n : measured_all f ns ≡ nodes_at u (u.after fr.row) (part_limit u stop fs d) =
        sym (ap₂ (nodes_at u) (afters fr.row) (limit_same fs d) ∙ nodes_turned (v.after fr.row) j at.after low) in
        let y = render_nodes p ns w t in
        let next : y ≡ render_nodes q (nodes_at u (u.after fr.row) (part_limit u stop fs d)) w (closing u q fr s) =
        nodes_same max f g bytes ns w t ∙ ap₂ (λ (m : Nodes) (z : Renderer). render_nodes q m w z) n c in
        let more = behind_same fs d y a.1 (λ k h. l k (omega arith)) in (
          ap₂ {A = List Stop} {B = List Stop} ◌++◌ (arguments_same es fr s at.row row end at.part)
              (ap₂ {A = List Stop} {B = List Stop} ◌++◌
              (entered_same ns (v.after fr.row) es w t
              ∙ ap₂ (λ (m : Nodes) (z : Renderer). entered u q m (v.after fr.row) es w z) n c
              ∙ ap (λ (k : ℕ). entered u q (nodes_at u (u.after fr.row) (part_limit u stop fs d)) k es w (closing u q fr s)) (sym (afters fr.row)))
              (more.0 ∙ ap (behind u q stop fs d) next)),
          more.1 ∙ ap (rest u q stop fs d) next,
        )

    pub ahead_same : (fs : List Frame) (d i : ℕ) (s : Renderer) → Under v stop fs d → part_limit v stop fs d ≤ stop → from ≤ i → AllLie v from fs d
        → (ahead v p stop fs d i s ≡ ahead u q stop fs d i s) × (meaning v p stop fs d i s ≡ meaning u q stop fs d i s)
    unfolding ahead meaning
    ahead_same fs d i s a low h l =
        let w = wrap_at fs d in
        let es = listed_rows fs d in
        let j = part_limit v stop fs d in
        let ns = nodes_at v i j in
        let n : measured_all f ns ≡ nodes_at u i (part_limit u stop fs d) =
        sym (ap (nodes_at u i) (limit_same fs d) ∙ nodes_turned i j h low) in
        let next : render_nodes p ns w s ≡ render_nodes q (nodes_at u i (part_limit u stop fs d)) w s =
        nodes_same max f g bytes ns w s ∙ ap (λ (m : Nodes). render_nodes q m w s) n in
        let more = behind_same fs d (render_nodes p ns w s) a l in (
          ap₂ {A = List Stop} {B = List Stop} ◌++◌
              (entered_same ns i es w s ∙ ap (λ (m : Nodes). entered u q m i es w s) n)
              (more.0 ∙ ap (behind u q stop fs d) next),
          more.1 ∙ ap (rest u q stop fs d) next,
        )
