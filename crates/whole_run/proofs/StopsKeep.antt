-- What entering a row, rendering nodes and moving the pen each keep, every row that is entered keeps, and so does the rendering from there to its
-- end; also where the rendering goes on from open rows. So a stop has changed no mark but those of its rows' numbers, and its text is no longer than
-- that of the end.
-- Assumes nothing.
use mathlib.Core.Path.{◌≡◌, refl}
use mathlib.Core.Bool.{Bool, true, false, cond, not, ◌&&◌}
use mathlib.Core.List.{List, [], ◌∷◌, ◌++◌}
use Prim.Native.Nat.{ℕ, zero, suc, ◌≤◌, ◌<◌}
use native.Mathlib.Omega.{arith}
use borrow.Author.Tests.{eqb-true}
use lib.Dec.{eqb}
use lib.ListN.{get_or}
use Rattle.laws.proofs.Booleans.{both}
use Rattle.rows.specs.Kinds.{CALL}
use Rattle.rows.specs.Node.{Node, Nodes, group, indent, indent_next, wrap_parent, comment as comment_node, str, ascii}
use Rattle.rows.specs.Node.{line, empty_line, line_or_space, if_wrap, call, none, ◌then◌, wrapped}
use Rattle.rows.specs.View.{View, nodes_at}
use Rattle.rows.proofs.Nested.{nests_le}
use Rattle.renderer_rules.specs.declared.Frame.{Frame}
use Rattle.renderer_rules.specs.declared.Pen.{Pen}
use Rattle.renderer_rules.specs.Frames.{frame_at, part_limit, wrap_at, Open, Under, AllLie}
use Rattle.renderer_rules.specs.Machine.{closing}
use Rattle.renderer_rules.specs.Renderer.{Page, Renderer, on_pen, insert, indent_more, next_indent_more, indent_less, next_indent_less}
use Rattle.renderer_rules.specs.Renderer.{group_wraps, trailing_call, callee_wraps, render_node, render_nodes}
use Rattle.renderer_rules.specs.Stops.{OpenRow, way_of, open_at, inside, Stop, stop_at, listed_rows, within, entered, arguments, behind, ahead, rest, meaning}
use Rattle.renderer_rules.specs.Drift.{AllStops}
use Rattle.whole_run.proofs.StopTops.{all_get}

-- of the numbers of a node, and of nodes
abbrev mutual
  pub Numbered : (ℕ → Type 0) → Node → Type 0
  Numbered P (group n ns) = P n × AllNumbered P ns
  Numbered P (indent ns) = AllNumbered P ns
  Numbered P (indent_next ns) = AllNumbered P ns
  Numbered P wrap_parent = Unit {0}
  Numbered P (comment_node t) = Unit {0}
  Numbered P (str w t) = Unit {0}
  Numbered P (ascii t) = Unit {0}
  Numbered P line = Unit {0}
  Numbered P empty_line = Unit {0}
  Numbered P line_or_space = Unit {0}
  Numbered P (if_wrap n x y) = P n × Numbered P x × Numbered P y
  Numbered P (call n e k a) = P n × P k × AllNumbered P e × AllNumbered P a

  pub AllNumbered : (ℕ → Type 0) → Nodes → Type 0
  AllNumbered P none = Unit {0}
  AllNumbered P (n then ns) = Numbered P n × AllNumbered P ns

-- what is kept from one renderer to a later one, by nodes whose numbers are P
pub record Kept (p : Page) (P : ℕ → Type 0) (Q : Renderer → Renderer → Type 0) : Type 0 where
  pub none : (r : Renderer) → Q r r
  pub on : {r s t : Renderer} → Q r s → Q s t → Q r t
  pub marked : (w : Bool) (n : ℕ) (r : Renderer) → P n → Q r (insert w n r)
  pub pen : (f : Pen → Pen) (r : Renderer) → Q r (on_pen f r)
  pub node : (n : Node) (w : Bool) (r : Renderer) → Numbered P n → Q r (render_node p n w r)
  pub nodes : (ns : Nodes) (w : Bool) (r : Renderer) → AllNumbered P ns → Q r (render_nodes p ns w r)

-- from r to a stop, and from there to t
pub record Between (Q : Renderer → Renderer → Type 0) (r t : Renderer) (e : Stop) : Type 0 where
  pub before : Q r e.state
  pub behind : Q e.state t

module _ (v : View) (p : Page) (P : ℕ → Type 0) (Q : Renderer → Renderer → Type 0) (k : Kept p P Q) where
  abbrev All : Renderer → Renderer → List Stop → Type 0
  All r t l = AllStops (Between Q r t) l

  nothing : (r t : Renderer) → All r t []
  unfolding AllStops
  nothing r t = tt

  first : (i : ℕ) (es : List OpenRow) (r t : Renderer) (l : List Stop) → Q r t → All r t l → All r t (stop_at i es r ∷ l)
  unfolding AllStops
  first i es r t l q a = (record { before = k.none r; behind = q }, a)

  both_lists : (r t : Renderer) (x y : List Stop) → All r t x → All r t y → All r t (x ++ y)
  unfolding AllStops
  both_lists r t [] y a b = b
  both_lists r t (e ∷ x) y a b = (a.0, both_lists r t x y a.1 b)

  -- further apart
  wider : (r s t u : Renderer) (l : List Stop) → Q r s → Q t u → All s t l → All r u l
  unfolding AllStops
  wider r s t u [] a b h = tt
  wider r s t u (e ∷ l) a b h = (record { before = k.on a h.0.before; behind = k.on h.0.behind b }, wider r s t u l a b h.1)

  by_case : (c : Bool) (r s t : Renderer) (x y : List Stop) → All r s x → All r t y → All r (cond c s t) (cond c x y)
  by_case true r s t x y a b = a
  by_case false r s t x y a b = b

  kept_by : (c : Bool) (r s t : Renderer) → Q r s → Q r t → Q r (cond c s t)
  kept_by true r s t a b = a
  kept_by false r s t a b = b

  mutual
    unfolding within entered render_node render_nodes

    pub within_keeps : (n : Node) (i : ℕ) (es : List OpenRow) (w : Bool) (r : Renderer) → Numbered P n
        → All r (render_node p n w r) (within v p n i es w r)
    within_keeps (group n ns) i es w r o =
        let b = group_wraps p ns r in
        wider r (insert b n r) _ _ _ (k.marked b n r o.0) (k.none _) (entered_keeps ns (suc i) _ b (insert b n r) o.1)
    within_keeps (indent ns) i es w r o =
        wider r (on_pen (indent_more w) r) _ _ _ (k.pen (indent_more w) r) (k.pen (indent_less w) _) (entered_keeps ns (suc i) _ w (on_pen (indent_more w) r) o)
    within_keeps (indent_next ns) i es w r o =
        wider r (on_pen (next_indent_more w) r) _ _ _ (k.pen (next_indent_more w) r) (k.pen (next_indent_less w) _)
        (entered_keeps ns (suc i) _ w (on_pen (next_indent_more w) r) o)
    within_keeps wrap_parent i es w r o = nothing r _
    within_keeps (comment_node t) i es w r o = nothing r _
    within_keeps (str m t) i es w r o = nothing r _
    within_keeps (ascii t) i es w r o = nothing r _
    within_keeps line i es w r o = nothing r _
    within_keeps empty_line i es w r o = nothing r _
    within_keeps line_or_space i es w r o = nothing r _
    within_keeps (if_wrap n x y) i es w r o =
        by_case (wrapped r.marks n) r (render_node p x w r) (render_node p y w r) _ _
        (first (suc i) _ r _ _ (k.node x w r o.1) (within_keeps x (suc i) _ w r o.1))
        (first (v.second i) _ r _ _ (k.node y w r o.2) (within_keeps y (v.second i) _ w r o.2))
    within_keeps (call n e m a) i es w r o =
        let trails = trailing_call p e a r in
        let outer = callee_wraps p trails e a r in
        let deeper = not trails && outer in
        let s : Renderer = on_pen (next_indent_more deeper) (insert outer n r) in
        let t : Renderer = render_nodes p e outer s in
        let inner = group_wraps p a t in
        let u : Renderer = insert inner m t in
        let rs : Q r s = k.on (k.marked outer n r o.0) (k.pen (next_indent_more deeper) _) in
        let st : Q s t = k.nodes e outer s o.2 in
        let tu : Q t u = k.marked inner m t o.1 in
        let end : Q (render_nodes p a inner u) (on_pen (next_indent_less deeper) (render_nodes p a inner u)) = k.pen (next_indent_less deeper) _ in
        both_lists r _ _ _
        (wider r s t _ _ rs (k.on tu (k.on (k.nodes a inner u o.3) end)) (entered_keeps e (suc i) _ outer s o.2))
        (wider r u _ _ _ (k.on rs (k.on st tu)) end (entered_keeps a (v.second i) _ inner u o.3))

    pub entered_keeps : (ns : Nodes) (i : ℕ) (es : List OpenRow) (w : Bool) (r : Renderer) → AllNumbered P ns
        → All r (render_nodes p ns w r) (entered v p ns i es w r)
    entered_keeps none i es w r o = nothing r r
    entered_keeps (n then ns) i es w r o =
        let t = render_node p n w r in
        let to = k.node n w r o.0 in
        let on = k.nodes ns w t o.1 in
        first i es r _ _ (k.on to on)
        (both_lists r _ _ _ (wider r r t _ _ (k.none r) on (within_keeps n i es w r o.0))
        (wider r t _ _ _ to (k.none _) (entered_keeps ns (v.after i) es w t o.1)))

  -- ---- going on from open rows, which lie from row `from` on
  module _ (from stop : ℕ) (numbered : (i j : ℕ) → from ≤ i → j ≤ stop → AllNumbered P (nodes_at v i j))
      (second : (i : ℕ) → from ≤ i → i < stop → v.kind i ≡ CALL → P (v.number2 i)) where
    closing_keeps : (f : Frame) (s : Renderer) (c : ℕ) → v.kind f.row ≡ c → from ≤ f.row → f.row < stop → v.after f.row ≤ stop
        → (f.first ≡ true → from ≤ v.second f.row) → Q s (closing v p f s)
    unfolding closing
    closing_keeps f s zero e a b d h = rw e (k.none s)
    closing_keeps f s (suc zero) e a b d h = rw e (k.pen (indent_less f.wrap) s)
    closing_keeps f s (suc (suc zero)) e a b d h = rw e (k.pen (next_indent_less f.wrap) s)
    closing_keeps f s (suc (suc (suc zero))) e a b d h = rw e (k.none s)
    closing_keeps f s (suc (suc (suc (suc zero)))) e a b d h = rw e (k.none s)
    closing_keeps f s (suc (suc (suc (suc (suc zero))))) e a b d h = rw e (k.none s)
    closing_keeps f s (suc (suc (suc (suc (suc (suc zero)))))) e a b d h = rw e (k.none s)
    closing_keeps f s (suc (suc (suc (suc (suc (suc (suc zero))))))) e a b d h = rw e (k.none s)
    closing_keeps f s (suc (suc (suc (suc (suc (suc (suc (suc zero)))))))) e a b d h = rw e (k.none s)
    closing_keeps f s (suc (suc (suc (suc (suc (suc (suc (suc (suc zero))))))))) e a b d h = rw e (k.none s)
    closing_keeps f s (suc (suc (suc (suc (suc (suc (suc (suc (suc (suc zero)))))))))) e a b d h = rw e (k.none s)
    closing_keeps f s (suc (suc (suc (suc (suc (suc (suc (suc (suc (suc (suc zero))))))))))) e a b d h =
        rw e (k.on (go f.first refl) (k.pen (next_indent_less f.deeper) _))
      where
        n : Node
        n = group (v.number2 f.row) (nodes_at v (v.second f.row) (v.after f.row))

        go : (c : Bool) → f.first ≡ c → Q s (cond c (render_node p n true s) s)
        go true x = k.node n true s (second f.row a b e, numbered (v.second f.row) (v.after f.row) (h x) d)
        go false x = k.none s
    closing_keeps f s (suc (suc (suc (suc (suc (suc (suc (suc (suc (suc (suc (suc c)))))))))))) e a b d h = rw e (k.none s)

    arguments_keep : (es : List OpenRow) (f : Frame) (s : Renderer) → from ≤ f.row → f.row < stop → v.after f.row ≤ stop
        → (f.first ≡ true → from ≤ v.second f.row) → All s (closing v p f s) (arguments v p es f s)
    unfolding arguments closing render_node
    arguments_keep es f s a b d h = go (eqb (v.kind f.row) CALL && f.first) refl
      where
        ns : Nodes
        ns = nodes_at v (v.second f.row) (v.after f.row)

        inner : Bool
        inner = group_wraps p ns s

        go : (c : Bool) → (eqb (v.kind f.row) CALL && f.first) ≡ c
            → All s (closing v p f s)
            (cond c (entered v p ns (v.second f.row) (inside es (open_at f.row inner (way_of f.made f.deeper))) inner (insert inner (v.number2 f.row) s)) [])
        go false x = nothing s _
        go true x =
            let y = both (eqb (v.kind f.row) CALL) f.first x in
            let e = eqb-true (v.kind f.row) CALL y.0 in
            let o = numbered (v.second f.row) (v.after f.row) (h y.1) d in
            let z : closing v p f s ≡ on_pen (next_indent_less f.deeper) (render_nodes p ns inner (insert inner (v.number2 f.row) s)) = rw (e, y.1) refl in
            rw z
            (wider s (insert inner (v.number2 f.row) s) _ _ _ (k.marked inner (v.number2 f.row) s (second f.row a b e)) (k.pen (next_indent_less f.deeper) _)
            (entered_keeps ns (v.second f.row) _ inner (insert inner (v.number2 f.row) s) o))

    rest_keeps : (fs : List Frame) (d : ℕ) (s : Renderer) → Under v stop fs d → AllLie v from fs d → Q s (rest v p stop fs d s)
    unfolding rest Under
    rest_keeps fs zero s u l = k.none s
    rest_keeps fs (suc d) s u l =
        let f = frame_at fs d in
        let o : Open v stop fs d = u.0 in
        let at = l d (omega arith) in
        let row = o.row in
        let low = o.low in
        let le = nests_le o.after in
        let t = closing v p f s in
        let ns = nodes_at v (v.after f.row) (part_limit v stop fs d) in
        k.on (closing_keeps f s (v.kind f.row) refl at.row row (omega arith) at.part)
        (k.on (k.nodes ns (wrap_at fs d) t (numbered (v.after f.row) (part_limit v stop fs d) at.after low))
        (rest_keeps fs d (render_nodes p ns (wrap_at fs d) t) u.1 (λ j h. l j (omega arith))))

    behind_keeps : (fs : List Frame) (d : ℕ) (s : Renderer) → Under v stop fs d → AllLie v from fs d → All s (rest v p stop fs d s) (behind v p stop fs d s)
    unfolding rest behind Under
    behind_keeps fs zero s u l = nothing s s
    behind_keeps fs (suc d) s u l =
        let f = frame_at fs d in
        let o : Open v stop fs d = u.0 in
        let at = l d (omega arith) in
        let row = o.row in
        let low = o.low in
        let le = nests_le o.after in
        let end : v.after f.row ≤ stop = omega arith in
        let t = closing v p f s in
        let ns = nodes_at v (v.after f.row) (part_limit v stop fs d) in
        let w = wrap_at fs d in
        let y = render_nodes p ns w t in
        let ok = numbered (v.after f.row) (part_limit v stop fs d) at.after low in
        let down : AllLie v from fs d = λ j h. l j (omega arith) in
        let st = closing_keeps f s (v.kind f.row) refl at.row row end at.part in
        let ty = k.nodes ns w t ok in
        let yz = rest_keeps fs d y u.1 down in
        both_lists s _ _ _ (wider s s t _ _ (k.none s) (k.on ty yz) (arguments_keep (listed_rows fs d) f s at.row row end at.part))
        (both_lists s _ _ _ (wider s t y _ _ st yz (entered_keeps ns (v.after f.row) (listed_rows fs d) w t ok))
        (wider s y _ _ _ (k.on st ty) (k.none _) (behind_keeps fs d y u.1 down)))

    pub meaning_keeps : (fs : List Frame) (d i : ℕ) (s : Renderer) → Under v stop fs d → part_limit v stop fs d ≤ stop → from ≤ i → AllLie v from fs d
        → Q s (meaning v p stop fs d i s)
    unfolding meaning
    meaning_keeps fs d i s u low h l =
        let ns = nodes_at v i (part_limit v stop fs d) in
        k.on (k.nodes ns (wrap_at fs d) s (numbered i (part_limit v stop fs d) h low)) (rest_keeps fs d (render_nodes p ns (wrap_at fs d) s) u l)

    pub ahead_keeps : (fs : List Frame) (d i : ℕ) (s : Renderer) → Under v stop fs d → part_limit v stop fs d ≤ stop → from ≤ i → AllLie v from fs d
        → All s (meaning v p stop fs d i s) (ahead v p stop fs d i s)
    unfolding ahead meaning
    ahead_keeps fs d i s u low h l =
        let ns = nodes_at v i (part_limit v stop fs d) in
        let w = wrap_at fs d in
        let y = render_nodes p ns w s in
        let ok = numbered i (part_limit v stop fs d) h low in
        both_lists s _ _ _ (wider s s y _ _ (k.none s) (rest_keeps fs d y u l) (entered_keeps ns i (listed_rows fs d) w s ok))
        (wider s y _ _ _ (k.nodes ns w s ok) (k.none _) (behind_keeps fs d y u l))

    -- a stop, or the end
    pub stop_keeps : (fs : List Frame) (d i n : ℕ) (s : Renderer) → Under v stop fs d → part_limit v stop fs d ≤ stop → from ≤ i → AllLie v from fs d
        → Between Q s (meaning v p stop fs d i s)
        (get_or (ahead v p stop fs d i s) n (stop_at stop [] (meaning v p stop fs d i s)))
    stop_keeps fs d i n s u low h l =
        all_get (Between Q s (meaning v p stop fs d i s)) (ahead v p stop fs d i s) n _ (ahead_keeps fs d i s u low h l)
        (record { before = meaning_keeps fs d i s u low h l; behind = k.none _ })
