-- Where a row ends: what is ahead of a state is what is entered up to there, while the row stands at its place, and then what is ahead of its end.
-- Assumes nothing.
use mathlib.Core.Path.{◌≡◌, refl, ap, sym, ◌∙◌, subst}
use mathlib.Core.Bool.{Bool, true, false, cond, ◌&&◌}
use mathlib.Core.List.{List, [], ◌∷◌, ◌++◌, map, append_assoc}
use Prim.Native.Nat.{ℕ, zero, suc, ◌+◌, ◌≤◌, ◌<◌}
use native.Mathlib.Omega.{arith}
use native.Mathlib.Decide.{dec_lt}
use lib.Dec.{eqb}
use lib.ListN.{length, take, get_or, length-append, length-take}
use Rattle.laws.proofs.Booleans.{both}
use Rattle.rows.specs.Kinds.{CALL}
use Rattle.rows.specs.View.{View, nodes_at, node_at}
use Rattle.rows.specs.Nesting.{Nests}
use Rattle.rows.proofs.Decode.{nodes_some}
use Rattle.rows.proofs.Nested.{nests_after, nests_rest}
use Rattle.renderer_rules.specs.declared.Frame.{Frame}
use Rattle.renderer_rules.specs.declared.Pen.{Pen}
use Rattle.renderer_rules.specs.Renderer.{Page, Renderer, insert, group_wraps, render_nodes}
use Rattle.renderer_rules.specs.Frames.{frame_at, part_end, part_limit, wrap_at, Under, At}
use Rattle.renderer_rules.specs.Machine.{closing}
use Rattle.renderer_rules.specs.Stops.{OpenRow, way_of, open_at, Stop, stop_at, inside, listed_rows, within, entered, arguments, behind, ahead, rest, meaning}
use Rattle.renderer_rules.specs.Drift.{AllStops}
use Rattle.renderer_rules.specs.Listed.{can_close_all}
use Rattle.renderer_rules.proofs.Drift.{Among, all_among}
use Rattle.renderer_rules.proofs.Resumed.{Holds}
use Rattle.stop_facts.specs.Margin.{Stands, closed_to_row, done_from}
use Rattle.stop_facts.proofs.EachStop.{all_none, all_first, all_append, all_map}
use Rattle.stop_facts.proofs.MarginEntry.{kinds, row_kinds, entered_rows, within_row, Inner, Within}
use Rattle.stop_facts.proofs.MarginRows.{Rising, beyond, next_there, level}

-- ---- the row at a place of a list
row_place : (ls more : List OpenRow) (m d x y : ℕ) → d < m → m ≤ length ls → get_or (map (λ l. l.row) (take m ls ++ more)) d x
    ≡ get_or (map (λ l. l.row) ls) d y
row_place ls more zero d x y h l = absurd (omega arith)
row_place [] more (suc m) d x y h l = absurd (omega arith)
row_place (f ∷ ls) more (suc m) zero x y h l = refl
row_place (f ∷ ls) more (suc m) (suc d) x y h l = row_place ls more m d x y (omega arith) (omega arith)

own_place : (es more : List OpenRow) (f : OpenRow) (d x : ℕ) → length es ≡ d → get_or (map (λ l. l.row) (es ++ (f ∷ more))) d x ≡ f.row
own_place [] more f zero x h = refl
own_place [] more f (suc d) x h = absurd (omega arith)
own_place (e ∷ es) more f zero x h = absurd (omega arith)
own_place (e ∷ es) more f (suc d) x h = own_place es more f d x (omega arith)

module _ (v : View) (pg : Page) (stop n lo : ℕ) (fs : List Frame) (ls : List OpenRow) (p : Pen) (a : At v stop fs (length ls) n) (holds : Holds v n fs 0 ls)
    (listed : (k : ℕ) → k ≤ length ls → listed_rows fs k ≡ take k ls) (can : can_close_all v ls p ≡ true) (rises : Rising v n lo ls) where
  -- ---- what is entered before the end of the row at place d
  -- behind the open part of the innermost of d + 1 + k open rows
  unfoldable pub before_of : ℕ → ℕ → Renderer → List Stop
  before_of d zero s = arguments v pg (listed_rows fs d) (frame_at fs d) s
  before_of d (suc k) s =
      let m = suc (d + k) in
      let f = frame_at fs m in
      let ns = nodes_at v (v.after f.row) (part_limit v stop fs m) in
      let t = closing v pg f s in
      arguments v pg (listed_rows fs m) f s
      ++ (entered v pg ns (v.after f.row) (listed_rows fs m) (wrap_at fs m) t ++ before_of d k (render_nodes pg ns (wrap_at fs m) t))

  -- from row n on, with d + k rows open
  unfoldable pub before_end : ℕ → ℕ → Renderer → List Stop
  before_end d zero s = stop_at n (listed_rows fs d) s ∷ within v pg (node_at v n) n (listed_rows fs d) (wrap_at fs d) s
  before_end d (suc k) s =
      let m = suc (d + k) in
      let ns = nodes_at v n (part_limit v stop fs m) in
      entered v pg ns n (listed_rows fs m) (wrap_at fs m) s ++ before_of d k (render_nodes pg ns (wrap_at fs m) s)

  behind_parts : (d k : ℕ) (s : Renderer) → behind v pg stop fs (suc (d + k)) s
      ≡ before_of d k s ++ ahead v pg stop fs d (v.after (frame_at fs d).row) (closed_to_row v pg stop fs d k s)
  unfolding behind before_of ahead closed_to_row
  behind_parts d zero s = let e : d + 0 ≡ d = omega arith in ap (λ (k : ℕ). behind v pg stop fs (suc k) s) e
  behind_parts d (suc k) s =
      let m = suc (d + k) in
      let e : d + suc k ≡ m = omega arith in
      let f = frame_at fs m in
      let ns = nodes_at v (v.after f.row) (part_limit v stop fs m) in
      let t = closing v pg f s in
      let u = render_nodes pg ns (wrap_at fs m) t in
      let x = arguments v pg (listed_rows fs m) f s in
      let y = entered v pg ns (v.after f.row) (listed_rows fs m) (wrap_at fs m) t in
      let w = ahead v pg stop fs d (v.after (frame_at fs d).row) (closed_to_row v pg stop fs d k u) in
      ap (λ (j : ℕ). behind v pg stop fs (suc j) s) e
      ∙ ap (λ (l : List Stop). x ++ (y ++ l)) (behind_parts d k u)
      ∙ ap (λ (l : List Stop). x ++ l) (sym (append_assoc y (before_of d k u) w))
      ∙ sym (append_assoc x (y ++ before_of d k u) w)

  -- WHAT IS AHEAD IS WHAT IS ENTERED UP TO THE END, AND THEN WHAT IS AHEAD OF IT
  pub ahead_parts : (d i k : ℕ) → d + k ≡ length ls → (k ≡ 0 → (i ≡ n) × (n < part_limit v stop fs d)) → (1 ≤ k → (frame_at fs d).row ≡ i) → (r : Renderer)
      → ahead v pg stop fs (length ls) n r ≡ before_end d k r ++ ahead v pg stop fs d (v.after i) (done_from v pg stop fs d k n r)
  unfolding ahead before_end done_from entered render_nodes
  ahead_parts d i zero e x y r =
      let q : length ls ≡ d = omega arith in
      let z = x refl in
      let g = subst (λ (j : ℕ). Nests v n (part_limit v stop fs j) j) q a.good in
      ap (λ (j : ℕ). ahead v pg stop fs j n r) q
      ∙ (rw (nodes_some v n (part_limit v stop fs d) (nests_after g z.1), z.0)
      (ap (λ (l : List Stop). stop_at n (listed_rows fs d) r ∷ l) (append_assoc (within v pg (node_at v n) n (listed_rows fs d) (wrap_at fs d) r) _ _)))
  ahead_parts d i (suc k) e x y r =
      let m = suc (d + k) in
      let q : length ls ≡ m = omega arith in
      let ns = nodes_at v n (part_limit v stop fs m) in
      let u = render_nodes pg ns (wrap_at fs m) r in
      let l = entered v pg ns n (listed_rows fs m) (wrap_at fs m) r in
      ap (λ (j : ℕ). ahead v pg stop fs j n r) q
      ∙ ap (λ (b : List Stop). l ++ b) (behind_parts d k u)
      ∙ sym (append_assoc l (before_of d k u) _)
      ∙ ap (λ (j : ℕ). (l ++ before_of d k u) ++ ahead v pg stop fs d (v.after j) (closed_to_row v pg stop fs d k u)) (y (omega arith))

  -- AND THE END IS THE SAME
  rest_from : (d k : ℕ) (s : Renderer) → rest v pg stop fs (suc (d + k)) s
      ≡ meaning v pg stop fs d (v.after (frame_at fs d).row) (closed_to_row v pg stop fs d k s)
  unfolding rest meaning closed_to_row
  rest_from d zero s = let e : d + 0 ≡ d = omega arith in ap (λ (k : ℕ). rest v pg stop fs (suc k) s) e
  rest_from d (suc k) s =
      let m = suc (d + k) in
      let e : d + suc k ≡ m = omega arith in
      ap (λ (j : ℕ). rest v pg stop fs (suc j) s) e
      ∙ rest_from d k (render_nodes pg (nodes_at v (v.after (frame_at fs m).row) (part_limit v stop fs m)) (wrap_at fs m) (closing v pg (frame_at fs m) s))

  pub ends_there : (d i k : ℕ) → d + k ≡ length ls → (k ≡ 0 → (i ≡ n) × (n < part_limit v stop fs d)) → (1 ≤ k → (frame_at fs d).row ≡ i) → (r : Renderer)
      → meaning v pg stop fs (length ls) n r ≡ meaning v pg stop fs d (v.after i) (done_from v pg stop fs d k n r)
  unfolding meaning done_from render_nodes
  ends_there d i zero e x y r =
      let q : length ls ≡ d = omega arith in
      let z = x refl in
      let g = subst (λ (j : ℕ). Nests v n (part_limit v stop fs j) j) q a.good in
      ap (λ (j : ℕ). meaning v pg stop fs j n r) q
      ∙ (rw (nodes_some v n (part_limit v stop fs d) (nests_after g z.1), z.0) refl)
  ends_there d i (suc k) e x y r =
      let m = suc (d + k) in
      let q : length ls ≡ m = omega arith in
      ap (λ (j : ℕ). meaning v pg stop fs j n r) q
      ∙ rest_from d k (render_nodes pg (nodes_at v n (part_limit v stop fs m)) (wrap_at fs m) r)
      ∙ ap (λ (j : ℕ). meaning v pg stop fs d (v.after j) (closed_to_row v pg stop fs d k
      (render_nodes pg (nodes_at v n (part_limit v stop fs m)) (wrap_at fs m) r))) (y (omega arith))

  module _ (d i : ℕ) (few : d ≤ length ls) (early : i ≤ n) (own : get_or (map (λ l. l.row) ls) d n ≡ i) where
    abbrev Up : Stop → Type 0
    Up e = Stands i d e

    -- ---- the row stands at its place: at a stop around which more rows are open
    stands_in : (m : ℕ) (q : Pen) → d < m → m ≤ length ls → (e : Stop) → Inner v (listed_rows fs m) q e → Up e
    stands_in m q h l e x =
        let is : e.listed ≡ take m ls ++ x.more = x.listed ∙ ap (λ (z : List OpenRow). z ++ x.more) (listed m l) in
        ap (λ (z : List OpenRow). get_or (map (λ f. f.row) z) d e.next) is ∙ row_place ls x.more m d e.next n h l ∙ own

    part_stands : (m j k c : ℕ) (w : Bool) (s : Renderer) → d < m → m ≤ length ls → Nests v j k c
        → AllStops Up (entered v pg (nodes_at v j k) j (listed_rows fs m) w s)
    part_stands m j k c w s h l g =
        all_map (Inner v (listed_rows fs m) s.pen) Up (stands_in m s.pen h l) _
        (entered_rows v pg (nodes_at v j k) j (listed_rows fs m) w s (kinds v g))

    size : (k : ℕ) → k ≤ length ls → length (listed_rows fs k) ≡ k
    size k l = let x = length-take k ls in ap length (listed k l) ∙ omega arith

    -- in the arguments of a `Call` at place m
    stands_own : (m : ℕ) (f : OpenRow) (q : Pen) → d ≤ m → m ≤ length ls → (m ≡ d → f.row ≡ i) → (e : Stop) → Inner v (inside (listed_rows fs m) f) q e → Up e
    stands_own m f q h l o e x = go (dec_lt d m)
      where
        is : e.listed ≡ listed_rows fs m ++ (f ∷ x.more)
        is = x.listed ∙ append_assoc (listed_rows fs m) (f ∷ []) x.more

        go : Dec (d < m) → Up e
        go (yes k) =
            ap (λ (z : List OpenRow). get_or (map (λ f. f.row) z) d e.next) (is ∙ ap (λ (z : List OpenRow). z ++ (f ∷ x.more)) (listed m l))
            ∙ row_place ls (f ∷ x.more) m d e.next n k l ∙ own
        go (no k) =
            let z : m ≡ d = omega arith in
            ap (λ (z : List OpenRow). get_or (map (λ f. f.row) z) d e.next) is
            ∙ own_place (listed_rows fs m) x.more f d e.next (size m l ∙ z) ∙ o z

    arguments_stand : (m : ℕ) → d ≤ m → m < length ls → (m ≡ d → (frame_at fs m).row ≡ i) → Under v stop fs (suc m) → (s : Renderer)
        → AllStops Up (arguments v pg (listed_rows fs m) (frame_at fs m) s)
    unfolding arguments Under part_end
    arguments_stand m h l o u s = go (eqb (v.kind f.row) CALL && f.first) refl
      where
        f : Frame
        f = frame_at fs m

        w : Bool
        w = group_wraps pg (nodes_at v (v.second f.row) (v.after f.row)) s

        g : OpenRow
        g = open_at f.row w (way_of f.made f.deeper)

        t : Renderer
        t = insert w (v.number2 f.row) s

        inner : List Stop
        inner = entered v pg (nodes_at v (v.second f.row) (v.after f.row)) (v.second f.row) (inside (listed_rows fs m) g) w t

        go : (b : Bool) → (eqb (v.kind f.row) CALL && f.first) ≡ b → AllStops Up (cond b inner [])
        go false e = all_none Up
        go true e =
            let y = both (eqb (v.kind f.row) CALL) f.first e in
            let k = subst (λ (c : Bool). Nests v (cond c (v.second f.row) (v.after f.row)) (v.after f.row) (suc m)) y.1 u.0.later in
            all_map (Inner v (inside (listed_rows fs m) g) t.pen) Up (stands_own m g t.pen h (omega arith) o) inner
            (entered_rows v pg (nodes_at v (v.second f.row) (v.after f.row)) (v.second f.row) (inside (listed_rows fs m) g) w t (kinds v k))

    before_stands : (k : ℕ) → suc (d + k) ≤ length ls → (frame_at fs d).row ≡ i → Under v stop fs (suc (d + k)) → (s : Renderer) → AllStops Up (before_of d k s)
    unfolding before_of Under
    before_stands zero h o u s =
        let e : d + 0 ≡ d = omega arith in
        arguments_stand d (omega arith) (omega arith) (λ q. o) (subst (λ (k : ℕ). Under v stop fs (suc k)) e u) s
    before_stands (suc k) h o u s =
        let m = suc (d + k) in
        let e : d + suc k ≡ m = omega arith in
        let y = subst (λ (j : ℕ). Under v stop fs (suc j)) e u in
        let f = frame_at fs m in
        all_append Up _ _ (arguments_stand m (omega arith) (omega arith) (λ q. absurd (omega arith)) y s)
        (all_append Up _ _
        (part_stands m (v.after f.row) (part_limit v stop fs m) m (wrap_at fs m) (closing v pg f s) (omega arith) (omega arith) y.0.after)
        (before_stands k (omega arith) o y.1 _))

    next_is : d ≡ length ls → n ≡ i
    next_is e = sym (next_there ls n d (omega arith)) ∙ own

    within_stands : (e : Stop) (q : Pen) → d ≡ length ls → Within v n (listed_rows fs d) q e → Up e
    within_stands e q z x =
        ap (λ (l : List OpenRow). get_or (map (λ f. f.row) l) d e.next) x.listed
        ∙ own_place (listed_rows fs d) x.more x.own d e.next (size d (omega arith))
        ∙ x.own_row
        ∙ next_is z

    -- up to its end
    pub before_end_stands : (k : ℕ) → d + k ≡ length ls → (k ≡ 0 → n < part_limit v stop fs d) → (1 ≤ k → (frame_at fs d).row ≡ i) → (r : Renderer)
        → AllStops Up (before_end d k r)
    unfolding before_end
    before_end_stands zero e x o r =
        let q : length ls ≡ d = omega arith in
        let g = subst (λ (j : ℕ). Nests v n (part_limit v stop fs j) j) q a.good in
        let w = wrap_at fs d in
        all_first Up _ _
        (next_there (listed_rows fs d) n d (let y = size d (omega arith) in omega arith) ∙ next_is (sym q))
        (all_map (Within v n (listed_rows fs d) r.pen) Up (λ y. within_stands y r.pen (sym q)) _
        (within_row v pg (node_at v n) n (listed_rows fs d) w r (row_kinds v g n (omega arith) (x refl))))
    before_end_stands (suc k) e x o r =
        let m = suc (d + k) in
        let q : length ls ≡ m = omega arith in
        let g = subst (λ (j : ℕ). Nests v n (part_limit v stop fs j) j) q a.good in
        all_append Up _ _ (part_stands m n (part_limit v stop fs m) m (wrap_at fs m) r (omega arith) (omega arith) g)
        (before_stands k (omega arith) (o (omega arith)) (subst (Under v stop fs) q a.under) _)

    -- ---- and behind it no more
    abbrev Gone : Stop → Type 0
    Gone e = Stands i d e → ⊥

    gone : (es : List OpenRow) (m j : ℕ) → length es ≤ d → i < m → (e : Stop) → Among v es m j e → Gone e
    gone es m j h l e x y = let z = beyond v es m j d e x h in omega arith

    part_gone : (es : List OpenRow) (m j c : ℕ) (w : Bool) (s : Renderer) → length es ≤ d → i < m → Nests v m j c
        → AllStops Gone (entered v pg (nodes_at v m j) m es w s)
    part_gone es m j c w s h l g = all_map (Among v es m j) Gone (gone es m j h l) _ (all_among v pg g es w s)

    arguments_gone : (k : ℕ) → k < d → Under v stop fs (suc k) → (s : Renderer) → AllStops Gone (arguments v pg (listed_rows fs k) (frame_at fs k) s)
    unfolding arguments Under part_end
    arguments_gone k h u s = go (eqb (v.kind f.row) CALL && f.first) refl
      where
        f : Frame
        f = frame_at fs k

        w : Bool
        w = group_wraps pg (nodes_at v (v.second f.row) (v.after f.row)) s

        g : OpenRow
        g = open_at f.row w (way_of f.made f.deeper)

        inner : List Stop
        inner = entered v pg (nodes_at v (v.second f.row) (v.after f.row)) (v.second f.row) (inside (listed_rows fs k) g) w (insert w (v.number2 f.row) s)

        go : (b : Bool) → (eqb (v.kind f.row) CALL && f.first) ≡ b → AllStops Gone (cond b inner [])
        go false e = all_none Gone
        go true e =
            let y = both (eqb (v.kind f.row) CALL) f.first e in
            let n2 = subst (λ (c : Bool). Nests v (cond c (v.second f.row) (v.after f.row)) (v.after f.row) (suc k)) y.1 u.0.later in
            let z = (level v pg stop n lo fs ls p a holds listed can rises k (omega arith)).part y.1 in
            let q = size k (omega arith) in
            let r = length-append (listed_rows fs k) (g ∷ []) in
            part_gone (inside (listed_rows fs k) g) (v.second f.row) (v.after f.row) (suc k) w _ (omega arith) (omega arith) n2

    behind_gone : (k : ℕ) → k ≤ d → Under v stop fs k → (s : Renderer) → AllStops Gone (behind v pg stop fs k s)
    unfolding behind Under
    behind_gone zero h u s = all_none Gone
    behind_gone (suc k) h u s =
        let f = frame_at fs k in
        let z = (level v pg stop n lo fs ls p a holds listed can rises k (omega arith)).on in
        let q = size k (omega arith) in
        all_append Gone _ _ (arguments_gone k (omega arith) u s)
        (all_append Gone _ _
        (part_gone (listed_rows fs k) (v.after f.row) (part_limit v stop fs k) k (wrap_at fs k) (closing v pg f s) (omega arith) (omega arith) u.0.after)
        (behind_gone k (omega arith) u.1 _))

    fewer : (m k : ℕ) → k ≤ m → Under v stop fs m → Under v stop fs k
    unfolding Under
    fewer zero k h u = let e : 0 ≡ k = omega arith in subst (Under v stop fs) e tt
    fewer (suc m) k h u = go (dec_lt m k) (λ l. fewer m k l u.1)
      where
        go : Dec (m < k) → (k ≤ m → Under v stop fs k) → Under v stop fs k
        go (yes l) f = let e : suc m ≡ k = omega arith in subst (Under v stop fs) e u
        go (no l) f = f (omega arith)

    pub behind_row : (k : ℕ) → d + k ≡ length ls → (k ≡ 0 → n < part_limit v stop fs d) → (1 ≤ k → (frame_at fs d).row ≡ i)
        → (i < v.after i) × Nests v (v.after i) (part_limit v stop fs d) d
    unfolding Under
    behind_row zero e x o =
        let q : length ls ≡ d = omega arith in
        let g = subst (λ (j : ℕ). Nests v n (part_limit v stop fs j) j) q a.good in
        let z = next_is (sym q) in (
          subst (λ (j : ℕ). j < v.after j) z (nests_after g (x refl)).up,
          subst (λ (j : ℕ). Nests v (v.after j) (part_limit v stop fs d) d) z (nests_rest g (x refl)),
        )
    behind_row (suc k) e x o =
        let l = level v pg stop n lo fs ls p a holds listed can rises d (omega arith) in
        let on = l.on in
        let up = l.up in
        let z = o (omega arith) in (
          subst (λ (j : ℕ). j < v.after j) z (omega arith),
          subst (λ (j : ℕ). Nests v (v.after j) (part_limit v stop fs d) d) z (fewer (length ls) (suc d) (omega arith) a.under).0.after,
        )

    pub ahead_gone : (k : ℕ) → d + k ≡ length ls → (k ≡ 0 → n < part_limit v stop fs d) → (1 ≤ k → (frame_at fs d).row ≡ i) → (t : Renderer)
        → AllStops Gone (ahead v pg stop fs d (v.after i) t)
    unfolding ahead
    ahead_gone k e x o t =
        let y = behind_row k e x o in
        let q = size d few in
        all_append Gone _ _
        (part_gone (listed_rows fs d) (v.after i) (part_limit v stop fs d) d (wrap_at fs d) t (omega arith) y.0 y.1)
        (behind_gone d (omega arith) (fewer (length ls) d few a.under) _)
