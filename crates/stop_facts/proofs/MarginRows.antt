-- The margin from a stop on: the pen that closing the listed rows from one down would leave is kept at each row that is entered while this one is
-- open, and is what is left when it is done.
-- Assumes nothing.
use mathlib.Core.Path.{◌≡◌, refl, ap, sym, ◌∙◌, subst}
use mathlib.Core.Bool.{Bool, true, false, cond, ◌&&◌}
use mathlib.Core.List.{List, [], ◌∷◌, ◌++◌, map}
use Prim.Native.Nat.{ℕ, zero, suc, ◌+◌, ◌-◌, ◌≤◌, ◌<◌}
use native.Mathlib.Omega.{arith}
use native.Mathlib.Decide.{dec_lt}
use lib.Dec.{ltb, eqb}
use lib.ListN.{length, take, drop, get_or, length-append, length-map, length-take}
use lib.Seq.{get_or-append-add}
use borrow.Author.Tests.{ltb-true, eqb-true, ne_eqb}
use Rattle.laws.proofs.Booleans.{both, true_false}
use Rattle.rows.specs.Kinds.{INDENT, INDENT_NEXT, CALL}
use Rattle.rows.specs.Node.{Node, group}
use Rattle.rows.specs.View.{View, nodes_at, node_at}
use Rattle.rows.specs.Nesting.{Nests}
use Rattle.renderer_rules.specs.declared.Frame.{Frame}
use Rattle.renderer_rules.specs.declared.Pen.{Pen}
use Rattle.renderer_rules.specs.Renderer.{Page, Renderer, insert, group_wraps, render_node, render_nodes}
use Rattle.renderer_rules.specs.Frames.{frame_at, part_end, part_limit, wrap_at, Under, At}
use Rattle.renderer_rules.specs.Machine.{closes, closing}
use Rattle.renderer_rules.specs.Stops.{OpenRow, way_of, is_deeper, open_at, Stop, inside, listed_rows, entered, arguments, behind, ahead}
use Rattle.renderer_rules.specs.Drift.{enclosing, around, AllStops}
use Rattle.renderer_rules.specs.Listed.{resumed, same_rows, can_close, closed_pen, closed_all, can_close_all}
use Rattle.renderer_rules.proofs.Closable.{PenKept, row_kept}
use Rattle.renderer_rules.proofs.Drift.{rows_of, Among, all_among}
use Rattle.renderer_rules.proofs.Margin.{render_kept, renders_kept}
use Rattle.renderer_rules.proofs.Resumed.{Holds}
use Rattle.stop_facts.specs.Margin.{closed_to_row, done_from}
use Rattle.stop_facts.proofs.EachStop.{all_none, all_append, all_map, all_both}
use Rattle.stop_facts.proofs.MarginPens.{kept_here, kept_on, around_kept}
use Rattle.stop_facts.proofs.MarginEntry.{kinds, entered_rows, Inner, deeper, outer, further, deeper_by}

-- ---- the end of a row, with what it renders before
module _ (v : View) (pg : Page) where
  -- of a `Call` in its callee the arguments
  shown : Frame → Renderer → Renderer
  shown f s =
      cond (eqb (v.kind f.row) CALL && f.first)
      (render_node pg (group (v.number2 f.row) (nodes_at v (v.second f.row) (v.after f.row))) true s)
      s

  closing_pen : (f : Frame) (s : Renderer) (k : ℕ) → v.kind f.row ≡ k → (closing v pg f s).pen ≡ closes (v.kind f.row) f.wrap f.deeper (shown f s).pen
  unfolding closing shown
  closing_pen f s zero e = rw e
  closing_pen f s (suc zero) e = rw e
  closing_pen f s (suc (suc zero)) e = rw e
  closing_pen f s (suc (suc (suc zero))) e = rw e
  closing_pen f s (suc (suc (suc (suc zero)))) e = rw e
  closing_pen f s (suc (suc (suc (suc (suc zero))))) e = rw e
  closing_pen f s (suc (suc (suc (suc (suc (suc zero)))))) e = rw e
  closing_pen f s (suc (suc (suc (suc (suc (suc (suc zero))))))) e = rw e
  closing_pen f s (suc (suc (suc (suc (suc (suc (suc (suc zero)))))))) e = rw e
  closing_pen f s (suc (suc (suc (suc (suc (suc (suc (suc (suc zero))))))))) e = rw e
  closing_pen f s (suc (suc (suc (suc (suc (suc (suc (suc (suc (suc zero)))))))))) e = rw e
  closing_pen f s (suc (suc (suc (suc (suc (suc (suc (suc (suc (suc (suc zero))))))))))) e = rw e
  closing_pen f s (suc (suc (suc (suc (suc (suc (suc (suc (suc (suc (suc (suc k)))))))))))) e =
      rw (
        ne_eqb (v.kind f.row) INDENT (λ q. omega arith),
        ne_eqb (v.kind f.row) INDENT_NEXT (λ q. omega arith),
        ne_eqb (v.kind f.row) CALL (λ q. omega arith),
      )
      (rw e)

  shown_kept : (f : Frame) (s : Renderer) → PenKept s.pen (shown f s).pen
  unfolding shown
  shown_kept f s = go (eqb (v.kind f.row) CALL && f.first)
    where
      node : Node
      node = group (v.number2 f.row) (nodes_at v (v.second f.row) (v.after f.row))

      go : (b : Bool) → PenKept s.pen (cond b (render_node pg node true s) s).pen
      go true = let x = render_kept node pg true s in record { sum = x.sum; low = x.low }
      go false = kept_here s.pen

  closing_kept : (f : Frame) (s : Renderer) (x : Pen) → PenKept x s.pen → can_close (v.kind f.row) f.wrap f.deeper x ≡ true
      → PenKept (closes (v.kind f.row) f.wrap f.deeper x) (closing v pg f s).pen
  closing_kept f s x k c =
      subst (PenKept (closes (v.kind f.row) f.wrap f.deeper x)) (sym (closing_pen f s (v.kind f.row) refl))
      (row_kept (v.kind f.row) f.wrap f.deeper x (shown f s).pen (kept_on k (shown_kept f s)) c).1

-- ---- listed rows: they rise from row lo on, and each encloses row n
unfoldable pub Rising : View → ℕ → ℕ → List OpenRow → Type 0
Rising v n lo [] = Unit {0}
Rising v n lo (l ∷ ls) = (lo ≤ l.row) × (l.row < n) × (n < v.after l.row) × Rising v n (suc l.row) ls

pub rising : (v : View) (n m lo i : ℕ) (ls : List OpenRow) → lo ≤ i → i + m ≤ n → same_rows ls (enclosing m v i n) ≡ true → Rising v n lo ls
unfolding Rising same_rows enclosing
rising v n m lo i [] h t e = tt
rising v n zero lo i (l ∷ ls) h t e = true_false (sym e)
rising v n (suc m) lo i (l ∷ ls) h t e =
    go (ltb n (v.after i)) refl e (λ k q. rising v n m k (suc i) ls q (omega arith)) (rising v n m lo (suc i) (l ∷ ls) (omega arith) (omega arith))
  where
    go : (b : Bool) → ltb n (v.after i) ≡ b → same_rows (l ∷ ls) (cond b (i ∷ enclosing m v (suc i) n) (enclosing m v (suc i) n)) ≡ true
        → ((k : ℕ) → k ≤ suc i → same_rows ls (enclosing m v (suc i) n) ≡ true → Rising v n k ls)
        → (same_rows (l ∷ ls) (enclosing m v (suc i) n) ≡ true → Rising v n lo (l ∷ ls))
        → Rising v n lo (l ∷ ls)
    go true x f one all =
        let y = both (eqb l.row i) (same_rows ls (enclosing m v (suc i) n)) f in
        let q = eqb-true l.row i y.0 in
        let a = ltb-true n (v.after i) x in
        (omega arith, omega arith, subst (λ (k : ℕ). n < v.after k) (sym q) a, one (suc l.row) (omega arith) y.1)
    go false x f one all = all f

-- rows that enclose one lie from where they are looked for
enclosing_low : (v : View) (k m n j x : ℕ) → j < length (enclosing k v m n) → m ≤ get_or (enclosing k v m n) j x
unfolding enclosing
enclosing_low v zero m n j x h = absurd (omega arith)
enclosing_low v (suc k) m n j x h = go (ltb n (v.after m)) j h (λ i q. enclosing_low v k (suc m) n i x q)
  where
    go : (b : Bool) (j : ℕ) → j < length (cond b (m ∷ enclosing k v (suc m) n) (enclosing k v (suc m) n))
        → ((i : ℕ) → i < length (enclosing k v (suc m) n) → suc m ≤ get_or (enclosing k v (suc m) n) i x)
        → m ≤ get_or (cond b (m ∷ enclosing k v (suc m) n) (enclosing k v (suc m) n)) j x
    go true zero h f = omega arith
    go true (suc j) h f = let y = f j (omega arith) in omega arith
    go false j h f = let y = f j h in omega arith

-- the next row, where no more are listed
pub next_there : (ls : List OpenRow) (n d : ℕ) → length ls ≤ d → get_or (map (λ l. l.row) ls) d n ≡ n
next_there [] n zero h = refl
next_there [] n (suc d) h = refl
next_there (l ∷ ls) n zero h = absurd (omega arith)
next_there (l ∷ ls) n (suc d) h = next_there ls n d (omega arith)

-- beyond the rows around a range, a row of it is listed or next
pub beyond : (v : View) (es : List OpenRow) (m j d : ℕ) (e : Stop) → Among v es m j e → length es ≤ d → m ≤ get_or (map (λ l. l.row) e.listed) d e.next
unfolding rows_of
beyond v es m j d e a h = go (dec_lt d (length e.listed))
  where
    go : Dec (d < length e.listed) → m ≤ get_or (map (λ l. l.row) e.listed) d e.next
    go (no l) = let x = next_there e.listed e.next d (omega arith) in let y = a.from in omega arith
    go (yes l) =
        let are = a.listed_are in
        let k = d - length es in
        let c : length e.listed ≡ length es + length (around v m e.next) =
        sym (length-map e.listed (λ l. l.row))
        ∙ ap length are
        ∙ length-append (rows_of es) (around v m e.next)
        ∙ ap (λ (x : ℕ). x + length (around v m e.next)) (length-map es (λ l. l.row))
        in
        let at : d ≡ length (rows_of es) + k = omega (arith, length-map es (λ (l : OpenRow). l.row)) in
        let is : get_or (map (λ l. l.row) e.listed) d e.next ≡ get_or (around v m e.next) k e.next =
        ap (λ (x : List ℕ). get_or x d e.next) are
        ∙ ap (λ (x : ℕ). get_or (rows_of es ++ around v m e.next) x e.next) at
        ∙ get_or-append-add (rows_of es) (around v m e.next) k e.next
        in
        subst (λ (x : ℕ). m ≤ x) (sym is) (enclosing_low v (e.next - m) m e.next k e.next (omega arith))

-- ---- the k-th listed row: f is it, `all` is left when it is closed too, where `inner` is left of the rows within
pub record Level (v : View) (n : ℕ) (f : Frame) (all inner : Pen) : Type 0 where
  pub is : all ≡ closes (v.kind f.row) f.wrap f.deeper inner
  pub can : can_close (v.kind f.row) f.wrap f.deeper inner ≡ true
  pub up : f.row < n
  pub on : n < v.after f.row
  pub part : f.first ≡ true → n < v.second f.row

level_of : (v : View) (n lo : ℕ) (l : OpenRow) (ls : List OpenRow) (p : Pen) → can_close_all v (l ∷ ls) p ≡ true → Rising v n lo (l ∷ ls)
    → Level v n (resumed v n l) (closed_all v (l ∷ ls) p) (closed_all v ls p)
unfolding can_close_all closed_all Rising
level_of v n lo l ls p c r = record {
  is = refl;
  can = (both (can_close_all v ls p) (can_close (v.kind l.row) l.wraps (is_deeper l.way) (closed_all v ls p)) c).1;
  up = r.1;
  on = r.2;
  part = λ e. ltb-true n (v.second l.row) (both _ (ltb n (v.second l.row)) e).1;
}

pub level_at : (v : View) (n : ℕ) (fs : List Frame) (p : Pen) (d lo : ℕ) (ls : List OpenRow) → Holds v n fs d ls → can_close_all v ls p ≡ true
    → Rising v n lo ls
    → (k : ℕ) → k < length ls → Level v n (frame_at fs (d + k)) (closed_all v (drop k ls) p) (closed_all v (drop (suc k) ls) p)
unfolding Holds Rising can_close_all
level_at v n fs p d lo [] h c r k l = absurd (omega arith)
level_at v n fs p d lo (x ∷ ls) h c r zero l =
    let e : d + 0 ≡ d = omega arith in
    subst (λ (f : Frame). Level v n f (closed_all v (x ∷ ls) p) (closed_all v ls p)) (sym (ap (frame_at fs) e ∙ h.0)) (level_of v n lo x ls p c r)
level_at v n fs p d lo (x ∷ ls) h c r (suc k) l =
    let e : suc d + k ≡ d + suc k = omega arith in
    let y = (both (can_close_all v ls p) (can_close (v.kind x.row) x.wraps (is_deeper x.way) (closed_all v ls p)) c).0 in
    subst (λ (j : ℕ). Level v n (frame_at fs j) (closed_all v (drop k ls) p) (closed_all v (drop (suc k) ls) p)) e
    (level_at v n fs p (suc d) (suc x.row) ls h.1 y r.3 k (omega arith))

-- ---- from a state on, whose listed rows ls are open in the frames, row n next, with the pen p
module _ (v : View) (pg : Page) (stop n lo : ℕ) (fs : List Frame) (ls : List OpenRow) (p : Pen) (a : At v stop fs (length ls) n) (holds : Holds v n fs 0 ls)
    (listed : (k : ℕ) → k ≤ length ls → listed_rows fs k ≡ take k ls) (can : can_close_all v ls p ≡ true) (rises : Rising v n lo ls) where
  -- what is left if the rows from the k-th on are closed
  abbrev pub down : ℕ → Pen
  down k = closed_all v (drop k ls) p

  pub level : (k : ℕ) → k < length ls → Level v n (frame_at fs k) (down k) (down (suc k))
  level k h =
      let e : 0 + k ≡ k = omega arith in
      subst (λ (j : ℕ). Level v n (frame_at fs j) (down k) (down (suc k))) e (level_at v n fs p 0 lo ls holds can rises k h)

  -- the end of the k-th
  pub end_kept : (k : ℕ) → k < length ls → (s : Renderer) → PenKept (down (suc k)) s.pen → PenKept (down k) (closing v pg (frame_at fs k) s).pen
  end_kept k h s x =
      let l = level k h in
      subst (λ (q : Pen). PenKept q (closing v pg (frame_at fs k) s).pen) (sym l.is) (closing_kept v pg (frame_at fs k) s (down (suc k)) x l.can)

  pub renders_on : (q : Pen) (i j : ℕ) (w : Bool) (s : Renderer) → PenKept q s.pen → PenKept q (render_nodes pg (nodes_at v i j) w s).pen
  renders_on q i j w s x = let y = renders_kept (nodes_at v i j) pg w s in kept_on x (record { sum = y.sum; low = y.low })

  -- ---- row i, which is listed behind d others, or is next
  module _ (d i : ℕ) (few : d ≤ length ls) (early : i ≤ n) where
    -- a stop that still lists it
    pub record Lists (e : Stop) : Type 0 where
      pub deep : d < length e.listed
      pub row : get_or (map (λ l. l.row) e.listed) d e.next ≡ i

    abbrev pub Stays : Stop → Type 0
    Stays e = Lists e → PenKept (down d) (closed_all v (drop d e.listed) e.state.pen)

    -- at a stop in a part around which k rows are open
    pub stays : (k : ℕ) → d ≤ k → k ≤ length ls → (e : Stop) → Inner v (listed_rows fs k) (down k) e
        → PenKept (down d) (closed_all v (drop d e.listed) e.state.pen)
    stays k h l e x =
        let is : e.listed ≡ take k ls ++ x.more = x.listed ∙ ap (λ (z : List OpenRow). z ++ x.more) (listed k l) in
        subst (λ (z : List OpenRow). PenKept (down d) (closed_all v (drop d z) e.state.pen)) (sym is)
        (around_kept v d k ls x.more p e.state.pen h l can x.kept)

    pub size : (k : ℕ) → k ≤ length ls → length (listed_rows fs k) ≡ k
    size k l = let x = length-take k ls in ap length (listed k l) ∙ omega arith

    -- beyond the row's end it isn't listed any more
    past : (es : List OpenRow) (m j : ℕ) (e : Stop) → Among v es m j e → length es ≤ d → n < m → Lists e → ⊥
    past es m j e x h l y = let z = beyond v es m j d e x h in let w = y.row in omega arith

    -- rows behind the k-th, in the part around it
    later_stays : (k : ℕ) → k < length ls → (e : Stop)
        → Inner v (listed_rows fs k) (down k) e × Among v (listed_rows fs k) (v.after (frame_at fs k).row) (part_limit v stop fs k) e
        → Stays e
    later_stays k h e x = go (dec_lt k d)
      where
        go : Dec (k < d) → Stays e
        go (no q) y = stays k (omega arith) (omega arith) e x.0
        go (yes q) y =
            let l = (level k h).on in
            let z = size k (omega arith) in
            absurd (past (listed_rows fs k) _ _ e x.1 (omega arith) l y)

    -- rows of the arguments of a `Call` in its callee
    back : (k : ℕ) (f : Frame) (w : Bool) (q : Pen) → v.kind f.row ≡ CALL → Level v n f (down k) (down (suc k)) → PenKept (down (suc k)) q → (x : Pen)
        → PenKept q x
        → PenKept (down k) (closed_pen v (open_at f.row w (way_of f.made f.deeper)) x)
    back k f w q c l y x z =
        let r = (row_kept (v.kind f.row) f.wrap f.deeper (down (suc k)) x (kept_on y z) l.can).1 in
        let e : closes (v.kind f.row) f.wrap f.deeper x ≡ closed_pen v (open_at f.row w (way_of f.made f.deeper)) x =
        rw (c, deeper_by f.made f.deeper)
        in
        subst (λ (u : Pen). PenKept u (closed_pen v (open_at f.row w (way_of f.made f.deeper)) x)) (sym l.is)
        (subst (PenKept (closes (v.kind f.row) f.wrap f.deeper (down (suc k)))) e r)

    own_stays : (k : ℕ) → k < length ls → (w : Bool) (q : Pen) → v.kind (frame_at fs k).row ≡ CALL → (frame_at fs k).first ≡ true → PenKept (down (suc k)) q
        → (e : Stop)
        → Inner v (inside (listed_rows fs k) (open_at (frame_at fs k).row w (way_of (frame_at fs k).made (frame_at fs k).deeper))) q e
        × Among v (inside (listed_rows fs k) (open_at (frame_at fs k).row w (way_of (frame_at fs k).made (frame_at fs k).deeper)))
        (v.second (frame_at fs k).row) (v.after (frame_at fs k).row) e
        → Stays e
    own_stays k h w q c b y e x = go (dec_lt k d)
      where
        f : Frame
        f = frame_at fs k

        o : OpenRow
        o = open_at f.row w (way_of f.made f.deeper)

        go : Dec (k < d) → Stays e
        go (no l) z =
            stays k (omega arith) (omega arith) e
            (outer v f.row (listed_rows fs k) (down k) e
            (deeper v f.row (listed_rows fs k) o (down k) q refl (back k f w q c (level k h) y) e x.0))
        go (yes l) z =
            let u = (level k h).part b in
            let s = size k (omega arith) in
            let t = length-append (listed_rows fs k) (o ∷ []) in
            absurd (past (inside (listed_rows fs k) o) _ _ e x.1 (omega arith) u z)

    arguments_stay : (k : ℕ) → k < length ls → Under v stop fs (suc k) → (s : Renderer) → PenKept (down (suc k)) s.pen
        → AllStops Stays (arguments v pg (listed_rows fs k) (frame_at fs k) s)
    unfolding arguments Under part_end insert
    arguments_stay k h u s x = go (eqb (v.kind f.row) CALL && f.first) refl
      where
        f : Frame
        f = frame_at fs k

        w : Bool
        w = group_wraps pg (nodes_at v (v.second f.row) (v.after f.row)) s

        es : List OpenRow
        es = inside (listed_rows fs k) (open_at f.row w (way_of f.made f.deeper))

        within : List Stop
        within = entered v pg (nodes_at v (v.second f.row) (v.after f.row)) (v.second f.row) es w (insert w (v.number2 f.row) s)

        go : (b : Bool) → (eqb (v.kind f.row) CALL && f.first) ≡ b → AllStops Stays (cond b within [])
        go false e = all_none Stays
        go true e =
            let y = both (eqb (v.kind f.row) CALL) f.first e in
            let g = subst (λ (c : Bool). Nests v (cond c (v.second f.row) (v.after f.row)) (v.after f.row) (suc k)) y.1 u.0.later in
            all_map _ Stays (own_stays k h w s.pen (eqb-true (v.kind f.row) CALL y.0) y.1 x) within
            (all_both (Inner v es s.pen) (Among v es (v.second f.row) (v.after f.row)) within
            (entered_rows v pg (nodes_at v (v.second f.row) (v.after f.row)) (v.second f.row) es w (insert w (v.number2 f.row) s) (kinds v g))
            (all_among v pg g es w (insert w (v.number2 f.row) s)))

    behind_stay : (k : ℕ) → k ≤ length ls → Under v stop fs k → (s : Renderer) → PenKept (down k) s.pen → AllStops Stays (behind v pg stop fs k s)
    unfolding behind Under
    behind_stay zero h u s x = all_none Stays
    behind_stay (suc k) h u s x =
        let f = frame_at fs k in
        let m = v.after f.row in
        let j = part_limit v stop fs k in
        let w = wrap_at fs k in
        let es = listed_rows fs k in
        let t = closing v pg f s in
        let y = end_kept k (omega arith) s x in
        let g = u.0.after in
        all_append Stays _ _ (arguments_stay k (omega arith) u s x)
        (all_append Stays _ _
        (all_map _ Stays (later_stays k (omega arith)) _
        (all_both (Inner v es (down k)) (Among v es m j) (entered v pg (nodes_at v m j) m es w t)
        (all_map (Inner v es t.pen) (Inner v es (down k)) (further v es (down k) t.pen y) _ (entered_rows v pg (nodes_at v m j) m es w t (kinds v g)))
        (all_among v pg g es w t)))
        (behind_stay k (omega arith) u.1 (render_nodes pg (nodes_at v m j) w t) (renders_on (down k) m j w t y)))

    -- EACH ROW THAT IS ENTERED WHILE THE ROW IS OPEN
    pub ahead_stay : (r : Renderer) → PenKept (down (length ls)) r.pen → AllStops Stays (ahead v pg stop fs (length ls) n r)
    unfolding ahead
    ahead_stay r x =
        let j = part_limit v stop fs (length ls) in
        let w = wrap_at fs (length ls) in
        let es = listed_rows fs (length ls) in
        all_append Stays _ _
        (all_map (Inner v es r.pen) Stays
        (λ e y w. stays (length ls) few (omega arith) e (further v es (down (length ls)) r.pen x e y)) _
        (entered_rows v pg (nodes_at v n j) n es w r (kinds v a.good)))
        (behind_stay (length ls) (omega arith) a.under (render_nodes pg (nodes_at v n j) w r) (renders_on (down (length ls)) n j w r x))

    -- AND WHEN IT IS DONE
    closed_to_kept : (k : ℕ) → suc (d + k) ≤ length ls → (s : Renderer) → PenKept (down (suc (d + k))) s.pen
        → PenKept (down d) (closed_to_row v pg stop fs d k s).pen
    unfolding closed_to_row
    closed_to_kept zero h s x =
        let e : d + 0 ≡ d = omega arith in end_kept d (omega arith) s (subst (λ (k : ℕ). PenKept (down (suc k)) s.pen) e x)
    closed_to_kept (suc k) h s x =
        let m = suc (d + k) in
        let e : d + suc k ≡ m = omega arith in
        let y = subst (λ (j : ℕ). PenKept (down (suc j)) s.pen) e x in
        let t = closing v pg (frame_at fs m) s in
        closed_to_kept k (omega arith)
        (render_nodes pg (nodes_at v (v.after (frame_at fs m).row) (part_limit v stop fs m)) (wrap_at fs m) t)
        (renders_on (down m) (v.after (frame_at fs m).row) (part_limit v stop fs m) (wrap_at fs m) t (end_kept m (omega arith) s y))

    pub done_kept : (k : ℕ) → d + k ≡ length ls → (r : Renderer) → PenKept (down (length ls)) r.pen → PenKept (down d) (done_from v pg stop fs d k n r).pen
    unfolding done_from
    done_kept zero e r x =
        let y = render_kept (node_at v n) pg (wrap_at fs d) r in
        let q : length ls ≡ d = omega arith in
        subst (λ (k : ℕ). PenKept (down k) (render_node pg (node_at v n) (wrap_at fs d) r).pen) q (kept_on x (record { sum = y.sum; low = y.low }))
    done_kept (suc k) e r x =
        let m = suc (d + k) in
        let q : length ls ≡ m = omega arith in
        closed_to_kept k (omega arith) (render_nodes pg (nodes_at v n (part_limit v stop fs m)) (wrap_at fs m) r)
        (renders_on (down m) n (part_limit v stop fs m) (wrap_at fs m) r (subst (λ (j : ℕ). PenKept (down j) r.pen) q x))
