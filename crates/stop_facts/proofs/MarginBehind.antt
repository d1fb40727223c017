-- Right behind a row: where its end is reached and the next row stands behind as many listed ones as it did, the pen is what the row's end left.
-- Assumes nothing.
use mathlib.Core.Path.{◌≡◌, refl, ap, sym, ◌∙◌, subst}
use mathlib.Core.Bool.{Bool, true, false, cond, ◌&&◌}
use mathlib.Core.List.{List, [], ◌∷◌, ◌++◌, append-nil}
use Prim.Native.Nat.{ℕ, zero, suc, ◌≤◌, ◌<◌}
use native.Mathlib.Omega.{arith}
use native.Mathlib.Decide.{dec_lt}
use lib.Dec.{eqb}
use lib.ListN.{length, take, drop, length-append, length-map}
use lib.Seq.{drop-append_seam}
use Rattle.laws.proofs.Booleans.{both}
use Rattle.rows.specs.Kinds.{CALL}
use Rattle.rows.specs.View.{View, nodes_at}
use Rattle.rows.specs.Nesting.{Nests}
use Rattle.rows.proofs.Nested.{nests_le}
use Rattle.renderer_rules.specs.declared.Frame.{Frame}
use Rattle.renderer_rules.specs.declared.Pen.{Pen}
use Rattle.renderer_rules.specs.Renderer.{Page, Renderer, insert, group_wraps, render_nodes}
use Rattle.renderer_rules.specs.Frames.{frame_at, part_end, part_limit, wrap_at, Under, At}
use Rattle.renderer_rules.specs.Machine.{closing}
use Rattle.renderer_rules.specs.Stops.{OpenRow, way_of, open_at, Stop, inside, listed_rows, entered, arguments, behind, ahead, rest, meaning}
use Rattle.renderer_rules.specs.Drift.{around, AllStops}
use Rattle.renderer_rules.specs.Listed.{closed_all, can_close_all}
use Rattle.renderer_rules.proofs.Closable.{PenKept}
use Rattle.renderer_rules.proofs.Drift.{rows_of, around_none, Among, all_among}
use Rattle.renderer_rules.proofs.Resumed.{Holds}
use Rattle.stop_facts.proofs.EachStop.{all_none, all_append, all_map, all_both}
use Rattle.stop_facts.proofs.MarginPens.{kept_on}
use Rattle.stop_facts.proofs.MarginEntry.{kinds, entered_rows, Inner, further}
use Rattle.stop_facts.proofs.MarginRows.{Rising, down, end_kept, renders_on, stays, size}

-- at the first row of a range those around it are listed and no more
first_lists : (v : View) (es : List OpenRow) (m j : ℕ) (e : Stop) → Among v es m j e → e.next ≡ m → length e.listed ≡ length es
unfolding rows_of
first_lists v es m j e a h =
    sym (length-map e.listed (λ l. l.row))
    ∙ ap length (a.listed_are ∙ ap (λ (k : ℕ). rows_of es ++ around v m k) h ∙ ap (λ (l : List ℕ). rows_of es ++ l) (around_none v m)
    ∙ append-nil (rows_of es))
    ∙ length-map es (λ l. l.row)

module _ (v : View) (pg : Page) (stop n lo : ℕ) (fs : List Frame) (ls : List OpenRow) (p : Pen) (a : At v stop fs (length ls) n) (holds : Holds v n fs 0 ls)
    (listed : (k : ℕ) → k ≤ length ls → listed_rows fs k ≡ take k ls) (can : can_close_all v ls p ≡ true) (rises : Rising v n lo ls)
    (d i : ℕ) (few : d ≤ length ls) (early : i ≤ n) (ends : (k : ℕ) → k < d → v.after i ≤ part_end v (frame_at fs k)) where
  abbrev left_at : ℕ → Pen
  left_at k = down v pg stop n lo fs ls p a holds listed can rises k

  -- a stop right behind row i
  pub record Follows (e : Stop) : Type 0 where
    pub next : e.next ≡ v.after i
    pub deep : length e.listed ≡ d

  abbrev pub Left : Stop → Type 0
  Left e = Follows e → PenKept (left_at d) (closed_all v (drop d e.listed) e.state.pen)

  later_left : (k : ℕ) → k < length ls → Under v stop fs (suc k) → (e : Stop)
      → Inner v (listed_rows fs k) (left_at k) e × Among v (listed_rows fs k) (v.after (frame_at fs k).row) (part_limit v stop fs k) e
      → Left e
  unfolding Under
  later_left k h u e x y = go (dec_lt k d)
    where
      go : Dec (k < d) → PenKept (left_at d) (closed_all v (drop d e.listed) e.state.pen)
      go (no q) = stays v pg stop n lo fs ls p a holds listed can rises d i few early k (omega arith) (omega arith) e x.0
      go (yes q) =
          let l = ends k q in
          let g = nests_le u.0.later in
          let f = x.1.from in
          let w = y.next in
          let z = first_lists v (listed_rows fs k) _ _ e x.1 (omega arith) in
          let s = size v pg stop n lo fs ls p a holds listed can rises d i few early k (omega arith) in
          let t = y.deep in
          absurd (omega arith)

  own_left : (k : ℕ) (f : OpenRow) (j m : ℕ) (q : Pen) → k < d → v.after i ≤ m → PenKept (left_at (suc k)) q → (e : Stop)
      → Inner v (inside (listed_rows fs k) f) q e × Among v (inside (listed_rows fs k) f) m j e
      → Left e
  own_left k f j m q h l b e x y =
      let from = x.1.from in
      let w = y.next in
      let z = first_lists v (inside (listed_rows fs k) f) _ _ e x.1 (omega arith) in
      let s = size v pg stop n lo fs ls p a holds listed can rises d i few early k (omega arith) in
      let t = y.deep in
      let c = length-append (listed_rows fs k) (f ∷ []) in
      let at : d ≡ length (inside (listed_rows fs k) f) = omega arith in
      let more : drop d e.listed ≡ x.0.more =
      ap (drop d) x.0.listed
      ∙ ap (λ (j : ℕ). drop j (inside (listed_rows fs k) f ++ x.0.more)) at
      ∙ drop-append_seam (inside (listed_rows fs k) f) x.0.more
      in
      let is : suc k ≡ d = omega arith in
      subst (λ (l : List OpenRow). PenKept (left_at d) (closed_all v l e.state.pen)) (sym more)
      (kept_on (subst (λ (j : ℕ). PenKept (left_at j) q) is b) x.0.kept)

  -- more rows are listed than stood around it
  own_deep : (k : ℕ) (f : OpenRow) (q : Pen) → d ≤ k → k ≤ length ls → (e : Stop) → Inner v (inside (listed_rows fs k) f) q e → Left e
  own_deep k f q h l e x y =
      let s = size v pg stop n lo fs ls p a holds listed can rises d i few early k l in
      let c = length-append (listed_rows fs k) (f ∷ []) in
      let b = length-append (inside (listed_rows fs k) f) x.more in
      let z = ap length x.listed in
      let t = y.deep in
      absurd (omega arith)

  arguments_left : (k : ℕ) → k < length ls → Under v stop fs (suc k) → (s : Renderer) → PenKept (left_at (suc k)) s.pen
      → AllStops Left (arguments v pg (listed_rows fs k) (frame_at fs k) s)
  unfolding arguments Under part_end insert
  arguments_left k h u s x = go (eqb (v.kind f.row) CALL && f.first) refl
    where
      f : Frame
      f = frame_at fs k

      w : Bool
      w = group_wraps pg (nodes_at v (v.second f.row) (v.after f.row)) s

      o : OpenRow
      o = open_at f.row w (way_of f.made f.deeper)

      es : List OpenRow
      es = inside (listed_rows fs k) o

      within : List Stop
      within = entered v pg (nodes_at v (v.second f.row) (v.after f.row)) (v.second f.row) es w (insert w (v.number2 f.row) s)

      each : f.first ≡ true → (e : Stop) → Inner v es s.pen e × Among v es (v.second f.row) (v.after f.row) e → Left e
      each c e y = by (dec_lt k d)
        where
          by : Dec (k < d) → Left e
          by (no q) = own_deep k o s.pen (omega arith) (omega arith) e y.0
          by (yes q) =
              let l = subst (λ (b : Bool). v.after i ≤ cond b (v.second f.row) (v.after f.row)) c (ends k q) in
              own_left k o (v.after f.row) (v.second f.row) s.pen q l x e y

      go : (b : Bool) → (eqb (v.kind f.row) CALL && f.first) ≡ b → AllStops Left (cond b within [])
      go false e = all_none Left
      go true e =
          let y = both (eqb (v.kind f.row) CALL) f.first e in
          let g = subst (λ (c : Bool). Nests v (cond c (v.second f.row) (v.after f.row)) (v.after f.row) (suc k)) y.1 u.0.later in
          all_map _ Left (each y.1) within
          (all_both (Inner v es s.pen) (Among v es (v.second f.row) (v.after f.row)) within
          (entered_rows v pg (nodes_at v (v.second f.row) (v.after f.row)) (v.second f.row) es w (insert w (v.number2 f.row) s) (kinds v g))
          (all_among v pg g es w (insert w (v.number2 f.row) s)))

  behind_left : (k : ℕ) → k ≤ length ls → Under v stop fs k → (s : Renderer) → PenKept (left_at k) s.pen → AllStops Left (behind v pg stop fs k s)
  unfolding behind Under
  behind_left zero h u s x = all_none Left
  behind_left (suc k) h u s x =
      let f = frame_at fs k in
      let m = v.after f.row in
      let j = part_limit v stop fs k in
      let w = wrap_at fs k in
      let es = listed_rows fs k in
      let t = closing v pg f s in
      let y = end_kept v pg stop n lo fs ls p a holds listed can rises k (omega arith) s x in
      let g = u.0.after in
      all_append Left _ _ (arguments_left k (omega arith) u s x)
      (all_append Left _ _
      (all_map _ Left (later_left k (omega arith) u) _
      (all_both (Inner v es (left_at k)) (Among v es m j) (entered v pg (nodes_at v m j) m es w t)
      (all_map (Inner v es t.pen) (Inner v es (left_at k)) (further v es (left_at k) t.pen y) _ (entered_rows v pg (nodes_at v m j) m es w t (kinds v g)))
      (all_among v pg g es w t)))
      (behind_left k (omega arith) u.1 (render_nodes pg (nodes_at v m j) w t)
      (renders_on v pg stop n lo fs ls p a holds listed can rises (left_at k) m j w t y)))

  -- A STOP RIGHT BEHIND THE ROW
  pub ahead_left : (r : Renderer) → PenKept (left_at (length ls)) r.pen → AllStops Left (ahead v pg stop fs (length ls) n r)
  unfolding ahead
  ahead_left r x =
      let j = part_limit v stop fs (length ls) in
      let w = wrap_at fs (length ls) in
      let es = listed_rows fs (length ls) in
      all_append Left _ _
      (all_map (Inner v es r.pen) Left
      (λ e y f. stays v pg stop n lo fs ls p a holds listed can rises d i few early (length ls) few (omega arith) e
      (further v es (left_at (length ls)) r.pen x e y)) _
      (entered_rows v pg (nodes_at v n j) n es w r (kinds v a.good)))
      (behind_left (length ls) (omega arith) a.under (render_nodes pg (nodes_at v n j) w r)
      (renders_on v pg stop n lo fs ls p a holds listed can rises (left_at (length ls)) n j w r x))

  -- and the end of all
  rest_left : (k : ℕ) → k ≤ length ls → (s : Renderer) → PenKept (left_at k) s.pen → PenKept (left_at 0) (rest v pg stop fs k s).pen
  unfolding rest
  rest_left zero h s x = x
  rest_left (suc k) h s x =
      let f = frame_at fs k in
      rest_left k (omega arith) (render_nodes pg (nodes_at v (v.after f.row) (part_limit v stop fs k)) (wrap_at fs k) (closing v pg f s))
      (renders_on v pg stop n lo fs ls p a holds listed can rises (left_at k) (v.after f.row) (part_limit v stop fs k) (wrap_at fs k) (closing v pg f s)
      (end_kept v pg stop n lo fs ls p a holds listed can rises k (omega arith) s x))

  pub end_left : (r : Renderer) → PenKept (left_at (length ls)) r.pen → PenKept (left_at 0) (meaning v pg stop fs (length ls) n r).pen
  unfolding meaning
  end_left r x =
      let j = part_limit v stop fs (length ls) in
      rest_left (length ls) (omega arith) (render_nodes pg (nodes_at v n j) (wrap_at fs (length ls)) r)
      (renders_on v pg stop n lo fs ls p a holds listed can rises (left_at (length ls)) n j (wrap_at fs (length ls)) r x)

-- ---- the row ends in each part that is open around it
pub row_ends_in : (v : View) (stop : ℕ) (fs : List Frame) (m : ℕ) → Under v stop fs m → (d k : ℕ) → d ≤ m → k < d
    → part_limit v stop fs d ≤ part_end v (frame_at fs k)
unfolding Under part_limit
row_ends_in v stop fs zero u d k h l = absurd (omega arith)
row_ends_in v stop fs (suc m) u zero k h l = absurd (omega arith)
row_ends_in v stop fs (suc m) u (suc d) k h l =
    go (dec_lt k d) (dec_lt d m) (λ q. row_ends_in v stop fs m u.1 (suc d) k q l) (λ q. row_ends_in v stop fs m u.1 d k (omega arith) q)
  where
    go : Dec (k < d) → Dec (d < m) → (suc d ≤ m → part_end v (frame_at fs d) ≤ part_end v (frame_at fs k))
        → (k < d → part_limit v stop fs d ≤ part_end v (frame_at fs k))
        → part_end v (frame_at fs d) ≤ part_end v (frame_at fs k)
    go b (yes q) f g = f (omega arith)
    go (no b) (no q) f g = let e : k ≡ d = omega arith in subst (λ (j : ℕ). part_end v (frame_at fs d) ≤ part_end v (frame_at fs j)) (sym e) (omega arith)
    go (yes b) (no q) f g =
        let e : m ≡ d = omega arith in
        let o = subst (λ (j : ℕ). (part_end v (frame_at fs j) ≤ v.after (frame_at fs j).row) × (v.after (frame_at fs j).row ≤ part_limit v stop fs j)) e
        (nests_le u.0.later, nests_le u.0.after)
        in
        let x = g b in
        let y = o.0 in
        let z = o.1 in
        omega arith
