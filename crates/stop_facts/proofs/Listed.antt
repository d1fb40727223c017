-- Where the machine stops: what 23 asks of the rows that it lists, and that rows nest from where the next call reads.
-- Assumes nothing.
use mathlib.Core.Path.{◌≡◌, refl, sym, ap, subst, ◌∙◌}
use mathlib.Core.Logic.{◌⊎◌, inl, inr}
use mathlib.Core.Bool.{Bool, true, false, ◌&&◌}
use mathlib.Core.List.{List, [], ◌∷◌, ◌++◌, map, map-append}
use Prim.Native.Nat.{ℕ, zero, suc, ◌+◌, ◌-◌, ◌≤◌, ◌<◌}
use native.Mathlib.Omega.{arith}
use native.Mathlib.Decide.{dec_lt}
use borrow.Author.Tests.{lt-ltb, ltb-true, eqb-true}
use lib.Seq.{take-suc}
use lib.ListN.{length, take}
use Rattle.laws.proofs.Booleans.{both}
use Rattle.rows.specs.View.{View}
use Rattle.rows.specs.Nesting.{Nests}
use Rattle.rows.proofs.Nested.{nests_le, nests_after, nests_rest}
use Rattle.renderer_rules.specs.declared.Frame.{Frame}
use Rattle.renderer_rules.specs.declared.Pen.{Pen}
use Rattle.renderer_rules.specs.Renderer.{Page}
use Rattle.renderer_rules.specs.Frames.{no_frame, frame_at, part_end, part_limit, Under}
use Rattle.renderer_rules.specs.Machine.{Machine, closes}
use Rattle.renderer_rules.specs.Stops.{OpenRow, way_of, is_deeper, listed_as, listed_rows}
use Rattle.renderer_rules.specs.Listed.{reads_from, closed_pen, can_close, closed_all, can_close_all}
use Rattle.renderer_rules.proofs.Drift.{nests_ends, row_only}
use Rattle.renderer_rules.proofs.Held.{can_down}
use Rattle.renderer_rules.proofs.Machine.{Fine, is_done}
use Rattle.renderer_rules.proofs.Allot.{wants_row}
use Rattle.stop_facts.proofs.OpenRows.{row_at, Around}

-- ---- each open row encloses the next one
module _ (v : View) (stop : ℕ) where
  -- no open row ends before the innermost open part
  limit_low : (fs : List Frame) (d : ℕ) → Under v stop fs d → (j : ℕ) → j < d → part_limit v stop fs d ≤ v.after (row_at fs j)
  unfolding Under part_limit
  limit_low fs zero u j h = absurd (omega arith)
  limit_low fs (suc d) u j h = go (dec_lt j d) (limit_low fs d u.1 j)
    where
      go : Dec (j < d) → (j < d → part_limit v stop fs d ≤ v.after (row_at fs j)) → part_end v (frame_at fs d) ≤ v.after (row_at fs j)
      go (yes p) rec = omega (arith, rec p, nests_le u.0.later, nests_le u.0.after)
      go (no p) rec =
          let e : d ≡ j = omega arith in
          omega (arith, nests_le u.0.later, ap (λ (k : ℕ). v.after (row_at fs k)) e)

  module _ (pg : Page) (m : Machine) (a : Fine v pg stop m) (ends : (is_done v pg stop m ≡ true) ⊎ (wants_row v pg stop m ≡ true)) where
    pub encloses : (j : ℕ) → j < m.depth → m.next < v.after (row_at m.frames j)
    unfolding is_done wants_row
    encloses j h = go ends
      where
        go : (is_done v pg stop m ≡ true) ⊎ (wants_row v pg stop m ≡ true) → m.next < v.after (row_at m.frames j)
        go (inl e) = absurd (omega (arith, eqb-true m.depth 0 (both _ _ e).0))
        go (inr e) = omega (arith, ltb-true _ _ e, limit_low m.frames m.depth a.under j h)

-- ---- they can be closed
module _ (v : View) where
  abbrev shut : Frame → Pen → Pen
  shut f p = closes (v.kind f.row) f.wrap f.deeper p

  abbrev can_shut : Frame → Pen → Bool
  can_shut f p = can_close (v.kind f.row) f.wrap f.deeper p

  closed_last : (ls : List OpenRow) (l : OpenRow) (p : Pen) → closed_all v (ls ++ (l ∷ [])) p ≡ closed_all v ls (closed_pen v l p)
  unfolding closed_all
  closed_last [] l p = refl
  closed_last (k ∷ ls) l p = ap (closed_pen v k) (closed_last ls l p)

  can_last : (ls : List OpenRow) (l : OpenRow) (p : Pen) → can_close (v.kind l.row) l.wraps (is_deeper l.way) p ≡ true
      → can_close_all v ls (closed_pen v l p) ≡ true → can_close_all v (ls ++ (l ∷ [])) p ≡ true
  unfolding can_close_all closed_all
  can_last [] l p e f = e
  can_last (k ∷ ls) l p e f =
      let x = both (can_close_all v ls (closed_pen v l p)) _ f in
      rw (can_last ls l p e x.0, closed_last ls l p) x.1

  deeper_by : (m d : Bool) → is_deeper (way_of m d) ≡ d
  deeper_by m true = refl
  deeper_by true false = refl
  deeper_by false false = refl

  pub can_listed : (fs : List Frame) (d : ℕ) (p : Pen) → d ≤ length fs → can_down v fs 0 d p ≡ true → can_close_all v (listed_rows fs d) p ≡ true
  unfolding can_down can_close_all listed_rows
  can_listed fs zero p h e = refl
  can_listed fs (suc d) p h e =
      let z : 0 + d ≡ d = omega arith in
      let f = frame_at fs d in
      let g : (can_shut f p && can_down v fs 0 d (shut f p)) ≡ true =
      subst (λ (i : ℕ). (can_shut (frame_at fs i) p && can_down v fs 0 d (shut (frame_at fs i) p)) ≡ true) z e in
      let x = both (can_shut f p) (can_down v fs 0 d (shut f p)) g in
      let rows : map listed_as (take (suc d) fs) ≡ map listed_as (take d fs) ++ (listed_as f ∷ []) =
      ap (map listed_as) (take-suc fs d no_frame (omega arith)) ∙ map-append listed_as (take d fs) (f ∷ []) in
      subst (λ (ls : List OpenRow). can_close_all v ls p ≡ true) (sym rows)
      (can_last (map listed_as (take d fs)) (listed_as f) p
      (rw (deeper_by f.made f.deeper) x.0)
      (rw (deeper_by f.made f.deeper) (can_listed fs d (shut f p) (omega arith) x.1)))

-- ---- where the next call reads from
module _ (v : View) (lo n : ℕ) where
  -- row a is the first row that encloses row n, or row n itself
  pub record ReadsAt (a : ℕ) : Type 0 where
    pub low : lo ≤ a
    pub to : a ≤ n
    pub ends : (a ≡ n) ⊎ (n < v.after a)
    pub first : (i : ℕ) → lo ≤ i → i < n → n < v.after i → a ≤ i

  pub reads_at : (fs : List Frame) (d : ℕ) → d ≤ length fs → Around v lo fs d n → ((j : ℕ) → j < d → n < v.after (row_at fs j))
      → ReadsAt (reads_from (listed_rows fs d) n)
  unfolding listed_rows
  reads_at fs zero s r h =
      record {
        low = r.from;
        to = omega arith;
        ends = inl refl;
        first = λ i a b c. absurd (let x = r.all i a b c in omega (arith, x.open_row));
      }
  reads_at [] (suc d) s r h = absurd (omega arith)
  reads_at (f ∷ fs) (suc d) s r h =
      rw (lt-ltb f.row n (r.below 0 (omega arith)))
      (record {
        low = r.low 0 (omega arith);
        to = omega (arith, r.below 0 (omega arith));
        ends = inr (h 0 (omega arith));
        first = λ i a b c. let x = r.all i a b c in behind x.at x.open_row i x.is (dec_lt 0 x.at);
      })
    where
      behind : (j : ℕ) → j < suc d → (i : ℕ) → row_at (f ∷ fs) j ≡ i → Dec (0 < j) → f.row ≤ i
      behind j p i e (yes q) = omega (arith, r.rising 0 j q p, e)
      behind j p i e (no q) = let z : 0 ≡ j = omega arith in omega (arith, ap (row_at (f ∷ fs)) z, e)

  module _ (stop a : ℕ) (in_stop : n ≤ stop) (x : ReadsAt a) where
    -- a row that ends by row n ends by row a
    by_a : (i : ℕ) → Nests v i stop 0 → i < a → v.after i ≤ n → v.after i ≤ a
    by_a i g h l = go (dec_lt a (v.after i))
      where
        inside : a < v.after i → (a ≡ n) ⊎ (n < v.after a) → v.after i ≤ a
        inside p (inl e) = absurd (omega arith)
        inside p (inr e) = absurd (omega (arith, nests_ends (row_only g (omega (arith, x.to))) a (omega arith) p))

        go : Dec (a < v.after i) → v.after i ≤ a
        go (yes p) = inside p x.ends
        go (no p) = omega arith

    nests_to : (k i : ℕ) → n - i ≤ k → Nests v i stop 0 → lo ≤ i → i ≤ a → Nests v a stop 0
    nests_to zero i f g l h =
        let e : i ≡ a = omega (arith, x.to) in
        subst (λ (j : ℕ). Nests v j stop 0) e g
    nests_to (suc k) i f g l h = go (dec_lt i a) (dec_lt n (v.after i)) (λ j. nests_to k j)
      where
        go : Dec (i < a) → Dec (n < v.after i) → ((j : ℕ) → n - j ≤ k → Nests v j stop 0 → lo ≤ j → j ≤ a → Nests v a stop 0) → Nests v a stop 0
        go (no p) q rec = let e : i ≡ a = omega arith in subst (λ (j : ℕ). Nests v j stop 0) e g
        go (yes p) (yes q) rec = absurd (omega (arith, x.first i l (omega (arith, x.to)) q))
        go (yes p) (no q) rec =
            let up = (nests_after g (omega (arith, x.to))).up in
            rec (v.after i) (omega (arith, x.to)) (nests_rest g (omega (arith, x.to))) (omega arith) (by_a i g p (omega arith))

    pub nests_from : Nests v lo stop 0 → Nests v a stop 0
    nests_from g = nests_to (n - lo) lo (omega arith) g (omega arith) x.low
