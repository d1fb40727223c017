-- The rendering laws that the cut rule asks, for `Renderer` over rows, of a rendering from fresh: where it stops, and how many rows it enters.
-- Assumes nothing.
use mathlib.Core.Path.{◌≡◌, refl, sym, ap, ap₂, subst, ◌∙◌}
use mathlib.Core.Bool.{true}
use mathlib.Core.List.{List, [], ◌∷◌, ◌++◌, append-nil, map}
use Prim.Native.Nat.{ℕ, zero, suc, ◌+◌, ◌-◌, ◌≤◌, min}
use native.Mathlib.Omega.{arith}
use native.Mathlib.Decide.{dec_le}
use lib.ListN.{length, get_or, length-append, length-map}
use lib.Seq.{get_or-append-add}
use Rattle.rows.specs.Node.{Nodes}
use Rattle.rows.specs.View.{View, view_of, nodes_at}
use Rattle.rows.specs.Nesting.{Nests, over, leaf, block, two, pair}
use Rattle.rows.proofs.Nested.{nests_rest}
use Rattle.renderer_rules.specs.Renderer.{Page, Renderer, render_nodes}
use Rattle.renderer_rules.specs.Stops.{Stop, stop_at, listed_rows, entered, behind, ahead, rest, meaning}
use Rattle.renderer_rules.specs.Frames.{part_limit, wrap_at}
use Rattle.renderer_rules.proofs.Ranges.{among, after, among_join, stop_in, stops_alike}
use Rattle.cut_rule.specs.Rules.{RenderTo}
use Rattle.cut_rule.specs.Laws.{SameBefore, to_stop}
use Rattle.cut_rule.specs.States.{RenderChoice, render_fresh}
use Rattle.cut_rule.specs.Parts.{Drawn}
use Rattle.cut_rule.specs.PartLaws.{with_past}
use Rattle.whole_run.specs.Parts.{renderer_of, page, drawn_at, still_entered, all_rendered, drawn}
use Rattle.whole_run.proofs.Local.{nodes_local, rows_same}
use Rattle.whole_run.proofs.Past.{Unders, renders_ext}
use Rattle.whole_run.proofs.StopsPast.{stop_longer, entered_longer}
use Rattle.whole_run.proofs.Placed.{placed, entered_same, Rising, rising_few, rising_at, entered_rises}

-- ---- lists of stops
pub get_map : (f : Stop → Stop) (l : List Stop) (n : ℕ) (d : Stop) → get_or (map f l) n (f d) ≡ f (get_or l n d)
get_map f [] zero d = refl
get_map f [] (suc n) d = refl
get_map f (e ∷ l) zero d = refl
get_map f (e ∷ l) (suc n) d = get_map f l n d

pub get_min : (l : List Stop) (n : ℕ) (d : Stop) → get_or l n d ≡ get_or l (min n (length l)) d
get_min [] n d = none_there n (min n 0)
  where
    none_there : (a b : ℕ) → get_or [] a d ≡ get_or [] b d
    none_there zero zero = refl
    none_there zero (suc b) = refl
    none_there (suc a) zero = refl
    none_there (suc a) (suc b) = refl
get_min (e ∷ l) zero d = (let i : 0 ≡ min 0 (suc (length l)) = omega arith in ap (λ (m : ℕ). get_or (e ∷ l) m d) i)
get_min (e ∷ l) (suc n) d =
    get_min l n d ∙ (let i : suc (min n (length l)) ≡ min (suc n) (suc (length l)) = omega arith in ap (λ (m : ℕ). get_or (e ∷ l) m d) i)

-- rows that nest up to a further stop, nest from the nearer one on
pub nests_split : {v : View} {i j k d : ℕ} → Nests v i j d → Nests v i k d → j ≤ k → Nests v j k d
nests_split {v} {i} {j} {k} {d} (over e) g h = subst (λ (n : ℕ). Nests v n k d) e g
nests_split {v} {i} {j} {k} {d} (leaf a b e f s l) g h =
    nests_split l (subst (λ (n : ℕ). Nests v n k d) e (nests_rest g (omega arith))) h
nests_split (block a w s p l) g h = let u = w.up in let t = w.to in nests_split l (nests_rest g (omega arith)) h
nests_split (two a w t' s p q l) g h = let u = w.up in let t = w.to in nests_split l (nests_rest g (omega arith)) h
nests_split (pair a w t' s p q l) g h = let u = w.up in let t = w.to in nests_split l (nests_rest g (omega arith)) h

module _ (s b : List ℕ) (q : RenderTo RenderChoice) (marks store : List ℕ) where
  abbrev v : View
  v = view_of store

  abbrev pg : Page
  pg = page q.choice s b

  abbrev start : Renderer
  start = renderer_of render_fresh.pen marks

  -- the rows entered from fresh, and where it stops
  abbrev pub from_fresh : List Stop
  from_fresh = among v pg 0 q.stop [] true start

  pub fresh_rows : still_entered s b render_fresh q marks store ≡ from_fresh
  unfolding ahead behind part_limit wrap_at listed_rows
  fresh_rows = append-nil from_fresh

  pub fresh_end : all_rendered s b render_fresh q marks store ≡ stop_at q.stop [] (after v pg 0 q.stop true start)
  unfolding meaning rest part_limit wrap_at
  fresh_end = refl

  pub fresh_drawn : (n : ℕ) → drawn s b render_fresh q n marks store ≡ drawn_at (stop_in v pg 0 q.stop start n) (min n (length from_fresh))
  fresh_drawn n =
      ap₂ (λ (l : List Stop) (e : Stop). drawn_at (get_or l n e) (min n (length l))) fresh_rows fresh_end

  module _ (g : Nests v 0 q.stop 0) where
    rises : Rising 0 q.stop from_fresh
    rises = entered_rises v pg (nodes_at v 0 q.stop) 0 q.stop [] true start (placed v g)

    pub row_at : (n : ℕ) → (min n (length from_fresh) ≤ (drawn s b render_fresh q n marks store).row)
        × ((drawn s b render_fresh q n marks store).row ≤ q.stop)
    row_at n =
        let m = min n (length from_fresh) in
        let a = rising_at 0 q.stop m from_fresh (stop_at q.stop [] (after v pg 0 q.stop true start)) rises refl (omega arith) in
        let e = ap (λ (x : Stop). x.next) (get_min from_fresh n (stop_at q.stop [] (after v pg 0 q.stop true start))) in
        let f = ap (λ (y : Drawn). y.row) (fresh_drawn n) in
        let x = a.0 in
        let y = a.1 in
        (omega (arith, e, f), omega (arith, e, f))

    pub all_are : (drawn s b render_fresh q q.stop marks store).entered ≡ length from_fresh
    all_are =
        let h = rising_few 0 q.stop from_fresh rises in
        ap (λ (y : Drawn). y.entered) (fresh_drawn q.stop) ∙ omega arith

    pub fresh_enters : (n : ℕ) → (drawn s b render_fresh q n marks store).entered ≡ min n (drawn s b render_fresh q q.stop marks store).entered
    fresh_enters n = ap (λ (y : Drawn). y.entered) (fresh_drawn n) ∙ ap (min n) (sym all_are)

    pub fresh_runs_out : (n : ℕ) → drawn s b render_fresh q n marks store
        ≡ drawn s b render_fresh q (min n (drawn s b render_fresh q q.stop marks store).entered) marks store
    fresh_runs_out n =
        let l = from_fresh in
        let m = min n (length l) in
        let e : min n (length l) ≡ min m (length l) = omega arith in
        fresh_drawn n
        ∙ ap₂ (λ (x : Stop) (k : ℕ). drawn_at x k) (get_min l n (stop_at q.stop [] (after v pg 0 q.stop true start))) e
        ∙ sym (fresh_drawn m)
        ∙ ap (λ (k : ℕ). drawn s b render_fresh q (min n k) marks store) (sym all_are)

-- ---- further stops, and nearer ones
module _ (s b : List ℕ) (c : RenderChoice) (f t : ℕ) (marks store : List ℕ) (h : f ≤ t) (gf : Nests (view_of store) 0 f 0)
    (gt : Nests (view_of store) 0 t 0) where
  abbrev to_f : List Stop
  to_f = from_fresh s b (to_stop f c) marks store

  abbrev to_t : List Stop
  to_t = from_fresh s b (to_stop t c) marks store

  abbrev between : List Stop
  between =
      let v = view_of store in
      let p = page c s b in
      among v p f t [] true (after v p 0 f true (renderer_of render_fresh.pen marks))

  parts : to_t ≡ to_f ++ between
  parts = among_join (view_of store) (page c s b) t gf h [] true (renderer_of render_fresh.pen marks)

  pub fresh_further : (n : ℕ) → n ≤ (drawn s b render_fresh (to_stop f c) f marks store).entered
      → drawn s b render_fresh (to_stop t c) n marks store ≡ drawn s b render_fresh (to_stop f c) n marks store
  fresh_further n l =
      let a = all_are s b (to_stop f c) marks store gf in
      let x : length to_t ≡ length to_f + length between = ap length parts ∙ length-append to_f between in
      let e : min n (length to_t) ≡ min n (length to_f) = omega (arith, a) in
      fresh_drawn s b (to_stop t c) marks store n
      ∙ ap₂ (λ (y : Stop) (k : ℕ). drawn_at y k)
      (stops_alike (view_of store) (page c s b) (renderer_of render_fresh.pen marks) n gf (nests_split gf gt h) (omega (arith, a)))
      e
      ∙ sym (fresh_drawn s b (to_stop f c) marks store n)

  -- rows past the nearer stop stand behind it, the first of them at it
  pub fresh_nearer : (n : ℕ) → n ≤ (drawn s b render_fresh (to_stop t c) t marks store).entered
      → (drawn s b render_fresh (to_stop t c) n marks store).row ≤ f
      → n ≤ (drawn s b render_fresh (to_stop f c) f marks store).entered
  fresh_nearer n l r = go (dec_le n (length to_f))
    where
      a : (drawn s b render_fresh (to_stop f c) f marks store).entered ≡ length to_f
      a = all_are s b (to_stop f c) marks store gf

      go : Dec (n ≤ length to_f) → n ≤ (drawn s b render_fresh (to_stop f c) f marks store).entered
      go (yes p) = omega (arith, a)
      go (no p) =
          let v = view_of store in
          let y = page c s b in
          let d = stop_at t [] (after v y 0 t true (renderer_of render_fresh.pen marks)) in
          let x : length to_t ≡ length to_f + length between = ap length parts ∙ length-append to_f between in
          let m : min n (length to_t) ≡ n = omega (arith, l, all_are s b (to_stop t c) marks store gt) in
          let i : length to_f + (n - length to_f) ≡ n = omega arith in
          let at : get_or to_t n d ≡ get_or between (n - length to_f) d =
          ap (λ (k : List Stop). get_or k n d) parts
          ∙ ap (λ (k : ℕ). get_or (to_f ++ between) k d) (sym i)
          ∙ get_or-append-add to_f between (n - length to_f) d in
          let up = entered_rises v y (nodes_at v f t) f t [] true (after v y 0 f true (renderer_of render_fresh.pen marks)) (placed v (nests_split gf gt h)) in
          let w = (rising_at f t (n - length to_f) between d up refl (omega arith)).0 in
          let z = ap (λ (e : Stop). e.next) at in
          let k = ap (λ (e : Drawn). e.row) (fresh_drawn s b (to_stop t c) marks store n) in
          absurd (omega (arith, r, w, z, k))

-- ---- marks past the numbers
module _ (s b : List ℕ) (q : RenderTo RenderChoice) (marks past store : List ℕ) (u : Unders (length marks) (nodes_at (view_of store) 0 q.stop)) where
  pub fresh_past : (n : ℕ) → drawn s b render_fresh q n (marks ++ past) store ≡ with_past (drawn s b render_fresh q n marks store) past
  fresh_past n =
      let v = view_of store in
      let p = page q.choice s b in
      let r = renderer_of render_fresh.pen marks in
      let ns = nodes_at v 0 q.stop in
      let l = from_fresh s b q marks store in
      let last = stop_at q.stop [] (after v p 0 q.stop true r) in
      let longer = stop_longer [] past 0 v p in
      fresh_drawn s b q (marks ++ past) store n
      ∙ ap₂ (λ (x : List Stop) (e : Renderer). drawn_at (get_or x n (stop_at q.stop [] e)) (min n (length x)))
      (entered_longer [] past 0 v p ns 0 [] true r u)
      (renders_ext [] past 0 p ns true r u)
      ∙ ap₂ (λ (x : Stop) (k : ℕ). drawn_at x (min n k)) (get_map longer l n last) (length-map l longer)
      ∙ sym (ap (λ (y : Drawn). with_past y past) (fresh_drawn s b q marks store n))

-- ---- rows from the stop on
module _ (s b : List ℕ) (q : RenderTo RenderChoice) (marks store other : List ℕ) (g : Nests (view_of store) 0 q.stop 0)
    (e : SameBefore q.stop store other) where
  pub fresh_local : (n : ℕ) → drawn s b render_fresh q n marks store ≡ drawn s b render_fresh q n marks other
  fresh_local n =
      let v = view_of store in
      let u = view_of other in
      let p = page q.choice s b in
      let r = renderer_of render_fresh.pen marks in
      let same = nodes_local v u 0 q.stop (rows_same q.stop store other e 0) in
      fresh_drawn s b q marks store n
      ∙ ap₂ (λ (x : List Stop) (ns : Nodes). drawn_at (get_or x n (stop_at q.stop [] (render_nodes p ns true r))) (min n (length x)))
      (entered_same v u p (nodes_at v 0 q.stop) 0 q.stop [] true r (placed v g) (rows_same q.stop store other e 0)
      ∙ ap (λ (ns : Nodes). entered u p ns 0 [] true r) same)
      same
      ∙ sym (fresh_drawn s b q marks other n)
