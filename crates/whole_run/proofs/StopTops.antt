-- Where a stop's state reads from, a top row starts: the first row that encloses the next one, or the next row itself.
-- Assumes nothing.
use mathlib.Core.Path.{◌≡◌, refl, sym, ap, subst, ◌∙◌}
use mathlib.Core.Bool.{Bool, true, false, cond}
use mathlib.Core.List.{List, [], ◌∷◌}
use Prim.Native.Nat.{ℕ, zero, suc, ◌-◌, ◌≤◌, ◌<◌}
use native.Mathlib.Omega.{arith}
use native.Mathlib.Decide.{dec_lt}
use borrow.Author.Tests.{ltb-false}
use lib.Dec.{ltb}
use lib.ListN.{get_or}
use Rattle.rows.specs.View.{View, nodes_at}
use Rattle.rows.specs.Nesting.{Nests, over}
use Rattle.rows.proofs.Nested.{nests_le, nests_join, nests_after, nests_rest}
use Rattle.renderer_rules.specs.Renderer.{Page, Renderer}
use Rattle.renderer_rules.specs.Stops.{OpenRow, Stop, stop_at, entered}
use Rattle.renderer_rules.specs.Drift.{around, AllStops}
use Rattle.renderer_rules.specs.Listed.{reads_from}
use Rattle.renderer_rules.proofs.Drift.{around_on, around_none, around_from, nests_ends, rows_of, row_only, Among, all_among}

-- one of some stops, or another, if it is so of each
pub all_get : (P : Stop → Type 0) (l : List Stop) (n : ℕ) (d : Stop) → AllStops P l → P d → P (get_or l n d)
unfolding AllStops
all_get P [] zero d a p = p
all_get P [] (suc n) d a p = p
all_get P (e ∷ l) zero d a p = a.0
all_get P (e ∷ l) (suc n) d a p = all_get P l n d a.1 p

-- the first of some rows, or another
abbrev pub first_or : List ℕ → ℕ → ℕ
first_or [] n = n
first_or (i ∷ l) n = i

pub record TopAt (v : View) (i m d : ℕ) (is : List ℕ) : Type 0 where
  pub nests : Nests v i (first_or is m) d
  pub low : first_or is m ≤ m

module _ (v : View) where
  here : (i m d : ℕ) → i ≡ m → TopAt v i m d (around v i m)
  here i m d e =
      subst (λ (n : ℕ). TopAt v i n d (around v i n)) e (rw (around_none v i) (record { nests = over refl; low = omega arith }))

  behind_row : (i j d m : ℕ) → Nests v i j d → i < j → v.after i ≤ m → TopAt v (v.after i) m d (around v (v.after i) m) → TopAt v i m d (around v i m)
  behind_row i j d m g h l t =
      let r = nests_after g h in
      let up = r.up in
      let one = row_only g h in
      let e = around_from v i (v.after i) m (omega arith) l (λ k p q. let x = nests_ends one k p q in omega arith) in
      rw e (record { nests = nests_join one t.nests; low = t.low })

  within_row : (i m d : ℕ) → i < m → m < v.after i → TopAt v i m d (around v i m)
  within_row i m d h l = rw (around_on v i m h l) (record { nests = over refl; low = omega arith })

  -- the top row that row m stands in
  top : (k i j d m : ℕ) → j - i ≤ k → Nests v i j d → i ≤ m → m ≤ j → TopAt v i m d (around v i m)
  top zero i j d m f g h l = let q = nests_le g in here i m d (omega arith)
  top (suc k) i j d m f g h l =
      go
      (λ y b.
      let r = nests_after g y in
      let up = r.up in
      top k (v.after i) j d m (omega arith) (nests_rest g y) b l)
      (dec_lt i m)
      (dec_lt m (v.after i))
    where
      go : (i < j → v.after i ≤ m → TopAt v (v.after i) m d (around v (v.after i) m)) → Dec (i < m) → Dec (m < v.after i) → TopAt v i m d (around v i m)
      go rec (no a) b = here i m d (omega arith)
      go rec (yes a) (yes b) = within_row i m d a b
      go rec (yes a) (no b) = behind_row i j d m g (omega arith) (omega arith) (rec (omega arith) (omega arith))

-- what a state reads from is the first row that it lists
reads_top : (ls : List OpenRow) (m : ℕ) → first_or (rows_of ls) m ≤ m → reads_from ls m ≡ first_or (rows_of ls) m
unfolding rows_of
reads_top [] m h = refl
reads_top (f ∷ ls) m h = go (ltb f.row m) refl
  where
    go : (b : Bool) → ltb f.row m ≡ b → cond b f.row m ≡ f.row
    go true e = refl
    go false e = let x = ltb-false f.row m e in omega arith

module _ (v : View) (p : Page) (stop : ℕ) (g : Nests v 0 stop 0) (r t : Renderer) (n : ℕ) where
  abbrev pub there : Stop
  there = get_or (entered v p (nodes_at v 0 stop) 0 [] true r) n (stop_at stop [] t)

  pub record Lists (e : Stop) : Type 0 where
    pub to : e.next ≤ stop
    pub are : rows_of e.listed ≡ around v 0 e.next

  pub lists_all : Lists there
  unfolding AllStops rows_of
  lists_all =
      all_get Lists (entered v p (nodes_at v 0 stop) 0 [] true r) n (stop_at stop [] t)
      (from_all (entered v p (nodes_at v 0 stop) 0 [] true r) (all_among v p g [] true r))
      (record { to = omega arith; are = sym (around_from v 0 stop stop (omega arith) (omega arith) (λ k a b. nests_ends g k a b) ∙ around_none v stop) })
    where
      from_all : (l : List Stop) → AllStops (Among v [] 0 stop) l → AllStops Lists l
      from_all [] a = tt
      from_all (e ∷ l) a = (record { to = (let x = a.0.to in omega arith); are = a.0.listed_are }, from_all l a.1)

  pub reads_at_top : Nests v 0 (reads_from there.listed there.next) 0 × (reads_from there.listed there.next ≤ stop)
  reads_at_top =
      let x = lists_all in
      let y = top v stop 0 stop 0 there.next (omega arith) g (omega arith) x.to in
      let a : first_or (rows_of there.listed) there.next ≡ first_or (around v 0 there.next) there.next =
      ap (λ (l : List ℕ). first_or l there.next) x.are in
      let low = y.low in
      let to = x.to in
      let e = reads_top there.listed there.next (omega (arith, a, low)) in
      (subst (λ (k : ℕ). Nests v 0 k 0) (sym (e ∙ a)) y.nests, omega (arith, e, a, low, to))
