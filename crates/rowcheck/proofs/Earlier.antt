-- The first wrong row under two tests.
-- Assumes nothing.
use mathlib.Core.Path.{◌≡◌, refl, sym, ap, ap₂, ◌∙◌}
use Prim.Native.Nat.{ℕ, zero, suc, ◌+◌, ◌*◌, ◌-◌, ◌≤◌, ◌<◌}
use native.Mathlib.Omega.{arith}
use mathlib.Core.Bool.{Bool, true, false, cond, ◌&&◌}
use mathlib.Core.List.{List}
use Rattle.std.specs.Prelude.{Option, Some, None}
use lib.ListN.{length}
use lib.Dec.{ltb, leb, eqb}
use borrow.Author.Tests.{ltb-true, ltb-false, eqb-true, eqb-false, ne_eqb}
use Rattle.rows.specs.Limits.{MAX_DEPTH, MAX_ROWS}
use Rattle.rows.specs.Places.{PLACES}
use Rattle.rows.specs.View.{View, view_of}
use Rattle.widths.specs.Rules.{SUPPLIED}
use Rattle.renderer_rules.specs.Check.{parts_fit, row_fits_of, or_later, wrong_row_of, places_fit, wrong_place, whole_at, places_fit_by, wrong_place_by}
use Rattle.renderer_rules.proofs.Checked.{Fits, fits_row}
use Rattle.rowcheck.proofs.Pending.{wrong_none, wrong_here, wrong_in}
use Rattle.rowcheck.specs.Torn.{first_failing, up_to, TwoTests, TwoPasses}

-- ---- the first that fails, over a range that is cut
module _ (also : ℕ → Bool) where
  pub from_none : (i end : ℕ) → end ≤ i → first_failing also (end - i) i ≡ None
  unfolding first_failing
  from_none i end h = let z : end - i ≡ 0 = omega arith in rw z

  pub from_good : (i end : ℕ) → also i ≡ true → i < end → first_failing also (end - i) i ≡ first_failing also (end - suc i) (suc i)
  unfolding first_failing
  from_good i end e h =
      let z : end - i ≡ suc (end - suc i) = omega arith in
      ap (λ (n : ℕ). first_failing also n i) z ∙ ap (λ (x : Bool). cond x (first_failing also (end - suc i) (suc i)) (Some i)) e

  pub from_bad : (i end : ℕ) → also i ≡ false → i < end → first_failing also (end - i) i ≡ Some i
  unfolding first_failing
  from_bad i end e h =
      let z : end - i ≡ suc (end - suc i) = omega arith in
      ap (λ (n : ℕ). first_failing also n i) z ∙ ap (λ (x : Bool). cond x (first_failing also (end - suc i) (suc i)) (Some i)) e

  cut_on : (m n i j : ℕ) → i + m ≡ j → first_failing also (m + n) i ≡ or_later (first_failing also m i) (first_failing also n j)
  unfolding first_failing
  cut_on zero n i j e =
      let a : 0 + n ≡ n = omega arith in
      let b : i ≡ j = omega arith in
      rw (a, b)
  cut_on (suc m) n i j e =
      let a : suc m + n ≡ suc (m + n) = omega arith in
      ap (λ (k : ℕ). first_failing also k i) a ∙ go (also i) (cut_on m n (suc i) j (omega arith))
    where
      go : (x : Bool) → first_failing also (m + n) (suc i) ≡ or_later (first_failing also m (suc i)) (first_failing also n j)
          → cond x (first_failing also (m + n) (suc i)) (Some i) ≡ or_later (cond x (first_failing also m (suc i)) (Some i)) (first_failing also n j)
      go true q = q
      go false q = refl

  cut_at : (i j end : ℕ) → i ≤ j → j ≤ end → first_failing also (end - i) i ≡ or_later (first_failing also (j - i) i) (first_failing also (end - j) j)
  cut_at i j end a b =
      let z : end - i ≡ (j - i) + (end - j) = omega arith in
      let y : i + (j - i) ≡ j = omega arith in
      ap (λ (n : ℕ). first_failing also n i) z ∙ cut_on (j - i) (end - j) i j y

or_assoc : (a b c : Option ℕ) → or_later (or_later a b) c ≡ or_later a (or_later b c)
or_assoc None b c = refl
or_assoc (Some i) b c = refl

pub or_none : (a : Option ℕ) → or_later a None ≡ a
or_none None = refl
or_none (Some i) = refl

-- ---- the check goes over the rows of a range in order
module _ (places : ℕ → Bool) (v : View) (Q : ℕ → ℕ → ℕ → Type 0)
    (over : (end d i : ℕ) → end ≤ i → Q end d i)
    (here : (end d i : ℕ) → i < end → row_fits_of places v end d i ≡ false → Q end d i)
    (fits : (end d i : ℕ) → i < end → row_fits_of places v end d i ≡ true → Q (v.after i) (suc d) (suc i) → Q end d (v.after i) → Q end d i) where
  turn : (end d i : ℕ) (a : Bool) → ltb i end ≡ a → (b : Bool) → row_fits_of places v end d i ≡ b
      → (i < end → Fits places v end d i → Q (v.after i) (suc d) (suc i))
      → (i < end → Fits places v end d i → Q end d (v.after i))
      → Q end d i
  turn end d i false p b q x y = over end d i (ltb-false i end p)
  turn end d i true p false q x y = here end d i (ltb-true i end p) q
  turn end d i true p true q x y =
      let l = ltb-true i end p in
      let w = fits_row places v end d i q in
      fits end d i l q (x l w) (y l w)

  turns : (f end d i : ℕ) → end - i ≤ f → Q end d i
  turns zero end d i h = over end d i (omega arith)
  turns (suc f) end d i h =
      turn end d i (ltb i end) refl (row_fits_of places v end d i) refl
      (λ l w. let r = w.within in turns f (v.after i) (suc d) (suc i) (less_in i (v.after i) end f r.up r.to h))
      (λ l w. let r = w.within in turns f end d (v.after i) (less_on i (v.after i) end f r.up h))
    where
      less_in : (i a end f : ℕ) → i < a → a ≤ end → end - i ≤ suc f → a - suc i ≤ f
      less_in i a end f x y z = omega arith

      less_on : (i a end f : ℕ) → i < a → end - i ≤ suc f → end - a ≤ f
      less_on i a end f x z = omega arith

  pub rowwise : (end d i : ℕ) → Q end d i
  rowwise end d i = turns (end - i) end d i (omega arith)

-- ---- a found row is one of the range
pub record Among (w : Option ℕ) (i end : ℕ) : Type 0 where
  pub low : i ≤ end → i ≤ up_to w end
  pub high : up_to w end ≤ end

among_or : (r t : Option ℕ) (i a end : ℕ) → i < a → a ≤ end → Among r (suc i) a → Among t a end → Among (or_later r t) (suc i) end
among_or None t i a end x y p q = record { low = λ z. let l = q.low y in omega arith; high = q.high }
among_or (Some k) t i a end x y p q = record { low = λ z. p.low x; high = let h = p.high in omega arith }

wider : (w : Option ℕ) (i end : ℕ) → i < end → Among w (suc i) end → Among w i end
wider w i end l a = record { low = λ z. let b = a.low l in omega arith; high = a.high }

module _ (places : ℕ → Bool) (v : View) where
  pub among : (end d i : ℕ) → Among (wrong_row_of places v end d i) i end
  among =
      rowwise places v (λ end d i. Among (wrong_row_of places v end d i) i end)
      (λ end d i h. rw (wrong_none places v end d i h) (record { low = λ z. z; high = omega arith }))
      (λ end d i l q. rw (wrong_here places v end d i l q) (record { low = λ z. omega arith; high = omega arith }))
      (λ end d i l q x y.
      let w = (fits_row places v end d i q).within in
      rw (wrong_in places v end d i l q) (wider _ i end l (among_or _ _ i (v.after i) end w.up w.to x y)))

  -- ---- each row before the wrong one was right
  before_or : (r t : Option ℕ) (i a end : ℕ) → places i ≡ true → i < a
      → ((k : ℕ) → suc i ≤ k → k < up_to r a → places k ≡ true)
      → ((k : ℕ) → a ≤ k → k < up_to t end → places k ≡ true)
      → (k : ℕ) → i ≤ k → k < up_to (or_later r t) end → places k ≡ true
  before_or r t i a end p l x y k m n = go (eqb i k) refl r refl (ltb k a) refl
    where
      go : (b : Bool) → eqb i k ≡ b → (s : Option ℕ) → r ≡ s → (c : Bool) → ltb k a ≡ c → places k ≡ true
      go true e s f c g = let z = eqb-true i k e in sym (ap places z) ∙ p
      go false e (Some j) f c g =
          let z = eqb-false i k e in
          let u : up_to (or_later r t) end ≡ j = ap (λ (w : Option ℕ). up_to (or_later w t) end) f in
          let w : up_to r a ≡ j = ap (λ (w : Option ℕ). up_to w a) f in
          x k (omega (arith, z)) (omega arith)
      go false e None f true g =
          let z = eqb-false i k e in
          let w : up_to r a ≡ a = ap (λ (w : Option ℕ). up_to w a) f in
          let less = ltb-true k a g in
          x k (omega (arith, z)) (omega arith)
      go false e None f false g =
          let u : up_to (or_later r t) end ≡ up_to t end = ap (λ (w : Option ℕ). up_to (or_later w t) end) f in
          y k (ltb-false k a g) (omega arith)

  pub right_before : (end d i : ℕ) → (k : ℕ) → i ≤ k → k < up_to (wrong_row_of places v end d i) end → places k ≡ true
  right_before =
      rowwise places v (λ end d i. (k : ℕ) → i ≤ k → k < up_to (wrong_row_of places v end d i) end → places k ≡ true)
      (λ end d i h k l m.
      let u : up_to (wrong_row_of places v end d i) end ≡ end = ap (λ (w : Option ℕ). up_to w end) (wrong_none places v end d i h) in
      absurd (omega arith))
      (λ end d i h q k l m.
      let u : up_to (wrong_row_of places v end d i) end ≡ i = ap (λ (w : Option ℕ). up_to w end) (wrong_here places v end d i h q) in
      absurd (omega arith))
      (λ end d i h q x y k l m.
      let w = fits_row places v end d i q in
      let inner = wrong_row_of places v (v.after i) (suc d) (suc i) in
      before_or inner (wrong_row_of places v end d (v.after i)) i (v.after i) end w.fit w.within.up x y k l
      (rw (← wrong_in places v end d i h q) m))

-- ---- the law of two tests
module _ (places also : ℕ → Bool) (v : View) where
  abbrev two : ℕ → Bool
  two k = places k && also k

  fits_two : (end d i : ℕ) → row_fits_of two v end d i ≡ row_fits_of places v end d i && also i
  unfolding row_fits_of
  fits_two end d i = and4 (ltb d MAX_DEPTH && (ltb i (v.after i) && leb (v.after i) end)) (parts_fit v i (v.kind i)) (places i) (also i)
    where
      and4 : (a b c e : Bool) → (a && (b && (c && e))) ≡ ((a && (b && c)) && e)
      and4 true true c e = refl
      and4 true false c e = refl
      and4 false b c e = refl

  -- what the first test found, and the second pass before it
  abbrev found : Option ℕ → ℕ → ℕ → Option ℕ
  found w end i = or_later (first_failing also (up_to w end - i) i) w

  joined : (r t : Option ℕ) (i a end : ℕ) → i < a → a ≤ end → Among r (suc i) a → Among t a end
      → or_later (found r a (suc i)) (found t end a) ≡ found (or_later r t) end (suc i)
  joined None t i a end l h p q =
      ap (λ (x : Option ℕ). or_later x (found t end a)) (or_none (first_failing also (a - suc i) (suc i)))
      ∙ sym (or_assoc (first_failing also (a - suc i) (suc i)) (first_failing also (up_to t end - a) a) t)
      ∙ ap (λ (x : Option ℕ). or_later x t) (sym (cut_at also (suc i) a (up_to t end) l (q.low h)))
  joined (Some k) t i a end l h p q = or_assoc (first_failing also (k - suc i) (suc i)) (Some k) (found t end a)

  here_good : (w : Option ℕ) (i end : ℕ) → also i ≡ true → i < end → Among w (suc i) end → found w end (suc i) ≡ found w end i
  here_good w i end e l a =
      let b = a.low l in
      ap (λ (x : Option ℕ). or_later x w) (sym (from_good also i (up_to w end) e (omega arith)))

  here_bad : (w : Option ℕ) (i end : ℕ) → also i ≡ false → i < end → Among w (suc i) end → Some i ≡ found w end i
  here_bad w i end e l a =
      let b = a.low l in
      ap (λ (x : Option ℕ). or_later x w) (sym (from_bad also i (up_to w end) e (omega arith)))

  abbrev Says : ℕ → ℕ → ℕ → Type 0
  Says end d i = wrong_row_of two v end d i ≡ found (wrong_row_of places v end d i) end i

  says_fits : (end d i : ℕ) → i < end → row_fits_of places v end d i ≡ true → Says (v.after i) (suc d) (suc i) → Says end d (v.after i) → Says end d i
  says_fits end d i l q x y =
      let a = v.after i in
      let w = (fits_row places v end d i q).within in
      let r = wrong_row_of places v a (suc d) (suc i) in
      let t = wrong_row_of places v end d a in
      let inside = among places v a (suc d) (suc i) in
      let behind = among places v end d a in
      let some_in = among_or r t i a end w.up w.to inside behind in
      let back = ap (λ (o : Option ℕ). found o end i) (sym (wrong_in places v end d i l q)) in
      go (also i) refl
      (λ e.
      wrong_in two v end d i l (fits_two end d i ∙ ap₂ ◌&&◌ q e)
      ∙ ap₂ or_later x y
      ∙ joined r t i a end w.up w.to inside behind
      ∙ here_good (or_later r t) i end e l some_in
      ∙ back)
      (λ e. wrong_here two v end d i l (fits_two end d i ∙ ap₂ ◌&&◌ q e) ∙ here_bad (or_later r t) i end e l some_in ∙ back)
    where
      go : (b : Bool) → also i ≡ b → (also i ≡ true → Says end d i) → (also i ≡ false → Says end d i) → Says end d i
      go true e good bad = good e
      go false e good bad = bad e

  says_here : (end d i : ℕ) → i < end → row_fits_of places v end d i ≡ false → Says end d i
  says_here end d i l q =
      let f : row_fits_of two v end d i ≡ false = fits_two end d i ∙ ap (λ (x : Bool). x && also i) q in
      wrong_here two v end d i l f
      ∙ sym (ap (λ (x : Option ℕ). or_later x (Some i)) (from_none also i i (omega arith)))
      ∙ ap (λ (o : Option ℕ). found o end i) (sym (wrong_here places v end d i l q))

  says_over : (end d i : ℕ) → end ≤ i → Says end d i
  says_over end d i h =
      wrong_none two v end d i h
      ∙ sym (ap (λ (x : Option ℕ). or_later x None) (from_none also i end h))
      ∙ ap (λ (o : Option ℕ). found o end i) (sym (wrong_none places v end d i h))

pub two_tests : TwoTests
two_tests places also v =
    rowwise places v (Says places also v) (says_over places also v) (says_here places also v) (says_fits places also v)

-- where widths are not supplied, a row is asked for both
both_asked : (rule : ℕ) (source image s : List ℕ) (i : ℕ) → (rule ≡ SUPPLIED → ⊥)
    → places_fit_by rule source image s i ≡ (places_fit source image s i && whole_at source image s i)
unfolding places_fit_by
both_asked rule source image s i n = rw (ne_eqb rule SUPPLIED n)

pub two_passes : TwoPasses
unfolding wrong_place_by wrong_place
two_passes rule source image s from stop n = go (leb stop MAX_ROWS && leb (stop * PLACES) (length s))
  where
    first : Option ℕ
    first = wrong_row_of (places_fit source image s) (view_of s) stop 0 from

    both : wrong_row_of (places_fit_by rule source image s) (view_of s) stop 0 from
        ≡ wrong_row_of (λ k. places_fit source image s k && whole_at source image s k) (view_of s) stop 0 from
    both = λ j. wrong_row_of (λ k. both_asked rule source image s k n j) (view_of s) stop 0 from

    go : (x : Bool)
        → cond x (wrong_row_of (places_fit_by rule source image s) (view_of s) stop 0 from) (Some 0)
        ≡ or_later (first_failing (whole_at source image s) (up_to (cond x first (Some 0)) stop - from) from) (cond x first (Some 0))
    go true = both ∙ two_tests (places_fit source image s) (whole_at source image s) (view_of s) stop 0 from
    go false = sym (ap (λ (x : Option ℕ). or_later x (Some 0)) (from_none (whole_at source image s) from 0 (omega arith)))
