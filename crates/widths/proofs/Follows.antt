-- A table against the rule, at every number: the table's ranges of width 2 are those of the first property, and its ranges of width 0 those of
-- the second that don't lie in a range of the first. Whether they are is computed, for an edition as a whole.
-- Assumes nothing.
use mathlib.Core.Path.{◌≡◌, refl, ap, ◌∙◌}
use mathlib.Core.Bool.{Bool, true, false, cond, ◌&&◌, ◌||◌}
use mathlib.Core.List.{List, [], ◌∷◌}
use Prim.Native.Nat.{ℕ, suc, ◌<◌}
use native.Mathlib.Omega.{arith}
use lib.Dec.{leb, eqb}
use borrow.Author.Tests.{leb-true, eqb-true}
use Rattle.laws.proofs.Booleans.{and_left, and_right, clash}
use Rattle.text.specs.Utf8.{within}
use Rattle.text.specs.Space.{Range, range, one_of}
use Rattle.text.proofs.Tests.{within_below, within_high, within_low, within_in}
use Rattle.widths.specs.Widths.{first, last, width, code_width, ascends, ordered, table_width}
use Rattle.widths.specs.declared.lookup.Entry.{Entry}
use Rattle.widths.proofs.Ordered.{ascending}

-- ---- a table taken apart by its widths
unfoldable pub ranges_of : ℕ → List Entry → List Range
ranges_of w [] = []
ranges_of w (e ∷ es) = let more = ranges_of w es in cond (eqb (width e) w) (range (first e) (last e) ∷ more) more

unfoldable pub two_or_none : List Entry → Bool
two_or_none [] = true
two_or_none (e ∷ es) = (eqb (width e) 2 || eqb (width e) 0) && two_or_none es

none_before : (w n : ℕ) (es : List Entry) (c : ℕ) → ascends n es ≡ true → c < n → one_of (ranges_of w es) c ≡ false
unfolding ranges_of one_of
none_before w n [] c h b = refl
none_before w n (e ∷ es) c h b =
    let a = ascending n e es h in
    go (omega arith) (none_before w (suc (last e)) es c (a.others) (omega arith)) (eqb (width e) w)
  where
    go : c < first e → one_of (ranges_of w es) c ≡ false → (t : Bool) → one_of (cond t (range (first e) (last e) ∷ ranges_of w es) (ranges_of w es)) c ≡ false
    go l more true = rw (within_below (first e) (last e) c l) more
    go l more false = more

pub taken_apart : (n : ℕ) (es : List Entry) (c : ℕ) → ascends n es ≡ true → two_or_none es ≡ true
    → table_width es c ≡ code_width (ranges_of 2 es) (ranges_of 0 es) c
unfolding table_width code_width ranges_of one_of two_or_none
taken_apart n [] c h k = refl
taken_apart n (e ∷ es) c h k =
    let a = ascending n e es h in
    let kind = eqb (width e) 2 || eqb (width e) 0 in
    let more = taken_apart (suc (last e)) es c (a.others) (and_right kind (two_or_none es) k) in
    go (a.others) more (eqb (width e) 2) refl (eqb (width e) 0) refl (and_left kind (two_or_none es) k) (within (first e) (last e) c) refl
  where
    here : Range
    here = range (first e) (last e)

    go :
        ascends (suc (last e)) es ≡ true
        → table_width es c ≡ code_width (ranges_of 2 es) (ranges_of 0 es) c
        → (u : Bool)
        → eqb (width e) 2 ≡ u
        → (v : Bool)
        → eqb (width e) 0 ≡ v
        → (u || v) ≡ true
        → (t : Bool)
        → within (first e) (last e) c ≡ t
        → cond t (width e) (table_width es c) ≡ code_width (cond u (here ∷ ranges_of 2 es) (ranges_of 2 es)) (cond v (here ∷ ranges_of 0 es) (ranges_of 0 es)) c
    go l more true p true q o t r = absurd (omega (arith, eqb-true (width e) 2 p, eqb-true (width e) 0 q))
    go l more true p false q o true r = rw r (eqb-true (width e) 2 p)
    go l more true p false q o false r = rw r more
    go l more false p true q o true r =
        let other = none_before 2 (suc (last e)) es c l (omega (arith, within_high (first e) (last e) c r)) in
        rw (r, other) (eqb-true (width e) 0 q)
    go l more false p true q o false r = rw r more
    go l more false p false q o t r = absurd (clash false o refl)

-- ---- ranges of the second property that lie in one of the first
unfoldable pub lies_in_any : List Range → Range → Bool
lies_in_any [] r = false
lies_in_any (w ∷ ws) r = (leb (w.low) (r.low) && leb (r.high) (w.high)) || lies_in_any ws r

unfoldable pub outside : List Range → List Range → List Range
outside ws [] = []
outside ws (r ∷ rs) = let more = outside ws rs in cond (lies_in_any ws r) more (r ∷ more)

lies_in : (ws : List Range) (r : Range) (c : ℕ) → lies_in_any ws r ≡ true → within (r.low) (r.high) c ≡ true → one_of ws c ≡ true
unfolding lies_in_any one_of
lies_in [] r c h k = h
lies_in (w ∷ ws) r c h k = go (leb (w.low) (r.low) && leb (r.high) (w.high)) refl (lies_in ws r c) h
  where
    go :
        (t : Bool)
        → (leb (w.low) (r.low) && leb (r.high) (w.high)) ≡ t
        → (lies_in_any ws r ≡ true → within (r.low) (r.high) c ≡ true → one_of ws c ≡ true)
        → (t || lies_in_any ws r) ≡ true
        → (within (w.low) (w.high) c || one_of ws c) ≡ true
    go true q more j =
        let low = leb-true (w.low) (r.low) (and_left _ (leb (r.high) (w.high)) q) in
        let high = leb-true (r.high) (w.high) (and_right (leb (w.low) (r.low)) _ q) in
        rw (within_in (w.low) (w.high) c (omega (arith, within_low (r.low) (r.high) c k)) (omega (arith, within_high (r.low) (r.high) c k)))
    go false q more j = late (within (w.low) (w.high) c) (more j k)
      where
        late : (t : Bool) → one_of ws c ≡ true → (t || one_of ws c) ≡ true
        late true e = refl
        late false e = e

outside_same : (ws rs : List Range) (c : ℕ) → one_of ws c ≡ false → one_of (outside ws rs) c ≡ one_of rs c
unfolding outside one_of
outside_same ws [] c h = refl
outside_same ws (r ∷ rs) c h = go (outside_same ws rs c h) (lies_in_any ws r) refl (within (r.low) (r.high) c) refl
  where
    go :
        one_of (outside ws rs) c ≡ one_of rs c
        → (t : Bool)
        → lies_in_any ws r ≡ t
        → (u : Bool)
        → within (r.low) (r.high) c ≡ u
        → one_of (cond t (outside ws rs) (r ∷ outside ws rs)) c ≡ (u || one_of rs c)
    go more true p true q = absurd (clash (one_of ws c) (lies_in ws r c p q) h)
    go more true p false q = more
    go more false p u q = rw (q, more)

outside_enough : (ws rs : List Range) (c : ℕ) → code_width ws (outside ws rs) c ≡ code_width ws rs c
unfolding code_width
outside_enough ws rs c = go (one_of ws c) refl
  where
    go : (t : Bool) → one_of ws c ≡ t → ◌≡◌ {A = ℕ} (cond t 2 (cond (one_of (outside ws rs) c) 0 1)) (cond t 2 (cond (one_of rs c) 0 1))
    go true p = refl
    go false p = rw (outside_same ws rs c p)

-- ---- the law
pub record Follows (wide marks : List Range) (table : List Entry) : Type 0 where
  pub order : ordered table ≡ true
  pub widths : two_or_none table ≡ true
  pub twos : ranges_of 2 table ≡ wide
  pub zeros : ranges_of 0 table ≡ outside wide marks

pub by_rule : (wide marks : List Range) (table : List Entry) → Follows wide marks table → (c : ℕ) → table_width table c ≡ code_width wide marks c
by_rule wide marks table f c =
    taken_apart 0 table c (f.order) (f.widths)
    ∙ ap (λ (w : List Range). code_width w (ranges_of 0 table) c) (f.twos)
    ∙ ap (λ (m : List Range). code_width wide m c) (f.zeros)
    ∙ outside_enough wide marks c
