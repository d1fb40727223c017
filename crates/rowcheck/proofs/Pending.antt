-- The check of rows as a loop: what is still to be checked, in the open part and behind each row around it, gives the answer.
-- Assumes nothing.
use mathlib.Core.Path.{◌≡◌, refl, ap, ap₂, sym, subst, ◌∙◌}
use Prim.Native.Nat.{ℕ, zero, suc, ◌+◌, ◌*◌, ◌-◌, ◌≤◌, ◌<◌}
use native.Mathlib.Omega.{arith}
use native.Mathlib.Numerals.{add-one}
use mathlib.Core.Bool.{Bool, true, false, cond, ◌&&◌}
use mathlib.Core.List.{List, [], ◌∷◌}
use Rattle.std.specs.Prelude.{Option, Some, None}
use lib.ListN.{length}
use lib.Dec.{ltb, leb}
use borrow.Author.Tests.{lt-ltb, le-ltb, le-leb, lt-leb, ltb-true, leb-true}
use Rattle.rows.specs.Limits.{MAX_DEPTH, MAX_ROWS}
use Rattle.rows.specs.Places.{AFTER, PLACES}
use Rattle.rows.specs.View.{View, view_of, cell}
use Rattle.laws.proofs.Options.{never}
use Rattle.refusals.specs.Refusals.{Refusal, refuse_at}
use Rattle.renderer_rules.specs.Check.{row_fits_of, or_later, first_wrong, wrong_row_of, places_fit, wrong_place}
use Rattle.renderer_rules.proofs.Checked.{Fits, fits_row}

module _ (places : ℕ → Bool) (v : View) where
  enough_step : (end d i : ℕ) (a b : Bool) (r r2 t t2 : Option ℕ) → ltb i end ≡ a → row_fits_of places v end d i ≡ b
      → (Fits places v end d i → i < end → r ≡ r2)
      → (Fits places v end d i → i < end → t ≡ t2)
      → cond a (cond b (or_later r t) (Some i)) None ≡ cond a (cond b (or_later r2 t2) (Some i)) None
  enough_step end d i true true r r2 t t2 p q f g =
      let x = fits_row places v end d i q in
      let l = ltb-true i end p in
      ap₂ or_later (f x l) (g x l)
  enough_step end d i true false r r2 t t2 p q f g = refl
  enough_step end d i false b r r2 t t2 p q f g = refl

  first_none : (f end d i : ℕ) → end ≤ i → first_wrong f places v end d i ≡ None
  unfolding first_wrong
  first_none zero end d i h = refl
  first_none (suc f) end d i h = rw (le-ltb i end h)

  enough : (f g end d i : ℕ) → end - i ≤ f → end - i ≤ g → first_wrong f places v end d i ≡ first_wrong g places v end d i
  unfolding first_wrong
  enough zero g end d i p q = sym (first_none g end d i (omega arith))
  enough (suc f) zero end d i p q = first_none (suc f) end d i (omega arith)
  enough (suc f) (suc g) end d i p q =
      enough_step end d i
      (ltb i end)
      (row_fits_of places v end d i)
      (first_wrong f places v (v.after i) (suc d) (suc i))
      (first_wrong g places v (v.after i) (suc d) (suc i))
      (first_wrong f places v end d (v.after i))
      (first_wrong g places v end d (v.after i))
      refl
      refl
      (λ x l. let w = x.within in enough f g (v.after i) (suc d) (suc i) (omega arith) (omega arith))
      (λ x l. let w = x.within in enough f g end d (v.after i) (omega arith) (omega arith))

  pub wrong_none : (end d i : ℕ) → end ≤ i → wrong_row_of places v end d i ≡ None
  unfolding wrong_row_of
  wrong_none end d i h = first_none (end - i) end d i h

  first_bad : (f end d i : ℕ) → i < end → end - i ≤ f → row_fits_of places v end d i ≡ false → first_wrong f places v end d i ≡ Some i
  unfolding first_wrong
  first_bad zero end d i h l e = absurd (omega arith)
  first_bad (suc f) end d i h l e = rw (lt-ltb i end h, e)

  pub wrong_here : (end d i : ℕ) → i < end → row_fits_of places v end d i ≡ false → wrong_row_of places v end d i ≡ Some i
  unfolding wrong_row_of
  wrong_here end d i h e = first_bad (end - i) end d i h (omega arith) e

  first_good : (f end d i : ℕ) → i < end → end - i ≤ f → row_fits_of places v end d i ≡ true
      → first_wrong f places v end d i ≡ or_later (wrong_row_of places v (v.after i) (suc d) (suc i)) (wrong_row_of places v end d (v.after i))
  unfolding first_wrong wrong_row_of
  first_good zero end d i h l e = absurd (omega arith)
  first_good (suc f) end d i h l e =
      let w = (fits_row places v end d i e).within in
      rw (lt-ltb i end h, e)
      (ap₂ or_later
      (enough f (v.after i - suc i) (v.after i) (suc d) (suc i) (omega arith) (omega arith))
      (enough f (end - v.after i) end d (v.after i) (omega arith) (omega arith)))

  wrong_of : (end d i : ℕ) → wrong_row_of places v end d i ≡ first_wrong (end - i) places v end d i
  unfolding wrong_row_of
  wrong_of end d i = refl

  pub wrong_in : (end d i : ℕ) → i < end → row_fits_of places v end d i ≡ true
      → wrong_row_of places v end d i ≡ or_later (wrong_row_of places v (v.after i) (suc d) (suc i)) (wrong_row_of places v end d (v.after i))
  wrong_in end d i h e = wrong_of end d i ∙ first_good (end - i) end d i h (omega arith) e

  -- what is ahead from row i on, up to `end`, with the ends of the rows around, the innermost first
  unfoldable pub ahead : List ℕ → ℕ → ℕ → Option ℕ
  ahead [] end i = wrong_row_of places v end 0 i
  ahead (e ∷ es) end i = or_later (wrong_row_of places v end (suc (length es)) i) (ahead es e end)

  or_assoc : (a b c : Option ℕ) → or_later (or_later a b) c ≡ or_later a (or_later b c)
  or_assoc None b c = refl
  or_assoc (Some i) b c = refl

  pub ahead_here : (ends : List ℕ) (end i : ℕ) → i < end → row_fits_of places v end (length ends) i ≡ false → ahead ends end i ≡ Some i
  unfolding ahead
  ahead_here [] end i h e = wrong_here end 0 i h e
  ahead_here (x ∷ xs) end i h e = ap (λ (o : Option ℕ). or_later o (ahead xs x end)) (wrong_here end (suc (length xs)) i h e)

  ahead_first : (ends : List ℕ) (end i : ℕ) (a b : Option ℕ) → wrong_row_of places v end (length ends) i ≡ or_later a b
      → ((j : ℕ) → wrong_row_of places v end (length ends) j ≡ b → or_later a (ahead ends end j) ≡ ahead ends end i)
  unfolding ahead
  ahead_first [] end i a b e j f = ap (or_later a) f ∙ sym e
  ahead_first (x ∷ xs) end i a b e j f =
      ap (λ (o : Option ℕ). or_later a (or_later o (ahead xs x end))) f
      ∙ sym (ap (λ (o : Option ℕ). or_later o (ahead xs x end)) e ∙ or_assoc a b (ahead xs x end))

  -- a row that is right is entered
  pub ahead_in : (ends : List ℕ) (end i : ℕ) → i < end → row_fits_of places v end (length ends) i ≡ true
      → ahead (end ∷ ends) (v.after i) (suc i) ≡ ahead ends end i
  unfolding ahead
  ahead_in ends end i l e =
      ahead_first ends end i
      (wrong_row_of places v (v.after i) (suc (length ends)) (suc i))
      (wrong_row_of places v end (length ends) (v.after i))
      (wrong_in end (length ends) i l e)
      (v.after i) refl

  -- a row that is right and has no parts is passed
  pub ahead_past : (ends : List ℕ) (end i : ℕ) → i < end → row_fits_of places v end (length ends) i ≡ true → v.after i ≡ suc i
      → ahead ends end (suc i) ≡ ahead ends end i
  ahead_past ends end i l e q =
      let d = length ends in
      ahead_first ends end i None (wrong_row_of places v end d (suc i))
      (wrong_in end d i l e
      ∙ ap₂ or_later
      (ap (λ (n : ℕ). wrong_row_of places v n (suc d) (suc i)) q ∙ wrong_none (suc i) (suc d) (suc i) (omega arith))
      (ap (wrong_row_of places v end d) q))
      (suc i)
      refl

  -- the part is done
  pub ahead_out : (x : ℕ) (xs : List ℕ) (end i : ℕ) → i ≡ end → ahead (x ∷ xs) end i ≡ ahead xs x i
  unfolding ahead
  ahead_out x xs end i e = rw (wrong_none end (suc (length xs)) i (omega arith), e)

  pub ahead_end : (end i : ℕ) → end ≤ i → ahead [] end i ≡ None
  unfolding ahead
  ahead_end end i h = wrong_none end 0 i h

-- the refusal of a row that is found
abbrev pub refused : Option ℕ → Option Refusal
refused o = refuse_at o 11

-- each end is inside the next, and the last is the stop
abbrev pub Outward : ℕ → ℕ → List ℕ → Type 0
Outward stop end [] = end ≡ stop
Outward stop end (x ∷ xs) = (end ≤ x) × Outward stop x xs

-- What the loop keeps.
pub record Checking (places : ℕ → Bool) (s : List ℕ) (stop : ℕ) (answer : Option ℕ) (ends : List ℕ) (end row : ℕ) : Type 0 where
  pub same : ahead places (view_of s) ends end row ≡ answer
  pub outward : Outward stop end ends
  pub deep : length ends ≤ MAX_DEPTH
  pub inside : 0 < length ends → row ≤ end

abbrev pub check_left : ℕ → ℕ → List ℕ → ℕ
check_left stop row ends = (stop - row) * 2 + length ends

pub within_stop : (stop end : ℕ) (ends : List ℕ) → Outward stop end ends → end ≤ stop
within_stop stop end [] h = omega arith
within_stop stop end (x ∷ xs) h = let l = within_stop stop x xs h.1 in let k = h.0 in omega arith

module _ (places : ℕ → Bool) (s : List ℕ) (stop : ℕ) where
  pub check_start : (ends : List ℕ) (from : ℕ) → ends ≡ [] → Checking places s stop (wrong_row_of places (view_of s) stop 0 from) ends stop from
  unfolding ahead
  check_start ends from e = rw e (record { same = refl; outward = refl; deep = omega arith; inside = λ h. absurd (omega arith) })

  module _ (answer : Option ℕ) (ends : List ℕ) (end row : ℕ) (c : Checking places s stop answer ends end row) where
    pub end_within : end ≤ stop
    end_within = within_stop stop end ends c.outward

    module _ (depth : ℕ) (d : depth ≡ length ends) where
      pub check_wrong : row < end → row_fits_of places (view_of s) end depth row ≡ false → answer ≡ Some row
      check_wrong h e = sym c.same ∙ ahead_here places (view_of s) ends end row h (rw d at e)

      pub check_in : (after : ℕ) → row < end → after ≡ cell s row AFTER → row_fits_of places (view_of s) end depth row ≡ true
          → (ends2 : List ℕ)
          → ends2 ≡ end ∷ ends
          → Checking places s stop answer ends2 after (row + 1)
      unfolding view_of
      check_in after h e f ends2 g =
          let x = fits_row places (view_of s) end depth row f in
          let w = x.within in
          let t = x.shallow in
          rw (g, e, add-one row)
          (record {
            same = ahead_in places (view_of s) ends end row h (rw d at f) ∙ c.same;
            outward = (w.to, c.outward);
            deep = omega arith;
            inside = λ m. w.up;
          })

      pub check_past : (after : ℕ) → row < end → after ≡ cell s row AFTER → row_fits_of places (view_of s) end depth row ≡ true → after ≤ row + 1
          → Checking places s stop answer ends end (row + 1)
      unfolding view_of
      check_past after h e f l =
          let w = (fits_row places (view_of s) end depth row f).within.up in
          rw (add-one row)
          (record {
            same = ahead_past places (view_of s) ends end row h (rw d at f) (omega arith) ∙ c.same;
            outward = c.outward;
            deep = c.deep;
            inside = λ m. h;
          })

      -- where no row is wrong, this one isn't
      pub check_passes : answer ≡ None → row < end → row_fits_of places (view_of s) end depth row ≡ true
      check_passes none h = go (row_fits_of places (view_of s) end depth row) refl
        where
          go : (t : Bool) → row_fits_of places (view_of s) end depth row ≡ t → t ≡ true
          go true e = refl
          go false e = absurd (never row (sym (check_wrong h e) ∙ none))

      pub check_fits : row_fits_of places (view_of s) end depth row ≡ true → Fits places (view_of s) end depth row
      check_fits f = fits_row places (view_of s) end depth row f

      pub check_room : row_fits_of places (view_of s) end depth row ≡ true → length ends < MAX_DEPTH
      check_room f = let t = (fits_row places (view_of s) end depth row f).shallow in omega arith

    pub check_right : ends ≡ [] → end ≤ row → answer ≡ None
    check_right d h = sym c.same ∙ ap (λ (es : List ℕ). ahead places (view_of s) es end row) d ∙ ahead_end places (view_of s) end row h

    -- the open part ends where the row is
    pub check_at : 0 < length ends → end ≤ row → row ≡ end
    check_at h k = omega (arith, c.inside h)

    pub check_all : ends ≡ [] → end ≡ stop
    check_all d = subst (Outward stop end) d c.outward

    pub check_out : (x : ℕ) (xs : List ℕ) → ends ≡ x ∷ xs → end ≤ row → Checking places s stop answer xs x row
    check_out x xs e h =
        let n : length ends ≡ suc (length xs) = ap length e in
        let i = c.inside (omega arith) in
        let o = subst (Outward stop end) e c.outward in
        let k = c.deep in
        let l = o.0 in
        record {
          same =
              sym (ahead_out places (view_of s) x xs end row (omega arith))
              ∙ ap (λ (es : List ℕ). ahead places (view_of s) es end row) (sym e)
              ∙ c.same;
          outward = o.1;
          deep = omega arith;
          inside = λ m. omega arith;
        }

-- The stop, tested first.
module _ (source image s : List ℕ) (from stop : ℕ) where
  pub stop_far : MAX_ROWS < stop → wrong_place source image s from stop ≡ Some 0
  unfolding wrong_place
  stop_far h = rw (lt-leb stop MAX_ROWS h)

  pub stop_past : stop ≤ MAX_ROWS → length s < stop * PLACES → wrong_place source image s from stop ≡ Some 0
  unfolding wrong_place
  stop_past h k = rw (le-leb stop MAX_ROWS h, lt-leb (stop * PLACES) (length s) k)

  pub stop_fits : stop ≤ MAX_ROWS → stop * PLACES ≤ length s
      → wrong_place source image s from stop ≡ wrong_row_of (places_fit source image s) (view_of s) stop 0 from
  unfolding wrong_place
  stop_fits h k = rw (le-leb stop MAX_ROWS h, le-leb (stop * PLACES) (length s) k)

  -- where nothing is wrong, the stop is in the store, and no row is wrong
  by_stop : (a b : Bool) → leb stop MAX_ROWS ≡ a → leb (stop * PLACES) (length s) ≡ b
      → cond (a && b) (wrong_row_of (places_fit source image s) (view_of s) stop 0 from) (Some 0) ≡ None
      → ((stop * PLACES ≤ length s) × (stop ≤ MAX_ROWS)) × (wrong_row_of (places_fit source image s) (view_of s) stop 0 from ≡ None)
  by_stop true true e f g = ((leb-true (stop * PLACES) (length s) f, leb-true stop MAX_ROWS e), g)
  by_stop true false e f g = absurd (never 0 g)
  by_stop false b e f g = absurd (never 0 g)

  pub stop_in : wrong_place source image s from stop ≡ None → (stop * PLACES ≤ length s) × (stop ≤ MAX_ROWS)
  unfolding wrong_place
  stop_in e = (by_stop (leb stop MAX_ROWS) (leb (stop * PLACES) (length s)) refl refl e).0

  pub rows_right : wrong_place source image s from stop ≡ None → wrong_row_of (places_fit source image s) (view_of s) stop 0 from ≡ None
  unfolding wrong_place
  rows_right e = (by_stop (leb stop MAX_ROWS) (leb (stop * PLACES) (length s)) refl refl e).1
