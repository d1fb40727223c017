-- The loop of the second pass, and the two passes together.
-- Assumes nothing.
use mathlib.Core.Path.{◌≡◌, refl, sym, ap, ◌∙◌}
use Prim.Native.Nat.{ℕ, ◌+◌, ◌*◌, ◌-◌, ◌≤◌, ◌<◌}
use native.Mathlib.Omega.{arith}
use native.Mathlib.Numerals.{add-one}
use mathlib.Core.Bool.{Bool, true, false, cond, ◌&&◌}
use mathlib.Core.List.{List}
use Rattle.std.specs.Prelude.{Option, Some, None}
use lib.ListN.{length}
use lib.Dec.{leb}
use borrow.Author.Tests.{leb-true}
use Rattle.laws.proofs.Booleans.{and_right}
use Rattle.rows.specs.Limits.{MAX_ROWS}
use Rattle.rows.specs.Places.{PLACES}
use Rattle.rows.specs.View.{view_of}
use Rattle.widths.specs.Rules.{SUPPLIED}
use Rattle.renderer_rules.specs.Check.{places_fit, or_later, wrong_row_of, wrong_place, whole_at, wrong_place_by}
use Rattle.rowcheck.specs.Torn.{first_failing, up_to, Fitting}
use Rattle.rowcheck.proofs.Earlier.{from_none, from_good, from_bad, or_none, among, right_before, two_passes}

-- what is found from here on is what is found from the first row on
pub record Seeking (also : ℕ → Bool) (from to row : ℕ) : Type 0 where
  pub low : from ≤ row
  pub same : first_failing also (to - row) row ≡ first_failing also (to - from) from

pub seek_start : (also : ℕ → Bool) (from to : ℕ) → Seeking also from to from
seek_start also from to = record { low = omega arith; same = refl }

module _ (also : ℕ → Bool) (from to row : ℕ) (c : Seeking also from to row) where
  pub seek_more : row < to → also row ≡ true → Seeking also from to (row + 1)
  seek_more h e =
      record {
        low = omega (arith, c.low);
        same = ap (λ (k : ℕ). first_failing also (to - k) k) (add-one row) ∙ sym (from_good also row to e h) ∙ c.same;
      }

  pub seek_found : row < to → also row ≡ false → Some row ≡ first_failing also (to - from) from
  seek_found h e = sym (from_bad also row to e h) ∙ c.same

  pub seek_end : to ≤ row → None ≡ first_failing also (to - from) from
  seek_end h = sym (from_none also row to h) ∙ c.same

-- ---- the second pass behind the first
module _ (rule : ℕ) (source image s : List ℕ) (from stop : ℕ) (n : rule ≡ SUPPLIED → ⊥) where
  -- by what the first found
  passes : (w : Option ℕ) → wrong_place source image s from stop ≡ w
      → wrong_place_by rule source image s from stop ≡ or_later (first_failing (whole_at source image s) (up_to w stop - from) from) w
  passes w e =
      two_passes rule source image s from stop n
      ∙ ap (λ (o : Option ℕ). or_later (first_failing (whole_at source image s) (up_to o stop - from) from) o) e

  pub passes_right : wrong_place source image s from stop ≡ None
      → first_failing (whole_at source image s) (stop - from) from ≡ wrong_place_by rule source image s from stop
  passes_right e = sym (passes None e ∙ or_none (first_failing (whole_at source image s) (stop - from) from))

  pub passes_wrong : (row : ℕ) → wrong_place source image s from stop ≡ Some row
      → or_later (first_failing (whole_at source image s) (row - from) from) (Some row) ≡ wrong_place_by rule source image s from stop
  passes_wrong row e = sym (passes (Some row) e)

module _ (source image s : List ℕ) (from stop : ℕ) where
  rows_there : (x : Bool) → (leb stop MAX_ROWS && leb (stop * PLACES) (length s)) ≡ x
      → up_to (cond x (wrong_row_of (places_fit source image s) (view_of s) stop 0 from) (Some 0)) stop * PLACES ≤ length s
  rows_there true e =
      let fit = leb-true (stop * PLACES) (length s) (and_right (leb stop MAX_ROWS) (leb (stop * PLACES) (length s)) e) in
      let a = (among (places_fit source image s) (view_of s) stop 0 from).high in
      omega arith
  rows_there false e = omega arith

  -- the rows up to the one found wrong are there, and right
  pub there : (w : Option ℕ) → wrong_place source image s from stop ≡ w → up_to w stop * PLACES ≤ length s
  unfolding wrong_place
  there w e = rw (← e) (rows_there (leb stop MAX_ROWS && leb (stop * PLACES) (length s)) refl)

  rows_right : (x : Bool) (k : ℕ) → from ≤ k → k < up_to (cond x (wrong_row_of (places_fit source image s) (view_of s) stop 0 from) (Some 0)) stop
      → places_fit source image s k ≡ true
  rows_right true k l m = right_before (places_fit source image s) (view_of s) stop 0 from k l m
  rows_right false k l m = absurd (omega arith)

  pub right : (w : Option ℕ) → wrong_place source image s from stop ≡ w → Fitting source image s from (up_to w stop)
  unfolding wrong_place
  right w e = record { fits = λ k l m. rows_right (leb stop MAX_ROWS && leb (stop * PLACES) (length s)) k l (rw e m) }

-- ---- by what the code asks
module _ (source image s : List ℕ) (from stop : ℕ) (w : Option ℕ) (end : ℕ) (e : w ≡ wrong_place source image s from stop) (u : end ≡ up_to w stop) where
  pub there_by : end * PLACES ≤ length s
  there_by = rw u (there source image s from stop w (sym e))

  pub right_by : Fitting source image s from end
  right_by = rw u (right source image s from stop w (sym e))

pub passes_by : (rule : ℕ) (source image s : List ℕ) (from stop : ℕ) → (rule ≡ SUPPLIED → ⊥) → (w : Option ℕ) (end : ℕ) (torn : Option ℕ)
    → w ≡ wrong_place source image s from stop → end ≡ up_to w stop
    → torn ≡ first_failing (whole_at source image s) (end - from) from
    → or_later torn w ≡ wrong_place_by rule source image s from stop
passes_by rule source image s from stop n w end torn e u f =
    ap (λ (o : Option ℕ). or_later o w) (f ∙ ap (λ (k : ℕ). first_failing (whole_at source image s) (k - from) from) u)
    ∙ sym (passes rule source image s from stop n w (sym e))
