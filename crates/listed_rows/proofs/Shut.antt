-- 23: closing the rows listed, the last first.
-- Assumes nothing.
use mathlib.Core.Path.{◌≡◌, refl, sym, ap, ap₂, subst, ◌∙◌}
use Prim.Native.Nat.{ℕ, zero, suc, ◌-◌, ◌/◌, ◌%◌, ◌≤◌, ◌<◌}
use native.Mathlib.Omega.{arith}
use mathlib.Core.Bool.{Bool, true, false, ◌&&◌}
use mathlib.Core.List.{List, [], ◌∷◌, map}
use lib.Dec.{eqb}
use lib.ListN.{length, get_or, drop}
use Rattle.std.specs.Prelude.{Option}
use Rattle.rows.specs.declared.kinds.Kind.{Kind}
use Rattle.rows.specs.Kinds.{kind_of}
use Rattle.rows.specs.Places.{KIND}
use Rattle.rows.specs.View.{View, cell, view_of}
use Rattle.renderer_rules.specs.declared.Pen.{Pen}
use Rattle.renderer_rules.specs.Machine.{closes}
use Rattle.renderer_rules.specs.Stops.{is_deeper}
use Rattle.renderer_rules.specs.Listed.{can_close, closed_all, can_close_all}
use Rattle.listed_rows.specs.Numbers.{open_row, Closes}
use Rattle.listed_rows.proofs.Numbers.{deeper_is}

-- all from place k on are closed, and `left` is the pen then
pub record Shut (v : View) (numbers : List ℕ) (p left : Pen) (k : ℕ) : Type 0 where
  pub can : can_close_all v (map open_row (drop k numbers)) p ≡ true
  pub pen : left ≡ closed_all v (map open_row (drop k numbers)) p

nothing_left : (numbers : List ℕ) → drop (length numbers) numbers ≡ []
nothing_left [] = refl
nothing_left (x ∷ xs) = nothing_left xs

drop_some : (numbers : List ℕ) (k : ℕ) → k < length numbers → drop k numbers ≡ get_or numbers k 0 ∷ drop (suc k) numbers
drop_some [] k h = absurd (omega arith)
drop_some (x ∷ xs) zero h = refl
drop_some (x ∷ xs) (suc k) h = drop_some xs k (omega arith)

pub shut_start : (v : View) (numbers : List ℕ) (p : Pen) → Shut v numbers p p (length numbers)
unfolding can_close_all closed_all
shut_start v numbers p = record { can = rw (nothing_left numbers) refl; pen = rw (nothing_left numbers) refl }

-- what can't be closed from some place on can't be closed
none_closes : (v : View) (numbers : List ℕ) (p : Pen) (k : ℕ) → can_close_all v (map open_row (drop k numbers)) p ≡ false
    → can_close_all v (map open_row numbers) p ≡ false
unfolding can_close_all
none_closes v [] p zero e = e
none_closes v [] p (suc k) e = e
none_closes v (x ∷ xs) p zero e = e
none_closes v (x ∷ xs) p (suc k) e = rw (none_closes v xs p k e) refl

module _ (v : View) (numbers : List ℕ) (p left : Pen) (k : ℕ) (h : k < length numbers) (s : Shut v numbers p left (suc k)) where
  -- the row at place k
  abbrev kind : ℕ
  kind = v.kind (open_row (get_or numbers k 0)).row

  abbrev wraps : Bool
  wraps = (open_row (get_or numbers k 0)).wraps

  abbrev deeper : Bool
  deeper = is_deeper (open_row (get_or numbers k 0)).way

  one_more : can_close_all v (map open_row (drop k numbers)) p ≡ can_close kind wraps deeper left
  unfolding can_close_all
  one_more =
      ap (λ (l : List ℕ). can_close_all v (map open_row l) p) (drop_some numbers k h)
      ∙ ap₂ (λ (a : Bool) (q : Pen). a && can_close kind wraps deeper q) s.can (sym s.pen)

  pub can_not : can_close kind wraps deeper left ≡ false → can_close_all v (map open_row numbers) p ≡ false
  can_not e = none_closes v numbers p k (one_more ∙ e)

  pub shut_more : (q : Pen) → can_close kind wraps deeper left ≡ true → q ≡ closes kind wraps deeper left → Shut v numbers p q k
  unfolding closed_all
  shut_more q e f =
      record {
        can = one_more ∙ e;
        pen =
            f
            ∙ ap (closes kind wraps deeper) s.pen
            ∙ sym (ap (λ (l : List ℕ). closed_all v (map open_row l) p) (drop_some numbers k h));
      }

-- the row of a number, in code
module _ (store numbers : List ℕ) (p left : Pen) (place : ℕ) (h : 0 < place) (top : place ≤ length numbers)
    (s : Shut (view_of store) numbers p left place) (row : ℕ) (r : row ≡ (open_row (get_or numbers (place - 1) 0)).row) (kind : Option Kind)
    (e : kind ≡ kind_of (cell store row KIND)) (can : Bool) (q : Pen)
    (c : Closes kind (eqb (get_or numbers (place - 1) 0 % 2) 1) (eqb (get_or numbers (place - 1) 0 / 2 % 3) 2) left can q) where
  abbrev n : ℕ
  n = get_or numbers (place - 1) 0

  at_suc : Shut (view_of store) numbers p left (suc (place - 1))
  at_suc = subst (Shut (view_of store) numbers p left) (let z : place ≡ suc (place - 1) = omega arith in z) s

  is_kind : kind ≡ kind_of (cell store (open_row n).row KIND)
  is_kind = e ∙ ap (λ (i : ℕ). kind_of (cell store i KIND)) r

  wraps_is : eqb (n % 2) 1 ≡ (open_row n).wraps
  unfolding open_row
  wraps_is = refl

  deep_is : eqb (n / 2 % 3) 2 ≡ is_deeper (open_row n).way
  unfolding open_row
  deep_is = sym (deeper_is (n / 2 % 3))

  can_is : can ≡ can_close ((view_of store).kind (open_row n).row) (open_row n).wraps (is_deeper (open_row n).way) left
  unfolding view_of
  can_is =
      c.is (cell store (open_row n).row KIND) is_kind
      ∙ ap₂ (λ (a b : Bool). can_close (cell store (open_row n).row KIND) a b left) wraps_is deep_is

  pen_is : can ≡ true → q ≡ closes ((view_of store).kind (open_row n).row) (open_row n).wraps (is_deeper (open_row n).way) left
  unfolding view_of
  pen_is t =
      c.pen (cell store (open_row n).row KIND) is_kind t
      ∙ ap₂ (λ (a b : Bool). closes (cell store (open_row n).row KIND) a b left) wraps_is deep_is

  pub not_shut : can ≡ false → false ≡ can_close_all (view_of store) (map open_row numbers) p
  not_shut f = sym (can_not (view_of store) numbers p left (place - 1) (omega arith) at_suc (sym can_is ∙ f))

  pub shut_on : can ≡ true → Shut (view_of store) numbers p q (place - 1)
  shut_on t = shut_more (view_of store) numbers p left (place - 1) (omega arith) at_suc q (sym can_is ∙ t) (pen_is t)
