-- Rows that refusal 11 lets pass are those within the limits that nest and have right places; so they join, and depend on nothing from the
-- stop on.
-- Assumes nothing.
use mathlib.Core.Path.{◌≡◌, refl, sym, ap, subst, ◌∙◌}
use mathlib.Core.Bool.{Bool, true, false, cond, ◌&&◌}
use Rattle.std.specs.Prelude.{Option, None, Some}
use mathlib.Core.List.{List}
use Prim.Native.Nat.{ℕ, zero, suc, ◌*◌, ◌-◌, ◌≤◌, ◌<◌}
use native.Mathlib.Omega.{arith}
use native.Mathlib.Decide.{dec_lt}
use lib.Dec.{ltb, leb}
use lib.ListN.{length, length-take}
use borrow.Author.Tests.{ltb-false, leb-true, le-leb}
use Rattle.rows.specs.Limits.{MAX_ROWS}
use Rattle.rows.specs.Places.{PLACES}
use Rattle.laws.proofs.Options.{never}
use Rattle.rows.specs.View.{View, view_of}
use Rattle.rows.specs.Nesting.{RangeIn, Nests, over}
use Rattle.rows.proofs.Nested.{nests_join}
use Rattle.renderer_rules.specs.Check.{row_fits_of, or_later, first_wrong, wrong_row_of, places_fit_by, wrong_place_by}
use Rattle.laws.proofs.Booleans.{both}
use Rattle.renderer_rules.proofs.Checked.{no_wrong, fits_row, accepted_nests, nested_accepted}
use Rattle.cut_rule.specs.Laws.{SameBefore}
use Rattle.whole_run.proofs.Local.{nests_local, rows_same, places_same}

-- ---- the places of rows with nothing wrong are right
module _ (places : ℕ → Bool) (v : View) where
  fit_row : (end d i k : ℕ) (a c : Bool) (r t : Option ℕ) → ltb i end ≡ a → row_fits_of places v end d i ≡ c
      → cond a (cond c (or_later r t) (Some i)) None ≡ None
      → i ≤ k
      → k < end
      → (RangeIn v i end → r ≡ None → suc i ≤ k → k < v.after i → places k ≡ true)
      → (RangeIn v i end → t ≡ None → v.after i ≤ k → places k ≡ true)
      → places k ≡ true
  fit_row end d i k true true r t p q e l h f g =
      let x = no_wrong r t e in
      let y = fits_row places v end d i q in
      go y.within y.fit x.0 x.1 (dec_lt i k) (dec_lt k (v.after i))
    where
      go : RangeIn v i end → places i ≡ true → r ≡ None → t ≡ None → Dec (i < k) → Dec (k < v.after i) → places k ≡ true
      go w y a c (no m) n = let z : i ≡ k = omega arith in subst (λ (j : ℕ). places j ≡ true) z y
      go w y a c (yes m) (yes n) = f w a m n
      go w y a c (yes m) (no n) = g w c (omega arith)
  fit_row end d i k true false r t p q e l h f g = absurd (never i e)
  fit_row end d i k false c r t p q e l h f g = absurd (let z = ltb-false i end p in omega arith)

  fit : (f end d i k : ℕ) → first_wrong f places v end d i ≡ None → end - i ≤ f → i ≤ k → k < end → places k ≡ true
  unfolding first_wrong
  fit zero end d i k e l p q = absurd (omega arith)
  fit (suc f) end d i k e l p q =
      fit_row end d i k
      (ltb i end)
      (row_fits_of places v end d i)
      (first_wrong f places v (v.after i) (suc d) (suc i))
      (first_wrong f places v end d (v.after i))
      refl
      refl
      e
      p
      q
      (λ w x m n. fit f (v.after i) (suc d) (suc i) k x (omega (arith, w.up, w.to)) m n)
      (λ w x m. fit f end d (v.after i) k x (omega (arith, w.up)) m q)

  accepted_places : (end d i k : ℕ) → wrong_row_of places v end d i ≡ None → i ≤ k → k < end → places k ≡ true
  unfolding wrong_row_of
  accepted_places end d i k e p q = fit (end - i) end d i k e (omega arith) p q

-- ---- 11 as a statement
pub record Right (rule : ℕ) (s b store : List ℕ) (i n : ℕ) : Type 0 where
  pub few : n ≤ MAX_ROWS
  pub room : n * PLACES ≤ length store
  pub nests : Nests (view_of store) i n 0
  pub places : (k : ℕ) → i ≤ k → k < n → places_fit_by rule s b store k ≡ true

module _ (rule : ℕ) (s b : List ℕ) where
  pub right : (store : List ℕ) (i n : ℕ) → i ≤ n → wrong_place_by rule s b store i n ≡ None → Right rule s b store i n
  unfolding wrong_place_by
  right store i n h e = go (leb n MAX_ROWS && leb (n * PLACES) (length store)) refl e
    where
      go : (c : Bool) → (leb n MAX_ROWS && leb (n * PLACES) (length store)) ≡ c
          → cond c (wrong_row_of (places_fit_by rule s b store) (view_of store) n 0 i) (Some 0) ≡ None
          → Right rule s b store i n
      go true q e =
          let x = both (leb n MAX_ROWS) (leb (n * PLACES) (length store)) q in
          record {
            few = leb-true n MAX_ROWS x.0;
            room = leb-true (n * PLACES) (length store) x.1;
            nests = accepted_nests (places_fit_by rule s b store) (view_of store) n 0 i e h;
            places = λ k p q. accepted_places (places_fit_by rule s b store) (view_of store) n 0 i k e p q;
          }
      go false q e = absurd (never 0 e)

  pub none_found : (store : List ℕ) (i n : ℕ) → Right rule s b store i n → wrong_place_by rule s b store i n ≡ None
  unfolding wrong_place_by
  none_found store i n r =
      rw (le-leb n MAX_ROWS r.few, le-leb (n * PLACES) (length store) r.room)
      (nested_accepted (places_fit_by rule s b store) (view_of store) n 0 i r.nests r.places)

  -- no rows
  pub right_none : (store : List ℕ) → Right rule s b store 0 0
  right_none store = record { few = omega arith; room = omega arith; nests = over refl; places = λ k p q. absurd (omega arith) }

  -- rows, and rows behind them
  pub right_both : (store : List ℕ) (n m : ℕ) → Right rule s b store 0 n → Right rule s b store n m → Right rule s b store 0 m
  right_both store n m x y =
      record { few = y.few; room = y.room; nests = nests_join x.nests y.nests; places = λ k p q. go k q (dec_lt k n) }
    where
      go : (k : ℕ) → k < m → Dec (k < n) → places_fit_by rule s b store k ≡ true
      go k q (yes l) = x.places k (omega arith) l
      go k q (no l) = y.places k (omega arith) q

  -- a store with the same rows before the stop
  pub right_same : (store other : List ℕ) (n : ℕ) → SameBefore n store other → Right rule s b store 0 n → Right rule s b other 0 n
  right_same store other n e x =
      record {
        few = x.few;
        room = omega (arith, x.room, length-take (PLACES * n) store, length-take (PLACES * n) other, ap length e);
        nests = nests_local (view_of other) (rows_same n store other e 0) x.nests;
        places = λ k p q. sym (places_same n store other e rule s b k q) ∙ x.places k p q;
      }
