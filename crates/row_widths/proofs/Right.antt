-- Rows that 11 finds right may be summed, turned and turned back: the places that are used are 0.
-- Assumes nothing.
use mathlib.Core.Path.{◌≡◌, refl, sym, ap, ◌∙◌}
use Prim.Native.Nat.{ℕ, ◌≤◌, ◌<◌}
use mathlib.Core.Bool.{Bool, true, false, cond, ◌&&◌, ◌||◌}
use mathlib.Core.List.{List}
use lib.Dec.{eqb}
use borrow.Author.Tests.{eqb-true}
use Rattle.laws.proofs.Booleans.{and_left, and_right}
use Rattle.rows.specs.Kinds.{STR, ASCII}
use Rattle.rows.specs.Places.{KIND, NUMBER, SECOND_NUMBER, SECOND, WIDTH}
use Rattle.rows.specs.View.{cell}
use Rattle.renderer_rules.specs.Check.{uses_number, uses_number2, uses_second, uses_width, uses_text, text_fits, no_text_fits, places_fit}
use Rattle.row_widths.specs.Passes.{Unturned}

module _ (source image s : List ℕ) (from to : ℕ) (places : (i : ℕ) → from ≤ i → i < to → places_fit source image s i ≡ true) where
  abbrev second_right : ℕ → Bool
  second_right i = (uses_number2 (cell s i KIND) || eqb (cell s i SECOND_NUMBER) 0) && (uses_second (cell s i KIND) || eqb (cell s i SECOND) 0)

  abbrev numbers_right : ℕ → Bool
  numbers_right i = (uses_number (cell s i KIND) || eqb (cell s i NUMBER) 0) && second_right i

  abbrev width_right : ℕ → Bool
  width_right i = uses_width (cell s i KIND) || eqb (cell s i WIDTH) 0

  abbrev text_right : ℕ → Bool
  text_right i = cond (uses_text (cell s i KIND)) (text_fits source image s i) (no_text_fits s i)

  number_none : (i k : ℕ) → from ≤ i → i < to → cell s i KIND ≡ k → uses_number k ≡ false → cell s i NUMBER ≡ 0
  unfolding places_fit
  number_none i k l h e n =
      let all = and_left (numbers_right i) (width_right i && text_right i) (places i l h) in
      let a = and_left (uses_number (cell s i KIND) || eqb (cell s i NUMBER) 0) (second_right i) all in
      eqb-true (cell s i NUMBER) 0 (sym (ap (λ (x : Bool). x || eqb (cell s i NUMBER) 0) (ap uses_number e ∙ n)) ∙ a)

  width_none : (i k : ℕ) → from ≤ i → i < to → cell s i KIND ≡ k → uses_width k ≡ false → cell s i WIDTH ≡ 0
  unfolding places_fit
  width_none i k l h e n =
      let a = and_left (width_right i) (text_right i) (and_right (numbers_right i) (width_right i && text_right i) (places i l h)) in
      eqb-true (cell s i WIDTH) 0 (sym (ap (λ (x : Bool). x || eqb (cell s i WIDTH) 0) (ap uses_width e ∙ n)) ∙ a)

  pub unturned : Unturned s from to
  unturned =
      record {
        number = λ i l h e. number_none i ASCII l h e refl;
        width = λ i l h e. width_none i ASCII l h e refl;
        unmarked = λ i l h e. number_none i STR l h e refl;
      }
