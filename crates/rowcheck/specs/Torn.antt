-- Refusal 11 by a rule as two passes: the rows as they were checked before, then the texts of the rows before the one that is wrong.
use Prim.Native.Nat.{ℕ, zero, suc, ◌-◌, ◌≤◌, ◌<◌}
use mathlib.Core.Path.{◌≡◌}
use mathlib.Core.Bool.{Bool, true, cond, ◌&&◌}
use mathlib.Core.List.{List}
use Rattle.std.specs.Prelude.{Option, Some, None}
use Rattle.rows.specs.View.{View}
use Rattle.widths.specs.Rules.{SUPPLIED}
use Rattle.renderer_rules.specs.Check.{places_fit, or_later, wrong_row_of, wrong_place, whole_at, wrong_place_by}

-- the first of the n rows from row i on that fails a test
unfoldable pub first_failing : (ℕ → Bool) → ℕ → ℕ → Option ℕ
first_failing also zero i = None
first_failing also (suc n) i = cond (also i) (first_failing also n (suc i)) (Some i)

-- up to which row the second pass goes: the row that the first found wrong, or the end
abbrev pub up_to : Option ℕ → ℕ → ℕ
up_to None end = end
up_to (Some k) end = k

-- the first wrong row under two tests is the first row, before the one that the first test finds, which fails the second; else the one that it finds
abbrev pub TwoTests : Type 0
TwoTests =
    (places also : ℕ → Bool) (v : View) (end d i : ℕ)
    → wrong_row_of (λ k. places k && also k) v end d i
    ≡ or_later (first_failing also (up_to (wrong_row_of places v end d i) end - i) i) (wrong_row_of places v end d i)

-- so refusal 11 by a rule, where widths are not supplied, is the second pass behind the first
abbrev pub TwoPasses : Type 0
TwoPasses =
    (rule : ℕ) (source image store : List ℕ) (from stop : ℕ) → (rule ≡ SUPPLIED → ⊥)
    → let wrong = wrong_place source image store from stop in
    wrong_place_by rule source image store from stop ≡ or_later (first_failing (whole_at source image store) (up_to wrong stop - from) from) wrong

-- rows that are right but for what their texts hold
pub record Fitting (source image store : List ℕ) (from to : ℕ) : Type 0 where
  pub fits : (i : ℕ) → from ≤ i → i < to → places_fit source image store i ≡ true
