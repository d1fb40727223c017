-- The place one byte before a comment's end, where `pop_whitespace` leaves the position: it may fall inside a character.
-- Assumes nothing.
use mathlib.Core.Path.{◌≡◌, refl, ◌∙◌}
use mathlib.Core.Bool.{Bool, true, false}
use mathlib.Core.List.{List, [], ◌∷◌}
use Prim.Native.Nat.{ℕ, ◌+◌, ◌-◌, ◌≤◌, ◌<◌}
use native.Mathlib.Omega.{arith}
use lib.Dec.{eqb}
use borrow.Author.Tests.{eqb-true, eqb-false, ne_eqb}
use Rattle.text.specs.Utf8.{sequence, boundary, ending, well_formed, run, prefix, row_in, within, followed, ends}
use Rattle.text.specs.Newlines.{newline_places, counted, is_range, count_newlines}
use Rattle.text.proofs.Boundaries.{first_boundary, inner_none}
use Rattle.text.proofs.Characters.{ending_fits}
use Rattle.text.proofs.Counts.{count_none, range_off_start}

-- it is a boundary only if the character that ends there has one byte
pub before_end : (s : List ℕ) (from to : ℕ) → 0 < ending s from to → boundary s (to - 1) ≡ eqb (ending s from to) 1
before_end s from to h = let w = ending_fits s from to h in go (ending s from to) h w.0 w.1 (eqb (ending s from to) 1) refl
  where
    go : (n : ℕ) → 0 < n → from + n ≤ to → sequence s (to - n) ≡ n → (t : Bool) → eqb n 1 ≡ t → boundary s (to - 1) ≡ t
    go n some fits e true q =
        let first : to - n ≡ to - 1 = omega (arith, eqb-true n 1 q) in
        rw first at (first_boundary s (to - n) (omega arith))
    go n some fits e false q =
        let more : 1 < n = omega (arith, eqb-false n 1 q) in
        let last : to - n + (n - 1) ≡ to - 1 = omega arith in
        rw last at (inner_none s (to - n) (n - 1) (omega arith) (omega arith))

-- otherwise a count from there has none
pub count_before_end : (s : List ℕ) (from to stop : ℕ) → 1 < ending s from to → count_newlines s (to - 1) stop ≡ counted stop []
count_before_end s from to stop h =
    let off = before_end s from to (omega arith) ∙ ne_eqb (ending s from to) 1 (omega arith) in
    count_none s (to - 1) stop (range_off_start s (to - 1) stop off)

-- `é` and a newline: one newline from the end of `é` on, none from a byte before it
abbrev accent : List ℕ
accent = 0xC3 ∷ 0xA9 ∷ 0x0A ∷ []

accent_ends : (well_formed accent ≡ true) × (ending accent 0 2 ≡ 2)
    × (count_newlines accent 2 3 ≡ counted 3 (2 ∷ [])) × (count_newlines accent 1 3 ≡ counted 3 [])
unfolding well_formed prefix run sequence followed row_in within ending ends count_newlines is_range boundary newline_places
accent_ends = (refl, refl, refl, refl)
