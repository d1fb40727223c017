-- Trimming: the end that it gives lies in the range and on a boundary, and what is left does not end in white space.
-- Assumes nothing.
use mathlib.Core.Path.{◌≡◌, refl, sym}
use mathlib.Core.Bool.{Bool, true, false, cond}
use mathlib.Core.List.{List}
use Prim.Native.Nat.{ℕ, zero, suc, ◌+◌, ◌-◌, ◌≤◌, ◌<◌}
use native.Mathlib.Omega.{arith}
use Rattle.text.specs.Utf8.{boundary, ending, char_before}
use Rattle.text.specs.Space.{is_white, trim, trim_end}
use Rattle.text.specs.Newlines.{is_range}
use Rattle.text.specs.declared.utf8.Char.{Char}
use Rattle.std.specs.Prelude.{Option, None, Some}
use Rattle.text.proofs.Boundaries.{first_boundary}
use Rattle.text.proofs.Characters.{before_inside, before_empty, ending_fits}
use Rattle.text.proofs.Counts.{range_order, range_start, range_end, range_is}
use Rattle.text.proofs.Walks.{trim_start, trim_nothing, trim_text}

-- what holds at a place, and stays where a character before it is left out, holds at the end that trimming gives
trim_keeps :
    (P : ℕ → Type 0) (s : List ℕ) (from : ℕ)
    → ((end : ℕ) (c : Char) → char_before s from end ≡ Some c → P end → P (end - c.bytes))
    → (n to : ℕ)
    → P to
    → P (trim n s from to)
unfolding trim
trim_keeps P s from more zero to h = h
trim_keeps P s from more (suc n) to h = go (trim_keeps P s from more n) (char_before s from to) refl
  where
    go :
        ((to : ℕ) → P to → P (trim n s from to)) → (d : Option Char) → char_before s from to ≡ d
        → P (elim d [ None ↦ to | Some c ↦ cond (is_white c.code) (trim n s from (to - c.bytes)) to ])
    go rest None e = h
    go rest (Some c) e = go_on (is_white c.code)
      where
        go_on : (t : Bool) → P (cond t (trim n s from (to - c.bytes)) to)
        go_on true = rest (to - c.bytes) (more to c e h)
        go_on false = h

-- the end moves back, and not past the start
pub trim_before : (s : List ℕ) (from to : ℕ) → trim_end s from to ≤ to
unfolding trim_end
trim_before s from to = trim_keeps (λ e. e ≤ to) s from (λ end c e h. omega arith) (to - from) to (omega arith)

pub trim_after : (s : List ℕ) (from to : ℕ) → from ≤ to → from ≤ trim_end s from to
unfolding trim_end
trim_after s from to h = trim_keeps (λ e. from ≤ e) s from (λ end c e h. omega (arith, (before_inside s from end c e).1)) (to - from) to h

-- a boundary stays one, since each character that is trimmed starts at one
pub trim_boundary : (s : List ℕ) (from to : ℕ) → boundary s to ≡ true → boundary s (trim_end s from to) ≡ true
unfolding trim_end
trim_boundary s from to = trim_keeps (λ e. boundary s e ≡ true) s from (λ end c e h. starts end c.bytes (before_inside s from end c e)) (to - from) to
  where
    starts : (end k : ℕ) → (0 < k) × (from + k ≤ end) × (k ≡ ending s from end) → boundary s (end - k) ≡ true
    starts end k w =
        let there = (ending_fits s from end (omega arith)).1 in
        rw w.2 (first_boundary s (end - ending s from end) (omega arith))

-- the trimmed range is a range
pub trim_range : (s : List ℕ) (from to : ℕ) → is_range s from to ≡ true → is_range s from (trim_end s from to) ≡ true
trim_range s from to e =
    let after = trim_after s from to (range_order s from to e) in
    range_is s from (trim_end s from to) after (range_start s from to e) (trim_boundary s from to (range_end s from to e))

-- with turns enough, trimming stops only where no white space ends
left_by : (n : ℕ) (s : List ℕ) (from to : ℕ) → to ≤ from + n → (c : Char) → char_before s from (trim n s from to) ≡ Some c
    → is_white c.code ≡ false
unfolding trim
left_by zero s from to h c e = let z : ◌≡◌ {A = ℕ} 0 1 = cc (before_empty s from to (omega arith)) in absurd (omega arith)
left_by (suc n) s from to h c e = go (left_by n s from) (char_before s from to) refl e
  where
    go :
        ((to : ℕ) → to ≤ from + n → (c : Char) → char_before s from (trim n s from to) ≡ Some c → is_white c.code ≡ false)
        → (d : Option Char)
        → char_before s from to ≡ d
        → char_before s from (elim d [ None ↦ to | Some c ↦ cond (is_white c.code) (trim n s from (to - c.bytes)) to ]) ≡ Some c
        → is_white c.code ≡ false
    go more None q e = let z : ◌≡◌ {A = ℕ} 0 1 = cc in absurd (omega arith)
    go more (Some b) q e = go_on (is_white b.code) refl e
      where
        go_on : (t : Bool) → is_white b.code ≡ t → char_before s from (cond t (trim n s from (to - b.bytes)) to) ≡ Some c → is_white c.code ≡ false
        go_on true w e = more (to - b.bytes) (omega (arith, (before_inside s from to b q).0)) c e
        go_on false w e = let same : b.code ≡ c.code = cc in rw same at w

-- what is left does not end in white space
pub trim_left : (s : List ℕ) (from to : ℕ) (c : Char) → char_before s from (trim_end s from to) ≡ Some c → is_white c.code ≡ false
unfolding trim_end
trim_left s from to = left_by (to - from) s from to (omega arith)

-- trimming twice is trimming once
pub trim_again : (s : List ℕ) (from to : ℕ) → trim_end s from (trim_end s from to) ≡ trim_end s from to
trim_again s from to = go (char_before s from (trim_end s from to)) refl
  where
    go : (d : Option Char) → char_before s from (trim_end s from to) ≡ d → trim_end s from (trim_end s from to) ≡ trim_end s from to
    go None e = sym (trim_nothing s from (trim_end s from to) (trim_end s from to) e (trim_start s from (trim_end s from to)))
    go (Some c) e =
        sym (trim_text s from (trim_end s from to) (trim_end s from to) c e (trim_left s from to c e) (trim_start s from (trim_end s from to)))
