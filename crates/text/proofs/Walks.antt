-- Laws of `trim` and `seek`: a range walked from its end, a text walked from a place.
-- Assumes nothing.
use mathlib.Core.Path.{◌≡◌, refl, sym, ap, ◌∙◌}
use mathlib.Core.Bool.{true, false}
use mathlib.Core.List.{List}
use mathlib.Core.Logic.{◌⊎◌}
use Prim.Native.Nat.{ℕ, zero, suc, ◌+◌, ◌-◌, ◌≤◌, ◌<◌}
use native.Mathlib.Omega.{arith}
use lib.ListN.{length, take, drop, length-take}
use lib.Seq.{take-take}
use Rattle.text.specs.Utf8.{char_at, char_before}
use Rattle.text.specs.Space.{is_white, trim, trim_end, is_passed, seek, something}
use Rattle.text.specs.declared.utf8.Char.{Char}
use Rattle.std.specs.Prelude.{None, Some}
use Rattle.text.proofs.Characters.{at_inside, before_inside, before_outside}
use Rattle.text.proofs.Parts.{part, part_length, before_part}

-- `trim_end` is found by going on from `end`
pub record Trimming (s : List ℕ) (from to end : ℕ) : Type 0 where
  pub turns : ℕ
  pub enough : end ≤ from + turns
  pub same : trim_end s from to ≡ trim turns s from end

pub trim_start : (s : List ℕ) (from to : ℕ) → Trimming s from to to
unfolding trim_end
trim_start s from to = record { turns = to - from; enough = omega arith; same = refl }

trim_on : (m : ℕ) (s : List ℕ) (from to : ℕ) (c : Char) → char_before s from to ≡ Some c
    → is_white c.code ≡ true → trim (suc m) s from to ≡ trim m s from (to - c.bytes)
unfolding trim
trim_on m s from to c e w = rw (e, trim) (rw w)

pub trim_next :
    (s : List ℕ) (from to end : ℕ) (c : Char) → from < end → char_before s from end ≡ Some c
    → is_white c.code ≡ true → Trimming s from to end → Trimming s from to (end - c.bytes)
trim_next s from to end c h e w g = go g.turns g.enough g.same
  where
    go : (m : ℕ) → end ≤ from + m → trim_end s from to ≡ trim m s from end → Trimming s from to (end - c.bytes)
    go zero f p = absurd (omega arith)
    go (suc m) f p =
        record { turns = m; enough = omega (arith, (before_inside s from end c e).0); same = p ∙ trim_on m s from end c e w }

stop_at_nothing : (m : ℕ) (s : List ℕ) (from to : ℕ) → char_before s from to ≡ None → trim m s from to ≡ to
unfolding trim
stop_at_nothing zero s from to e = refl
stop_at_nothing (suc m) s from to e = rw (e, trim)

stop_at_text : (m : ℕ) (s : List ℕ) (from to : ℕ) (c : Char) → char_before s from to ≡ Some c → is_white c.code ≡ false
    → trim m s from to ≡ to
unfolding trim
stop_at_text zero s from to c e w = refl
stop_at_text (suc m) s from to c e w = rw (e, trim) (rw w)

pub trim_nothing : (s : List ℕ) (from to end : ℕ) → char_before s from end ≡ None → Trimming s from to end → end ≡ trim_end s from to
trim_nothing s from to end e g = sym (g.same ∙ stop_at_nothing g.turns s from end e)

pub trim_text : (s : List ℕ) (from to end : ℕ) (c : Char) → char_before s from end ≡ Some c
    → is_white c.code ≡ false → Trimming s from to end → end ≡ trim_end s from to
trim_text s from to end c e w g = sym (g.same ∙ stop_at_text g.turns s from end c e w)

-- what is left of the range while it is trimmed, and that its end is gone on from
pub record Left (s : List ℕ) (from to : ℕ) (text : List ℕ) : Type 0 where
  pub inside : from + length text ≤ length s
  pub same : text ≡ part s from (length text)
  pub goes : Trimming s from to (from + length text)

pub left_start : (s : List ℕ) (from to : ℕ) → from ≤ to → to ≤ length s → Left s from to (part s from (to - from))
left_start s from to h k =
    let size = part_length s from (to - from) (omega arith) in
    let end : from + length (part s from (to - from)) ≡ to = omega arith in
    record { inside = omega arith; same = ap (part s from) (sym size); goes = rw end (trim_start s from to) }

-- its last character is the range's
left_before : {s text : List ℕ} {from to : ℕ} → Left s from to text → char_before text 0 (length text) ≡ char_before s from (from + length text)
left_before {s} {text} {from} {to} l = ap (λ (t : List ℕ). char_before t 0 (length text)) l.same ∙ before_part s from (length text) l.inside

-- and that of a range is the text's
pub before_range : (s : List ℕ) (from to : ℕ) → from ≤ to → to ≤ length s
    → char_before (part s from (to - from)) 0 (length (part s from (to - from))) ≡ char_before s from to
before_range s from to h k =
    let size = part_length s from (to - from) (omega arith) in
    let end : from + length (part s from (to - from)) ≡ to = omega arith in
    left_before (left_start s from to h k) ∙ ap (char_before s from) end

pub left_smaller : (text : List ℕ) (c : Char) → char_before text 0 (length text) ≡ Some c → length (take (length text - c.bytes) text) < length text
left_smaller text c e = let some = before_inside text 0 (length text) c e in rw length-take (omega (arith, some.0, some.1))

pub left_next :
    (s : List ℕ) (from to : ℕ) (text : List ℕ) (c : Char) → char_before text 0 (length text) ≡ Some c → is_white c.code ≡ true
    → Left s from to text → Left s from to (take (length text - c.bytes) text)
left_next s from to text c e w l =
    let some = before_inside text 0 (length text) c e in
    let size : length (take (length text - c.bytes) text) ≡ length text - c.bytes = simp length-take (omega arith) in
    let end : from + length (take (length text - c.bytes) text) ≡ from + length text - c.bytes = omega (arith, some.0, some.1) in
    record {
      inside = omega (arith, l.inside);
      same =
          ap (take (length text - c.bytes)) l.same
          ∙ take-take (length text - c.bytes) (length text) (drop from s) (omega arith)
          ∙ ap (part s from) (sym size);
      goes = rw end (trim_next s from to (from + length text) c (omega (arith, some.0, some.1)) (sym (left_before l) ∙ e) w l.goes);
    }

pub left_nothing :
    (s : List ℕ) (from to : ℕ) (text : List ℕ) → char_before text 0 (length text) ≡ None → Left s from to text
    → from + length text ≡ trim_end s from to
left_nothing s from to text e l = trim_nothing s from to (from + length text) (sym (left_before l) ∙ e) l.goes

pub left_text :
    (s : List ℕ) (from to : ℕ) (text : List ℕ) (c : Char) → char_before text 0 (length text) ≡ Some c → is_white c.code ≡ false
    → Left s from to text → from + length text ≡ trim_end s from to
left_text s from to text c e w l = trim_text s from to (from + length text) c (sym (left_before l) ∙ e) w l.goes

-- nothing is trimmed where there is no range
pub left_none : (s : List ℕ) (from to : ℕ) → (to < from) ⊎ (length s < to) → to ≡ trim_end s from to
left_none s from to h = trim_nothing s from to to (before_outside s from to h) (trim_start s from to)

-- `something` is found by going on from `here`
pub record Seeking (s : List ℕ) (at here : ℕ) : Type 0 where
  pub turns : ℕ
  pub enough : length s ≤ here + turns
  pub same : something s at ≡ seek turns s here

pub seek_start : (s : List ℕ) (at : ℕ) → Seeking s at at
unfolding something
seek_start s at = record { turns = length s; enough = omega arith; same = refl }

seek_on : (m : ℕ) (s : List ℕ) (at : ℕ) (c : Char) → char_at s at ≡ Some c → is_passed c.code ≡ true
    → seek (suc m) s at ≡ seek m s (at + c.bytes)
unfolding seek
seek_on m s at c e w = rw (e, seek) (rw w)

pub seek_next : (s : List ℕ) (at here : ℕ) (c : Char) → here < length s → char_at s here ≡ Some c
    → is_passed c.code ≡ true → Seeking s at here → Seeking s at (here + c.bytes)
seek_next s at here c h e w g = go g.turns g.enough g.same
  where
    go : (m : ℕ) → length s ≤ here + m → something s at ≡ seek m s here → Seeking s at (here + c.bytes)
    go zero f p = absurd (omega arith)
    go (suc m) f p = record { turns = m; enough = omega (arith, (at_inside s here c e).0); same = p ∙ seek_on m s here c e w }

found_at : (m : ℕ) (s : List ℕ) (at : ℕ) (c : Char) → char_at s at ≡ Some c → is_passed c.code ≡ false → seek (suc m) s at ≡ Some at
unfolding seek
found_at m s at c e w = rw (e, seek) (rw w)

pub seek_found : (s : List ℕ) (at here : ℕ) (c : Char) → here < length s → char_at s here ≡ Some c
    → is_passed c.code ≡ false → Seeking s at here → Some here ≡ something s at
seek_found s at here c h e w g = go g.turns g.enough g.same
  where
    go : (m : ℕ) → length s ≤ here + m → something s at ≡ seek m s here → Some here ≡ something s at
    go zero f p = absurd (omega arith)
    go (suc m) f p = sym (p ∙ found_at m s here c e w)

none_found : (m : ℕ) (s : List ℕ) (at : ℕ) → char_at s at ≡ None → seek m s at ≡ None
unfolding seek
none_found zero s at e = refl
none_found (suc m) s at e = rw (e, seek)

pub seek_nothing : (s : List ℕ) (at here : ℕ) → char_at s here ≡ None → Seeking s at here → None ≡ something s at
seek_nothing s at here e g = sym (g.same ∙ none_found g.turns s here e)
