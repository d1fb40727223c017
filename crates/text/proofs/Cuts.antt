-- Texts that cut no character: a boundary is no place inside one; a text that is UTF_8 and not empty starts at a boundary; a text that ends at one
-- is a range of what it stands in, though that isn't UTF_8 as a whole, and what is left of it trimmed is UTF_8 too.
-- Assumes nothing.
use mathlib.Core.Path.{◌≡◌, refl, sym, ap, ◌∙◌}
use mathlib.Core.Bool.{Bool, true, false, ◌&&◌}
use mathlib.Core.List.{List}
use Prim.Native.Nat.{ℕ, ◌+◌, ◌-◌, ◌≤◌, ◌<◌}
use native.Mathlib.Omega.{arith}
use native.Mathlib.Nat.{add-zero}
use lib.ListN.{length, take, drop}
use lib.Seq.{take-take}
use lib.Dec.{ltb, leb}
use borrow.Author.Tests.{leb-true, le-leb, ltb-true, ltb-false}
use Rattle.laws.proofs.Booleans.{and_right, clash}
use Rattle.text.specs.Utf8.{sequence, well_formed, boundary, reaches_over, cuts}
use Rattle.text.specs.Space.{trim_end}
use Rattle.text.specs.Newlines.{is_range}
use Rattle.text.proofs.Boundaries.{first_boundary, inner_none}
use Rattle.text.proofs.Counts.{range_is, range_order, range_start, range_end}
use Rattle.text.proofs.Parts.{part_length, part_byte, sequence_up, between, length_between, boundary_between, well_formed_between}
use Rattle.text.proofs.Reached.{here, reached_starts, boundary_iff}
use Rattle.text.proofs.Sequences.{sequence_fits}
use Rattle.text.proofs.Trims.{trim_before, trim_range}

-- ---- a boundary is no place inside a character
none_over : (s : List ℕ) (at k : ℕ) → 0 < k → boundary s at ≡ true → reaches_over s at k ≡ false
none_over s at k p b = go (leb k at) refl (ltb k (sequence s (at - k))) refl
  where
    go : (x : Bool) → leb k at ≡ x → (y : Bool) → ltb k (sequence s (at - k)) ≡ y → (x && y) ≡ false
    go false e y f = refl
    go true e false f = refl
    go true e true f =
        let same : at - k + k ≡ at = omega (arith, leb-true k at e) in
        let none = inner_none s (at - k) k p (ltb-true k (sequence s (at - k)) f) in
        absurd (clash (boundary s at) b (rw same at none))

pub uncut : (s : List ℕ) (at : ℕ) → boundary s at ≡ true → cuts s at ≡ false
unfolding cuts
uncut s at b = rw (none_over s at 1 (omega arith) b, none_over s at 2 (omega arith) b, none_over s at 3 (omega arith) b)

-- ---- a text within bytes that are no text as a whole
pub starts : (b : List ℕ) (x y : ℕ) → x < y → y ≤ length b → well_formed (between b x y) ≡ true → boundary b x ≡ true
starts b x y more fits formed =
    let fit : x + (y - x) ≤ length b = omega arith in
    let some = reached_starts (between b x y) 0 formed here (omega (arith, part_length b x (y - x) fit)) in
    let up = sequence_up b x (y - x) fit 0 some in
    let first : 0 < sequence b x = omega (arith, ap (sequence b) (add-zero x), up) in
    first_boundary b x first

pub text_range : (b : List ℕ) (x y : ℕ) → x ≤ y → y ≤ length b → well_formed (between b x y) ≡ true → boundary b y ≡ true → is_range b x y ≡ true
text_range b x y le fits formed clear = range_is b x y le (go (ltb x y) refl) clear
  where
    go : (t : Bool) → ltb x y ≡ t → boundary b x ≡ true
    go true l = starts b x y (ltb-true x y l) fits formed
    go false l = let same : x ≡ y = omega (arith, ltb-false x y l) in rw same clear

-- it cuts nothing at its end either: what starts before it passes its start, and what starts in it ends in it
module _ (s : List ℕ) (x y : ℕ) (more : x < y) (fits : y ≤ length s) (formed : well_formed (between s x y) ≡ true) where
  fit : x + (y - x) ≤ length s
  fit = omega arith

  part_boundary : (j : ℕ) → j < y - x → boundary s (x + j) ≡ true → boundary (between s x y) j ≡ true
  unfolding boundary
  part_boundary j h b =
      let inside = le-leb j (length (between s x y)) (omega (arith, part_length s x (y - x) fit)) in
      rw (part_byte s x (y - x) fit j h, inside) (and_right (leb (x + j) (length s)) _ b)

  ends_in : (i : ℕ) → x ≤ i → i < y → 0 < sequence s i → i + sequence s i ≤ y
  ends_in i a b some =
      let t = between s x y in
      let j = i - x in
      let n = part_length s x (y - x) fit in
      let there : x + j ≡ i = omega arith in
      let same : boundary t j ≡ true = part_boundary j (omega arith) (rw there (first_boundary s i some)) in
      let first = reached_starts t j formed ((boundary_iff t j formed).0 same) (omega arith) in
      let up : sequence s i ≡ sequence t j = sym (ap (sequence s) there) ∙ sequence_up s x (y - x) fit j first in
      omega (arith, sequence_fits t j (omega arith))

  none_past : (k : ℕ) → 0 < k → reaches_over s y k ≡ false
  none_past k p = go (leb k y) refl (ltb k (sequence s (y - k))) refl
    where
      go : (a : Bool) → leb k y ≡ a → (b : Bool) → ltb k (sequence s (y - k)) ≡ b → (a && b) ≡ false
      go false e b f = refl
      go true e false f = refl
      go true e true f =
          let long = ltb-true k (sequence s (y - k)) f in
          let some : k ≤ y = leb-true k y e in
          absurd (late (ltb (y - k) x) refl long some)
        where
          late : (c : Bool) → ltb (y - k) x ≡ c → k < sequence s (y - k) → k ≤ y → ⊥
          late true q long some =
              let before = ltb-true (y - k) x q in
              let same : y - k + (x - (y - k)) ≡ x = omega arith in
              clash (boundary s x) (starts s x y more fits formed)
              (rw same at (inner_none s (y - k) (x - (y - k)) (omega arith) (omega arith)))
          late false q long some = omega (arith, ltb-false (y - k) x q, ends_in (y - k) (ltb-false (y - k) x q) (omega arith) (omega arith))

pub end_uncut : (s : List ℕ) (x y : ℕ) → x ≤ y → y ≤ length s → well_formed (between s x y) ≡ true → cuts s x ≡ false → cuts s y ≡ false
unfolding cuts
end_uncut s x y le fits formed u = go (ltb x y) refl
  where
    go : (t : Bool) → ltb x y ≡ t → cuts s y ≡ false
    go true l =
        let none = none_past s x y (ltb-true x y l) fits formed in
        rw (none 1 (omega arith), none 2 (omega arith), none 3 (omega arith))
    go false l = let same : x ≡ y = omega (arith, ltb-false x y l) in rw same at u

-- the start of a range that is UTF_8, up to a boundary, is UTF_8
front_formed : (b : List ℕ) (x k y : ℕ) → is_range b x y ≡ true → is_range b x k ≡ true → k ≤ y → well_formed (between b x y) ≡ true
    → well_formed (between b x k) ≡ true
front_formed b x k y r q h e =
    let t = between b x y in
    let xk = range_order b x k q in
    let n : length t ≡ y - x = length_between b x y r in
    let there : x + (k - x) ≡ k = omega arith in
    let first : boundary t 0 ≡ true = boundary_between b x y r 0 (omega arith) ∙ ap (boundary b) (add-zero x) ∙ range_start b x y r in
    let last : boundary t (k - x) ≡ true = boundary_between b x y r (k - x) (omega arith) ∙ ap (boundary b) there ∙ range_end b x k q in
    let front = well_formed_between t 0 (k - x) (range_is t 0 (k - x) (omega arith) first last) e in
    let less : k - x - 0 ≡ k - x = omega arith in
    let same : between t 0 (k - x) ≡ between b x k =
    ap (λ (n : ℕ). take n t) less ∙ take-take (k - x) (y - x) (drop x b) (omega arith) in
    sym (ap well_formed same) ∙ front

-- so is a trimmed text
pub trimmed_formed : (b : List ℕ) (x y : ℕ) → is_range b x y ≡ true → well_formed (between b x y) ≡ true → well_formed (between b x (trim_end b x y)) ≡ true
trimmed_formed b x y r e = front_formed b x (trim_end b x y) y r (trim_range b x y r) (trim_before b x y) e
