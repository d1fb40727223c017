-- A number lists one row, and a row has one number.
-- Assumes nothing.
use mathlib.Core.Path.{◌≡◌, refl, sym, ap, ◌∙◌}
use Prim.Native.Nat.{ℕ, zero, suc, ◌+◌, ◌*◌, ◌/◌, ◌%◌, ◌^◌, ◌≤◌, ◌<◌}
use native.Mathlib.Omega.{arith}
use mathlib.Core.Bool.{Bool, true, false, cond, not}
use mir.Val.{bool_byte}
use lib.Dec.{eqb}
use borrow.Author.Tests.{eqb-true}
use Rattle.rows.specs.Limits.{MAX_ROWS}
use Rattle.rows.specs.View.{View}
use Rattle.renderer_rules.specs.declared.Frame.{Frame}
use Rattle.renderer_rules.specs.Stops.{Way, trailing, made_flat, made_wrapped, way_of, is_made, is_deeper, OpenRow, open_at, listed_as}
use Rattle.renderer_rules.specs.Listed.{is_early, resumed}
use Rattle.listed_rows.specs.Numbers.{way_number, numbered_way, flag_number, row_number, open_row, NumbersRows}

-- the digits of a sum
row_of : (i w b : ℕ) → w ≤ 2 → b ≤ 1 → (i * 6 + w * 2 + b) / 6 ≡ i
row_of i w b h k = omega arith

flag_of : (i w b : ℕ) → b ≤ 1 → (i * 6 + w * 2 + b) % 2 ≡ b
flag_of i w b k = omega arith

way_digit : (i w b : ℕ) → w ≤ 2 → b ≤ 1 → (i * 6 + w * 2 + b) / 2 % 3 ≡ w
way_digit i w b h k = omega arith

way_back : (w : Way) → numbered_way (way_number w) ≡ w
way_back trailing = refl
way_back made_flat = refl
way_back made_wrapped = refl

way_low : (w : Way) → way_number w ≤ 2
way_low trailing = omega arith
way_low made_flat = omega arith
way_low made_wrapped = omega arith

flag_back : (b : Bool) → eqb (flag_number b) 1 ≡ b
flag_back true = refl
flag_back false = refl

flag_low : (b : Bool) → flag_number b ≤ 1
flag_low true = omega arith
flag_low false = omega arith

listed_back : (l : OpenRow) → open_row (row_number l) ≡ l
unfolding open_row row_number
listed_back l =
    let w = way_number l.way in
    let b = flag_number l.wraps in
    let h = way_low l.way in
    let k = flag_low l.wraps in
    (λ i. open_at (row_of l.row w b h k i) (eqb (flag_of l.row w b k i) 1) (numbered_way (way_digit l.row w b h k i)))
    ∙ (λ i. open_at l.row (flag_back l.wraps i) (way_back l.way i))

number_same : (n : ℕ) → row_number (open_row n) ≡ n
unfolding open_row row_number
number_same n = rw (way_is (n / 2 % 3) (omega arith), flag_is (n % 2) (omega arith)) (omega arith)
  where
    way_is : (k : ℕ) → k < 3 → way_number (numbered_way k) ≡ k
    way_is zero h = refl
    way_is (suc zero) h = refl
    way_is (suc (suc zero)) h = refl
    way_is (suc (suc (suc k))) h = absurd (omega arith)

    flag_is : (k : ℕ) → k < 2 → flag_number (eqb k 1) ≡ k
    flag_is zero h = refl
    flag_is (suc zero) h = refl
    flag_is (suc (suc k)) h = absurd (omega arith)

pub numbers_rows : NumbersRows
numbers_rows = (listed_back, number_same)

-- ---- the flags of an open row
pub deeper_is : (k : ℕ) → is_deeper (numbered_way k) ≡ eqb k 2
deeper_is k = go (eqb k 2) (eqb k 0)
  where
    go : (a b : Bool) → is_deeper (cond a made_wrapped (cond b trailing made_flat)) ≡ a
    go true b = refl
    go false true = refl
    go false false = refl

made_is : (k : ℕ) → is_made (numbered_way k) ≡ not (eqb k 0)
made_is k = go (eqb k 2) refl (eqb k 0) refl
  where
    go : (a : Bool) → eqb k 2 ≡ a → (b : Bool) → eqb k 0 ≡ b → is_made (cond a made_wrapped (cond b trailing made_flat)) ≡ not b
    go true e true f = absurd (let x = eqb-true k 2 e in let y = eqb-true k 0 f in omega arith)
    go true e false f = refl
    go false e true f = refl
    go false e false f = refl

pub resumed_is : (v : View) (n number : ℕ) (first : Bool) → first ≡ is_early v (open_row number).row n
    → record { row = number / 6; wrap = eqb (number % 2) 1; first = first; deeper = eqb (number / 2 % 3) 2; made = not (eqb (number / 2 % 3) 0) }
    ≡ resumed v n (open_row number)
unfolding open_row
resumed_is v n number first e =
    λ i. record {
      row = number / 6;
      wrap = eqb (number % 2) 1;
      first = e i;
      deeper = sym (deeper_is (number / 2 % 3)) i;
      made = sym (made_is (number / 2 % 3)) i;
    }

pub number_is : (f : Frame) (way flag : ℕ) → way ≡ cond f.deeper 2 (flag_number f.made) → flag ≡ flag_number f.wrap
    → f.row * 6 + way * 2 + flag ≡ row_number (listed_as f)
unfolding row_number
number_is f way flag e g = rw (e, g) (ap (λ (w : ℕ). f.row * 6 + w * 2 + flag_number f.wrap) (go f.deeper f.made))
  where
    go : (d m : Bool) → cond d 2 (flag_number m) ≡ way_number (way_of m d)
    go true m = refl
    go false true = refl
    go false false = refl

pub number_low : (f : Frame) → f.row < MAX_ROWS → row_number (listed_as f) < 2 ^ 32
unfolding row_number
number_low f h = let w = way_low (way_of f.made f.deeper) in let b = flag_low f.wrap in omega arith

pub bit_is : (b : Bool) (n : ℕ) → n ≡ bool_byte b → n ≡ flag_number b
bit_is true n e = e
bit_is false n e = e

pub way_deeper : (d m : Bool) → d ≡ true → (n : ℕ) → n ≡ 2 → n ≡ cond d 2 (flag_number m)
way_deeper d m e n f = rw (e) f

pub way_shallow : (d m : Bool) → d ≡ false → (n : ℕ) → n ≡ bool_byte m → n ≡ cond d 2 (flag_number m)
way_shallow d m e n f = rw (e) (bit_is m n f)
