-- No character takes more columns than bytes: a code point of one byte is in no range of a narrow table, and no width is over 2.
-- Assumes nothing.
use mathlib.Core.Path.{◌≡◌, refl, sym, ap, ◌∙◌}
use mathlib.Core.Bool.{Bool, true, false, cond, not, ◌&&◌}
use mathlib.Core.List.{List, [], ◌∷◌}
use Prim.Native.Nat.{ℕ, zero, suc, ◌≤◌, ◌<◌}
use native.Mathlib.Omega.{arith}
use lib.Dec.{leb, ltb, eqb}
use lib.ListN.{get_or}
use borrow.Author.Tests.{leb-true, ltb-true, ltb-false, eq-eqb}
use Rattle.std.specs.Prelude.{Some}
use Rattle.laws.proofs.Booleans.{and_left, and_right, clash}
use Rattle.text.specs.Utf8.{Row, row, table37, row_in, row_of, within, sequence, scalar, char_at}
use Rattle.text.specs.declared.utf8.Char.{Char}
use Rattle.text.proofs.Bytes.{led}
use Rattle.text.proofs.Characters.{decoded_is, at_inside}
use Rattle.text.proofs.Sequences.{row_has}
use Rattle.text.proofs.Tests.{within_above, within_below}
use Rattle.widths.specs.Widths.{FIRST_RANGE, first, last, width, narrow, table_width}
use Rattle.widths.specs.declared.lookup.Entry.{Entry}

-- ---- a sequence of one byte is below 80
several : Row → Bool
several r = not (eqb r.bytes 1)

abbrev later : List Row → List Row
later [] = []
later (r ∷ rs) = rs

row_later : (r : Row) (rs : List Row) (b : ℕ) → within r.first_low r.first_high b ≡ false → row_in (r ∷ rs) b ≡ row_in rs b
unfolding row_in
row_later r rs b h = rw h

high_several : (b : ℕ) → 0x80 ≤ b → several (row_of b) ≡ true
unfolding several
high_several b h =
    rw (row_later (row 0x00 0x7F 0x00 0x00 1) (later table37) b (within_above 0x00 0x7F b (omega arith) (omega arith))) (row_has several (later table37) b refl)

one_low : (b : ℕ) → (row_of b).bytes ≡ 1 → b < 0x80
unfolding several
one_low b e = go (ltb b 0x80) refl
  where
    go : (t : Bool) → ltb b 0x80 ≡ t → b < 0x80
    go true q = ltb-true b 0x80 q
    go false q = absurd (clash (several (row_of b)) (high_several b (ltb-false b 0x80 q)) (fewer (row_of b) e))
      where
        fewer : (r : Row) → r.bytes ≡ 1 → several r ≡ false
        fewer r p = rw (eq-eqb r.bytes 1 p)

pub one_byte : (s : List ℕ) (at : ℕ) (c : Char) → char_at s at ≡ Some c → c.bytes ≡ 1 → c.code < 0x80
unfolding char_at scalar
one_byte s at c e one =
    let d = decoded_is s at (sequence s at) c e in
    let l = led s at (omega (arith, d.0, d.1)) in
    let low = one_low (get_or s at 0) (omega (arith, d.0, l.has)) in
    let same : c.code ≡ scalar s at 1 = d.2 ∙ ap (λ (n : ℕ). scalar s at n) (sym d.0 ∙ one) in
    omega arith

-- ---- what a narrow table says
pub record Narrow (e : Entry) (es : List Entry) : Type 0 where
  pub starts : FIRST_RANGE ≤ first e
  pub small : width e ≤ 2
  pub others : narrow es ≡ true

narrows : (e : Entry) (es : List Entry) → narrow (e ∷ es) ≡ true → Narrow e es
unfolding narrow
narrows e es h =
    let behind = leb FIRST_RANGE (first e) in
    let small = leb (width e) 2 in
    let two = and_left (behind && small) (narrow es) h in
    record {
      starts = leb-true FIRST_RANGE (first e) (and_left behind small two);
      small = leb-true (width e) 2 (and_right behind small two);
      others = and_right (behind && small) (narrow es) h;
    }

pub one_column : (es : List Entry) (c : ℕ) → narrow es ≡ true → c < FIRST_RANGE → table_width es c ≡ 1
unfolding table_width
one_column [] c h b = refl
one_column (e ∷ es) c h b = let n = narrows e es h in rw (within_below (first e) (last e) c (omega arith)) (one_column es c n.others b)

two_columns : (es : List Entry) (c : ℕ) → narrow es ≡ true → table_width es c ≤ 2
unfolding table_width
two_columns [] c h = omega arith
two_columns (e ∷ es) c h = let n = narrows e es h in go n.small (two_columns es c n.others) (within (first e) (last e) c)
  where
    go : width e ≤ 2 → table_width es c ≤ 2 → (t : Bool) → cond t (width e) (table_width es c) ≤ 2
    go small more true = small
    go small more false = more

pub bytes_enough : (es : List Entry) (s : List ℕ) (at : ℕ) (c : Char) → narrow es ≡ true → char_at s at ≡ Some c → table_width es c.code ≤ c.bytes
bytes_enough es s at c h e = go c.bytes refl
  where
    go : (n : ℕ) → c.bytes ≡ n → table_width es c.code ≤ n
    go zero q = let i = at_inside s at c e in absurd (omega (arith, i.0))
    go (suc zero) q = omega (arith, one_column es c.code h (omega (arith, one_byte s at c e q)))
    go (suc (suc n)) q = omega (arith, two_columns es c.code h)
