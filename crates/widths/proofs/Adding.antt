-- The sum over a text, character after character.
-- Assumes nothing.
use mathlib.Core.Path.{◌≡◌, refl, sym}
use mathlib.Core.List.{List, [], ◌∷◌}
use Prim.Native.Nat.{ℕ, zero, suc, ◌+◌, ◌≤◌, ◌<◌}
use native.Mathlib.Omega.{arith}
use native.Mathlib.Numerals.{add-one}
use lib.ListN.{length, get_or}
use Rattle.std.specs.Prelude.{true, Some, None}
use Rattle.text.specs.Utf8.{scalar, char_at}
use Rattle.text.specs.declared.utf8.Char.{Char}
use Rattle.text.proofs.Characters.{at_inside, at_decoded, decoded_char}
use Rattle.text.proofs.Sequences.{ascii}
use Rattle.widths.specs.Widths.{codes_from, codes, sum, text_width, table_width, narrow, Plain}
use Rattle.widths.specs.declared.lookup.Entry.{Entry}
use Rattle.widths.proofs.Narrow.{bytes_enough}

-- the text's width is what was added so far and what is found by going on from `at`
pub record Adding (w : ℕ → ℕ) (s : List ℕ) (at added : ℕ) : Type 0 where
  pub turns : ℕ
  pub enough : length s ≤ at + turns
  pub inside : at ≤ length s
  pub room : added ≤ at
  pub same : text_width w s ≡ added + sum w (codes_from turns s at)

add_start : (w : ℕ → ℕ) (s : List ℕ) → Adding w s 0 0
unfolding codes
add_start w s = record { turns = length s; enough = omega arith; inside = omega arith; room = omega arith; same = omega arith }

add_on : (w : ℕ → ℕ) (m : ℕ) (s : List ℕ) (at : ℕ) (c : Char) → char_at s at ≡ Some c
    → sum w (codes_from (suc m) s at) ≡ w c.code + sum w (codes_from m s (at + c.bytes))
unfolding codes_from sum
add_on w m s at c e = rw (e, codes_from)

add_char : (w : ℕ → ℕ) (s : List ℕ) (at added : ℕ) (c : Char) → char_at s at ≡ Some c → w c.code ≤ c.bytes → Adding w s at added
    → Adding w s (at + c.bytes) (added + w c.code)
add_char w s at added c e k g = go g.turns g.enough g.same
  where
    go : (m : ℕ) → length s ≤ at + m → text_width w s ≡ added + sum w (codes_from m s at) → Adding w s (at + c.bytes) (added + w c.code)
    go zero f p = let i = at_inside s at c e in absurd (omega (arith, i.0, i.1))
    go (suc m) f p =
        let i = at_inside s at c e in
        record {
          turns = m;
          enough = omega (arith, i.0);
          inside = i.1;
          room = omega (arith, g.room);
          same = omega (arith, p, add_on w m s at c e);
        }

-- one character more, by a table
pub add_next : (es : List Entry) (s : List ℕ) (at added r : ℕ) (c : Char) → narrow es ≡ true → char_at s at ≡ Some c → r ≡ table_width es c.code
    → Adding (table_width es) s at added → Adding (table_width es) s (at + c.bytes) (added + r)
add_next es s at added r c h e q g = rw q (add_char (table_width es) s at added c e (bytes_enough es s at c h e) g)

-- ---- bytes that are characters by themselves
plain_char : (s : List ℕ) (at : ℕ) → at < length s → get_or s at 0 < 0x80 → char_at s at ≡ Some (record { code = get_or s at 0; bytes = 1 })
unfolding scalar
plain_char s at h k = sym (at_decoded s at 1 _ (sym (ascii s at h k)) (decoded_char s at 1 (get_or s at 0) (omega arith) refl))

added_to : (w : ℕ → ℕ) (s : List ℕ) (end : ℕ) → ((c : ℕ) → c < 0x80 → w c ≡ 1) → Plain s end → (k : ℕ) → k ≤ end → Adding w s k k
added_to w s end one p zero h = add_start w s
added_to w s end one p (suc k) h =
    let low = p.low k (omega arith) in
    let stands : k < length s = omega (arith, p.inside) in
    let before = added_to w s end one p k (omega arith) in
    let here = one (get_or s k 0) low in
    let more = add_char w s k k (record { code = get_or s k 0; bytes = 1 }) (plain_char s k stands low) (omega (arith, here)) before in
    rw (← add-one k) (rw here at more)

pub plain_added : (w : ℕ → ℕ) (s : List ℕ) (end : ℕ) → ((c : ℕ) → c < 0x80 → w c ≡ 1) → Plain s end → Adding w s end end
plain_added w s end one p = added_to w s end one p end (omega arith)

none_left : (w : ℕ → ℕ) (m : ℕ) (s : List ℕ) (at : ℕ) → char_at s at ≡ None → sum w (codes_from m s at) ≡ 0
unfolding codes_from sum
none_left w zero s at e = refl
none_left w (suc m) s at e = rw (e, codes_from)

-- no character more
pub add_end : (w : ℕ → ℕ) (s : List ℕ) (at added : ℕ) → char_at s at ≡ None → Adding w s at added → (added ≡ text_width w s) × (added ≤ length s)
add_end w s at added e g = (omega (arith, g.same, none_left w g.turns s at e), omega (arith, g.room, g.inside))

-- the sum by another rule that says the same
pub sum_same : (v w : ℕ → ℕ) → ((c : ℕ) → v c ≡ w c) → (cs : List ℕ) → sum v cs ≡ sum w cs
unfolding sum
sum_same v w e [] = refl
sum_same v w e (c ∷ cs) = omega (arith, e c, sum_same v w e cs)
