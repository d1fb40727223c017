-- Membership in a list of ranges that ascend without overlap: it is enough to look at the first range that ends at the number or after it.
-- Assumes nothing.
use mathlib.Core.Path.{◌≡◌, refl}
use mathlib.Core.Bool.{Bool, true, false, cond, ◌&&◌, ◌||◌}
use mathlib.Core.List.{List, [], ◌∷◌}
use Prim.Native.Nat.{ℕ, suc, ◌<◌}
use native.Mathlib.Omega.{arith}
use lib.Dec.{leb}
use borrow.Author.Tests.{leb-true}
use Rattle.text.specs.Utf8.{within}
use Rattle.text.specs.Space.{Range, one_of, white_space, is_white}
use Rattle.laws.proofs.Booleans.{and_left, and_right, and_false}
use Rattle.text.proofs.Tests.{within_below}

-- the ranges ascend from n on, and none overlaps the next
abbrev pub ascending : ℕ → List Range → Bool
ascending n [] = true
ascending n (r ∷ rs) = leb n r.low && leb r.low r.high && ascending (suc r.high) rs

-- one test a range
abbrev pub ladder : List Range → ℕ → Bool
ladder [] x = false
ladder (r ∷ rs) x = cond (leb x r.high) (leb r.low x) (ladder rs x)

or_false : (x : Bool) → x || false ≡ x
or_false true = refl
or_false false = refl

and_true : (x : Bool) → x && true ≡ x
and_true true = refl
and_true false = refl

pub none_below : (n : ℕ) (rs : List Range) (x : ℕ) → ascending n rs ≡ true → x < n → one_of rs x ≡ false
unfolding one_of
none_below n [] x e h = refl
none_below n (r ∷ rs) x e h =
    let first = leb n r.low in
    let second = leb r.low r.high in
    let rest = ascending (suc r.high) rs in
    let low = leb-true n r.low (and_left first second (and_left (first && second) rest e)) in
    let high = leb-true r.low r.high (and_right first second (and_left (first && second) rest e)) in
    let more = none_below (suc r.high) rs x (and_right (first && second) rest e) (omega arith) in
    rw (within_below r.low r.high x (omega arith), more)

pub by_ladder : (n : ℕ) (rs : List Range) (x : ℕ) → ascending n rs ≡ true → one_of rs x ≡ ladder rs x
unfolding one_of within
by_ladder n [] x e = refl
by_ladder n (r ∷ rs) x e = go (by_ladder (suc r.high) rs x rest) (leb x r.high) refl
  where
    rest : ascending (suc r.high) rs ≡ true
    rest = and_right (leb n r.low && leb r.low r.high) (ascending (suc r.high) rs) e

    go : one_of rs x ≡ ladder rs x → (t : Bool) → leb x r.high ≡ t → within r.low r.high x || one_of rs x ≡ cond t (leb r.low x) (ladder rs x)
    go more true q = rw (q, none_below (suc r.high) rs x rest (omega (arith, leb-true x r.high q)), and_true) (or_false (leb r.low x))
    go more false q = rw (q, and_false) more

pub white_ladder : (x : ℕ) → is_white x ≡ ladder white_space x
white_ladder x = by_ladder 0 white_space x refl
