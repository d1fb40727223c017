-- 23, row by row: the rows listed are those that enclose the next one as far as they are compared.
-- Assumes nothing.
use mathlib.Core.Path.{◌≡◌, refl, sym, ap, ◌∙◌}
use Prim.Native.Nat.{ℕ, zero, suc, ◌+◌, ◌-◌, ◌≤◌, ◌<◌}
use native.Mathlib.Omega.{arith}
use native.Mathlib.Numerals.{add-one}
use mathlib.Core.Bool.{Bool, true, false, cond, ◌&&◌}
use mathlib.Core.List.{List, [], ◌∷◌, map}
use lib.Dec.{ltb, eqb}
use lib.ListN.{length, get_or, drop}
use borrow.Author.Tests.{lt-ltb, le-ltb, ne_eqb, eq-eqb, eqb-true, eqb-false}
use Rattle.rows.specs.View.{View}
use Rattle.renderer_rules.specs.Drift.{enclosing}
use Rattle.renderer_rules.specs.Stops.{OpenRow}
use Rattle.renderer_rules.specs.Listed.{same_rows, listed_those}
use Rattle.listed_rows.specs.Numbers.{open_row}

eqb_suc : (a b : ℕ) → eqb (suc a) (suc b) ≡ eqb a b
eqb_suc a b = go (eqb a b) refl
  where
    go : (c : Bool) → eqb a b ≡ c → eqb (suc a) (suc b) ≡ eqb a b
    go true e = let x = eqb-true a b e in rw x (eq-eqb (suc b) (suc b) refl ∙ sym (eq-eqb b b refl))
    go false e = let x = eqb-false a b e in ne_eqb (suc a) (suc b) (λ z. x (omega arith)) ∙ sym e

-- so many are found before row i
pub record Seeing (v : View) (numbers : List ℕ) (first n found i : ℕ) : Type 0 where
  pub low : found ≤ length numbers
  pub going :
      listed_those v (map open_row numbers) n ≡ same_rows (map open_row (drop found numbers)) (enclosing (n - i) v i n)

pub seeing_start : (v : View) (numbers : List ℕ) (n : ℕ) → 0 < length numbers
    → Seeing v numbers (open_row (get_or numbers 0 0)).row n 0 (open_row (get_or numbers 0 0)).row
seeing_start v [] n h = absurd (omega arith)
seeing_start v (x ∷ xs) n h = record { low = omega arith; going = refl }

drop_some : (numbers : List ℕ) (k : ℕ) → k < length numbers → drop k numbers ≡ get_or numbers k 0 ∷ drop (suc k) numbers
drop_some [] k h = absurd (omega arith)
drop_some (x ∷ xs) zero h = refl
drop_some (x ∷ xs) (suc k) h = drop_some xs k (omega arith)

drop_all : (numbers : List ℕ) (k : ℕ) → length numbers ≤ k → drop k numbers ≡ []
drop_all [] zero h = refl
drop_all [] (suc k) h = refl
drop_all (x ∷ xs) zero h = absurd (omega arith)
drop_all (x ∷ xs) (suc k) h = drop_all xs k (omega arith)

one_on : (v : View) (n i : ℕ) → i < n → enclosing (n - i) v i n
    ≡ cond (ltb n (v.after i)) (i ∷ enclosing (n - (i + 1)) v (i + 1) n) (enclosing (n - (i + 1)) v (i + 1) n)
unfolding enclosing
one_on v n i h =
    ap (λ (k : ℕ). enclosing k v i n) (let e : n - i ≡ suc (n - (i + 1)) = omega arith in e)
    ∙ ap (λ (j : ℕ). cond (ltb n (v.after i)) (i ∷ enclosing (n - (i + 1)) v j n) (enclosing (n - (i + 1)) v j n)) (sym (add-one i))

module _ (v : View) (numbers : List ℕ) (first n found i : ℕ) (s : Seeing v numbers first n found i) where
  -- the listed rows that are left
  abbrev rest : List OpenRow
  rest = map open_row (drop found numbers)

  module _ (h : i < n) where
    encloses : n < v.after i → listed_those v (map open_row numbers) n ≡ same_rows rest (i ∷ enclosing (n - (i + 1)) v (i + 1) n)
    encloses a = s.going ∙ ap (same_rows rest) (one_on v n i h ∙ rw (lt-ltb n (v.after i) a) refl)

    pub passed : v.after i ≤ n → Seeing v numbers first n found (i + 1)
    passed a = record { low = s.low; going = s.going ∙ ap (same_rows rest) (one_on v n i h ∙ rw (le-ltb n (v.after i) a) refl) }

    pub none_left : n < v.after i → found ≡ length numbers → listed_those v (map open_row numbers) n ≡ false
    unfolding same_rows
    none_left a e =
        encloses a
        ∙ ap (λ (l : List ℕ). same_rows (map open_row l) (i ∷ enclosing (n - (i + 1)) v (i + 1) n)) (drop_all numbers found (omega arith))

    some_left : n < v.after i → found < length numbers
        → listed_those v (map open_row numbers) n
        ≡ (eqb (open_row (get_or numbers found 0)).row i && same_rows (map open_row (drop (suc found) numbers)) (enclosing (n - (i + 1)) v (i + 1) n))
    unfolding same_rows
    some_left a l = encloses a ∙ ap (λ (l : List ℕ). same_rows (map open_row l) (i ∷ enclosing (n - (i + 1)) v (i + 1) n)) (drop_some numbers found l)

    pub another : n < v.after i → found < length numbers → ((open_row (get_or numbers found 0)).row ≡ i → ⊥) → listed_those v (map open_row numbers) n ≡ false
    another a l d = some_left a l ∙ rw (ne_eqb (open_row (get_or numbers found 0)).row i d) refl

    pub found_more : n < v.after i → found < length numbers → (open_row (get_or numbers found 0)).row ≡ i → Seeing v numbers first n (found + 1) (i + 1)
    found_more a l e =
        record {
          low = omega arith;
          going =
              some_left a l
              ∙ rw (eq-eqb (open_row (get_or numbers found 0)).row i e)
              (ap (λ (k : ℕ). same_rows (map open_row (drop k numbers)) (enclosing (n - (i + 1)) v (i + 1) n)) (sym (add-one found)));
        }

  -- the next row is come to
  pub all_seen : n ≤ i → listed_those v (map open_row numbers) n ≡ eqb found (length numbers)
  unfolding enclosing same_rows
  all_seen h = s.going ∙ ap (λ (k : ℕ). same_rows rest (enclosing k v i n)) (let e : n - i ≡ 0 = omega arith in e) ∙ ends numbers found s.low
    where
      ends : (ns : List ℕ) (k : ℕ) → k ≤ length ns → same_rows (map open_row (drop k ns)) [] ≡ eqb k (length ns)
      ends [] zero h = refl
      ends [] (suc k) h = absurd (omega arith)
      ends (x ∷ xs) zero h = sym (ne_eqb 0 (suc (length xs)) (λ e. omega arith))
      ends (x ∷ xs) (suc k) h = ends xs k (omega arith) ∙ sym (eqb_suc k (length xs))
