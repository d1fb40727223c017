-- The comments of rows that stand one after the other are those of the first and then those of the others, since a row is read by its own nine
-- places alone.
-- Assumes nothing.
use mathlib.Core.Path.{◌≡◌, refl, sym, ap, subst, ◌∙◌}
use mathlib.Core.Bool.{cond}
use mathlib.Core.List.{List, [], ◌∷◌, ◌++◌, append_assoc, append-nil}
use Prim.Native.Nat.{ℕ, zero, suc, ◌+◌, ◌-◌, ◌*◌, ◌≤◌, ◌<◌, min}
use native.Mathlib.Nat.{add-zero, add-suc}
use native.Mathlib.Omega.{arith}
use lib.Dec.{eqb}
use lib.ListN.{length, get_or, get_or-append, take, length-append, length-take}
use lib.Seq.{get_or-append-add, take-append_seam, take-take}
use Rattle.rows.specs.Kinds.{COMMENT}
use Rattle.rows.specs.Places.{KIND, ORIGIN, START, SIZE, PLACES}
use Rattle.rows.specs.Node.{Text}
use Rattle.rows.specs.View.{cell}
use Rattle.cut_rule.specs.CutRule.{comment_at, comments_in}

-- what row i says by its places
abbrev by_places : ℕ → ℕ → ℕ → ℕ → List Text
by_places kind origin from size = cond (eqb kind COMMENT) (record { origin = origin; start = from; size = size } ∷ []) []

module _ (xs ys : List ℕ) where
  -- a row before the seam, and one after it
  cell_before : (i k : ℕ) → i * PLACES + k < length xs → cell (xs ++ ys) i k ≡ cell xs i k
  cell_before i k h = get_or-append xs ys 0 (i * PLACES + k) h

  cell_after : (n i k : ℕ) → length xs ≡ PLACES * n → cell (xs ++ ys) (n + i) k ≡ cell ys i k
  cell_after n i k h =
      let e : (n + i) * PLACES + k ≡ length xs + (i * PLACES + k) = omega arith in
      ap (λ (j : ℕ). get_or (xs ++ ys) j 0) e ∙ get_or-append-add xs ys (i * PLACES + k) 0

  comment_before : (i : ℕ) → PLACES * suc i ≤ length xs → comment_at (xs ++ ys) i ≡ comment_at xs i
  comment_before i h = λ t. by_places (at KIND (omega arith) t) (at ORIGIN (omega arith) t) (at START (omega arith) t) (at SIZE (omega arith) t)
    where
      at : (k : ℕ) → k < PLACES → cell (xs ++ ys) i k ≡ cell xs i k
      at k l = cell_before i k (omega arith)

  comment_after : (n i : ℕ) → length xs ≡ PLACES * n → comment_at (xs ++ ys) (n + i) ≡ comment_at ys i
  comment_after n i h = λ t. by_places (at KIND t) (at ORIGIN t) (at START t) (at SIZE t)
    where
      at : (k : ℕ) → cell (xs ++ ys) (n + i) k ≡ cell ys i k
      at k = cell_after n i k h

pub comments_before : (n : ℕ) (xs ys : List ℕ) → PLACES * n ≤ length xs → comments_in (xs ++ ys) n ≡ comments_in xs n
comments_before zero xs ys h = refl
comments_before (suc n) xs ys h = cc (comments_before n xs ys (omega arith), comment_before xs ys n h)

pub comments_join : (m n : ℕ) (xs ys : List ℕ) → length xs ≡ PLACES * n → comments_in (xs ++ ys) (n + m) ≡ comments_in xs n ++ comments_in ys m
comments_join zero n xs ys h =
    ap (comments_in (xs ++ ys)) (add-zero n) ∙ comments_before n xs ys (omega arith) ∙ sym (append-nil (comments_in xs n))
comments_join (suc m) n xs ys h =
    ap (comments_in (xs ++ ys)) (add-suc n m)
    ∙ ap (λ (cs : List Text). cs ++ comment_at (xs ++ ys) (n + m)) (comments_join m n xs ys h)
    ∙ ap (λ (cs : List Text). comments_in xs n ++ comments_in ys m ++ cs) (comment_after xs ys n m h)
    ∙ append_assoc (comments_in xs n) (comments_in ys m) (comment_at ys m)

-- ---- the comments before an earlier row are the first of those before a later one
record Front (xs ys : List Text) : Type 0 where
  rest : List Text
  is : ys ≡ xs ++ rest

comments_front : (store : List ℕ) (a j : ℕ) → Front (comments_in store a) (comments_in store (a + j))
comments_front store a zero = record { rest = []; is = ap (comments_in store) (add-zero a) ∙ sym (append-nil (comments_in store a)) }
comments_front store a (suc j) =
    let f = comments_front store a j in
    record {
      rest = f.rest ++ comment_at store (a + j);
      is =
          ap (comments_in store) (add-suc a j)
          ∙ ap (λ (l : List Text). l ++ comment_at store (a + j)) f.is
          ∙ append_assoc (comments_in store a) f.rest (comment_at store (a + j));
    }

front_taken : (xs ys l : List Text) (n : ℕ) → Front xs ys → ys ≡ take n l → xs ≡ take (length xs) l
front_taken xs ys l n f e =
    let z : length ys ≡ length xs + length f.rest = ap length f.is ∙ length-append xs f.rest in
    let y : length ys ≡ min n (length l) = ap length e ∙ length-take n l in
    sym (take-append_seam xs f.rest) ∙ ap (take (length xs)) (sym f.is ∙ e) ∙ take-take (length xs) n l (omega arith)

-- so, where those before row n are the first of a list, those before row a are
pub comments_ahead : (store : List ℕ) (a n k : ℕ) (listed : List Text) → a ≤ n → comments_in store n ≡ take k listed
    → comments_in store a ≡ take (length (comments_in store a)) listed
comments_ahead store a n k listed h e =
    let i : a + (n - a) ≡ n = omega arith in
    front_taken (comments_in store a) (comments_in store n) listed k
    (subst (λ (j : ℕ). Front (comments_in store a) (comments_in store j)) i (comments_front store a (n - a))) e
