-- What a dry run sees after `put_aside`: the same document, and at the rows' own numbers the marks that the true run starts with.
-- Assumes nothing.
use mathlib.Core.Path.{◌≡◌, refl, ap, sym, ◌∙◌, subst}
use Prim.Native.Nat.{ℕ, zero, suc, ◌+◌, ◌*◌, ◌-◌, ◌≤◌, ◌<◌, max}
use native.Mathlib.Omega.{arith}
use mathlib.Core.Bool.{Bool, true, false, cond, ◌||◌}
use mathlib.Core.List.{List, [], ◌∷◌, ◌++◌, append_assoc}
use lib.ListN.{length, get_or, set, take, drop, replicate, length-set, take-append-drop}
use lib.Seq.{get_or-set_other, take-suc-set, drop-set-lt}
use lib.Dec.{ltb, eqb}
use borrow.Author.Tests.{eqb-true, eqb-false, ltb-true, ltb-false, lt-ltb, le-ltb}
use Rattle.rows.specs.Kinds.{GROUP, IF_WRAP, CALL}
use Rattle.rows.specs.Places.{KIND, NUMBER, SECOND_NUMBER, WIDTH, PLACES}
use Rattle.rows.specs.View.{cell, view_of}
use Rattle.rows.specs.Nesting.{Nests, Nested}
use Rattle.marks.proofs.Restored.{has, set_zero, clear_other}
use Rattle.marks.proofs.Scratch.{other, scratched}
use Rattle.marks.proofs.Aside.{aside_rows, aside_marks}
use Rattle.marks.proofs.Undone.{numbers_same, owns, owns_same, not_str}
use Rattle.marks.specs.Marks.{row_marks, marks_needed, clear, cleared_all, saved, clear_from, numbers_of, packed_marks, Held, row_aside, put_aside}

row_view : (u : ℕ) (ns : List ℕ) (h : Held) (i : ℕ) → numbers_of h.rows i ≡ ns → view_of (row_aside u ns h i).rows ≡ view_of h.rows
unfolding row_aside
row_view u [] h i e = refl
row_view u (n ∷ ns) h i e = scratched h.rows i (packed_marks (saved u (n ∷ ns) h.marks)) (not_str h.rows i n ns e)

-- the document is the same
pub aside_view : (n u : ℕ) (h : Held) (i : ℕ) → view_of (put_aside n u h i).rows ≡ view_of h.rows
unfolding put_aside
aside_view zero u h i = refl
aside_view (suc n) u h i = aside_view n u (row_aside u (numbers_of h.rows i) h i) (suc i) ∙ row_view u (numbers_of h.rows i) h i refl

-- Every place of a row stays but the width place of one that has numbers: so no row with a text changes.
row_place : (u : ℕ) (ns : List ℕ) (h : Held) (i k p : ℕ) → p < WIDTH → cell (row_aside u ns h i).rows k p ≡ cell h.rows k p
unfolding row_aside
row_place u [] h i k p b = refl
row_place u (n ∷ ns) h i k p b = other h.rows i (packed_marks (saved u (n ∷ ns) h.marks)) k p b

pub aside_place : (n u : ℕ) (h : Held) (i k p : ℕ) → p < WIDTH → cell (put_aside n u h i).rows k p ≡ cell h.rows k p
unfolding put_aside
aside_place zero u h i k p b = refl
aside_place (suc n) u h i k p b =
    let ns = numbers_of h.rows i in
    aside_place n u (row_aside u ns h i) (suc i) k p b ∙ row_place u ns h i k p b

row_width : (u : ℕ) (ns : List ℕ) (h : Held) (i k : ℕ) → numbers_of h.rows i ≡ ns → numbers_of h.rows k ≡ []
    → cell (row_aside u ns h i).rows k WIDTH ≡ cell h.rows k WIDTH
unfolding row_aside
row_width u [] h i k e f = refl
row_width u (n ∷ ns) h i k e f = get_or-set_other h.rows (i * PLACES + WIDTH) (k * PLACES + WIDTH) _ 0 (λ q. clash (omega arith))
  where
    clash : k ≡ i → ⊥
    clash q = let z : ◌≡◌ {A = ℕ} 0 1 = cc (ap (numbers_of h.rows) q) in omega arith

pub aside_width : (n u : ℕ) (h : Held) (i k : ℕ) → numbers_of h.rows k ≡ [] → cell (put_aside n u h i).rows k WIDTH ≡ cell h.rows k WIDTH
unfolding put_aside
aside_width zero u h i k f = refl
aside_width (suc n) u h i k f =
    let ns = numbers_of h.rows i in
    aside_width n u (row_aside u ns h i) (suc i) k (numbers_same u ns h i k ∙ f) ∙ row_width u ns h i k refl f

pub aside_size : (n u : ℕ) (h : Held) (i : ℕ) → length (put_aside n u h i).rows ≡ length h.rows
unfolding put_aside
aside_size zero u h i = refl
aside_size (suc n) u h i = aside_size n u (row_aside u (numbers_of h.rows i) h i) (suc i) ∙ aside_rows u (numbers_of h.rows i) h i

pub aside_count : (n u : ℕ) (h : Held) (i : ℕ) → length (put_aside n u h i).marks ≡ length h.marks
unfolding put_aside
aside_count zero u h i = refl
aside_count (suc n) u h i = aside_count n u (row_aside u (numbers_of h.rows i) h i) (suc i) ∙ aside_marks u (numbers_of h.rows i) h i

pub aside_nested : (n u : ℕ) (h : Held) (i from to : ℕ) → Nested h.rows from to → Nested (put_aside n u h i).rows from to
aside_nested n u h i from to c =
    let l = aside_size n u h i in
    let r = c.room in
    record { room = omega arith; few = c.few; nests = subst (λ v. Nests v from to 0) (sym (aside_view n u h i)) c.nests }

-- A mark in use stays.
clear_used : (u x n : ℕ) (m : List ℕ) → x < u → get_or (clear u n m) x 0 ≡ get_or m x 0
clear_used u x n m h = go (eqb x n) refl
  where
    go : (b : Bool) → eqb x n ≡ b → get_or (clear u n m) x 0 ≡ get_or m x 0
    go true e = let q = eqb-true x n e in rw (lt-ltb n u (omega arith))
    go false e = clear_other u n x m (eqb-false x n e)

cleared_used : (u x : ℕ) (ns m : List ℕ) → x < u → get_or (cleared_all u ns m) x 0 ≡ get_or m x 0
unfolding cleared_all
cleared_used u x [] m h = refl
cleared_used u x (n ∷ ns) m h = cleared_used u x ns (clear u n m) h ∙ clear_used u x n m h

row_used : (u x : ℕ) (ns : List ℕ) (h : Held) (i : ℕ) → x < u → get_or (row_aside u ns h i).marks x 0 ≡ get_or h.marks x 0
unfolding row_aside
row_used u x [] h i k = refl
row_used u x (n ∷ ns) h i k = cleared_used u x (n ∷ ns) h.marks k

pub aside_used : (n u x : ℕ) (h : Held) (i : ℕ) → x < u → get_or (put_aside n u h i).marks x 0 ≡ get_or h.marks x 0
unfolding put_aside
aside_used zero u x h i k = refl
aside_used (suc n) u x h i k = aside_used n u x (row_aside u (numbers_of h.rows i) h i) (suc i) k ∙ row_used u x (numbers_of h.rows i) h i k

-- A new number of a row has its mark cleared.
zero_set : (x n : ℕ) (m : List ℕ) → get_or m x 0 ≡ 0 → get_or (set m n 0) x 0 ≡ 0
zero_set x n m z = go (eqb x n) refl
  where
    go : (b : Bool) → eqb x n ≡ b → get_or (set m n 0) x 0 ≡ 0
    go true e = let q = eqb-true x n e in rw q (set_zero m n)
    go false e = get_or-set_other m n x 0 0 (eqb-false x n e) ∙ z

clear_zero : (u x n : ℕ) (m : List ℕ) → get_or m x 0 ≡ 0 → get_or (clear u n m) x 0 ≡ 0
clear_zero u x n m z = go (ltb n u)
  where
    go : (b : Bool) → get_or (cond b m (set m n 0)) x 0 ≡ 0
    go true = z
    go false = zero_set x n m z

cleared_zero : (u x : ℕ) (ns m : List ℕ) → get_or m x 0 ≡ 0 → get_or (cleared_all u ns m) x 0 ≡ 0
unfolding cleared_all
cleared_zero u x [] m z = z
cleared_zero u x (n ∷ ns) m z = cleared_zero u x ns (clear u n m) (clear_zero u x n m z)

row_zero : (u x : ℕ) (ns : List ℕ) (h : Held) (i : ℕ) → get_or h.marks x 0 ≡ 0 → get_or (row_aside u ns h i).marks x 0 ≡ 0
unfolding row_aside
row_zero u x [] h i z = z
row_zero u x (n ∷ ns) h i z = cleared_zero u x (n ∷ ns) h.marks z

aside_zero : (n u x : ℕ) (h : Held) (i : ℕ) → get_or h.marks x 0 ≡ 0 → get_or (put_aside n u h i).marks x 0 ≡ 0
unfolding put_aside
aside_zero zero u x h i z = z
aside_zero (suc n) u x h i z = aside_zero n u x (row_aside u (numbers_of h.rows i) h i) (suc i) (row_zero u x (numbers_of h.rows i) h i z)

clear_own : (u x n : ℕ) (m : List ℕ) → u ≤ x → eqb x n ≡ true → get_or (clear u n m) x 0 ≡ 0
clear_own u x n m h e = let q = eqb-true x n e in rw (le-ltb n u (omega arith)) (rw q (set_zero m n))

no_false : false ≡ true → ⊥
no_false e = let z : ◌≡◌ {A = ℕ} 0 1 = cc in omega arith

own_step : (u x n : ℕ) (ns m : List ℕ) (b : Bool) → eqb x n ≡ b → u ≤ x → eqb x n || has x ns ≡ true
    → (has x ns ≡ true → get_or (cleared_all u ns (clear u n m)) x 0 ≡ 0)
    → get_or (cleared_all u ns (clear u n m)) x 0 ≡ 0
own_step u x n ns m true f h e rec = cleared_zero u x ns (clear u n m) (clear_own u x n m h f)
own_step u x n ns m false f h e rec = rec (sym (ap (λ (b : Bool). b || has x ns) f) ∙ e)

cleared_own : (u x : ℕ) (ns m : List ℕ) → u ≤ x → has x ns ≡ true → get_or (cleared_all u ns m) x 0 ≡ 0
unfolding cleared_all has
cleared_own u x [] m h e = absurd (no_false e)
cleared_own u x (n ∷ ns) m h e = own_step u x n ns m (eqb x n) refl h e (λ f. cleared_own u x ns (clear u n m) h f)

row_own : (u x : ℕ) (ns : List ℕ) (h : Held) (i : ℕ) → u ≤ x → has x ns ≡ true → get_or (row_aside u ns h i).marks x 0 ≡ 0
unfolding row_aside has
row_own u x [] h i k e = absurd (no_false e)
row_own u x (n ∷ ns) h i k e = cleared_own u x (n ∷ ns) h.marks k e

rows_step : (n u x : ℕ) (h : Held) (i : ℕ) (b : Bool) → has x (numbers_of h.rows i) ≡ b → u ≤ x → b || owns x n h.rows (suc i) ≡ true
    → (owns x n h.rows (suc i) ≡ true → get_or (put_aside n u (row_aside u (numbers_of h.rows i) h i) (suc i)).marks x 0 ≡ 0)
    → get_or (put_aside n u (row_aside u (numbers_of h.rows i) h i) (suc i)).marks x 0 ≡ 0
rows_step n u x h i true f k e rec = aside_zero n u x (row_aside u (numbers_of h.rows i) h i) (suc i) (row_own u x (numbers_of h.rows i) h i k f)
rows_step n u x h i false f k e rec = rec e

pub aside_new : (n u x : ℕ) (h : Held) (i : ℕ) → u ≤ x → owns x n h.rows i ≡ true → get_or (put_aside n u h i).marks x 0 ≡ 0
unfolding put_aside owns
aside_new zero u x h i k e = absurd (no_false e)
aside_new (suc n) u x h i k e =
    let ns = numbers_of h.rows i in
    rows_step n u x h i (has x ns) refl k e (λ f. aside_new n u x (row_aside u ns h i) (suc i) k (owns_same x n u ns h i (suc i) ∙ f))

-- The marks that the true run starts with: below i as they were, from i on cleared.
pub clear_below : (n i x : ℕ) (m : List ℕ) → x < i → get_or (clear_from n i m) x 0 ≡ get_or m x 0
unfolding clear_from
clear_below zero i x m h = refl
clear_below (suc n) i x m h = clear_below n (suc i) x (set m i 0) (omega arith) ∙ get_or-set_other m i x 0 0 (λ e. omega arith)

from_zero : (n i x : ℕ) (m : List ℕ) → get_or m x 0 ≡ 0 → get_or (clear_from n i m) x 0 ≡ 0
unfolding clear_from
from_zero zero i x m z = z
from_zero (suc n) i x m z = from_zero n (suc i) x (set m i 0) (zero_set x i m z)

from_step : (n i x : ℕ) (m : List ℕ) (b : Bool) → eqb x i ≡ b → i ≤ x → x < i + suc n
    → (suc i ≤ x → x < suc i + n → get_or (clear_from n (suc i) (set m i 0)) x 0 ≡ 0)
    → get_or (clear_from n (suc i) (set m i 0)) x 0 ≡ 0
from_step n i x m true e h k rec = let q = eqb-true x i e in from_zero n (suc i) x (set m i 0) (rw q (set_zero m i))
from_step n i x m false e h k rec = let q = eqb-false x i e in rec (above i x h q) (omega arith)
  where
    above : (i x : ℕ) → i ≤ x → (x ≡ i → ⊥) → suc i ≤ x
    above i x h q = omega arith

pub clear_in : (n i x : ℕ) (m : List ℕ) → i ≤ x → x < i + n → get_or (clear_from n i m) x 0 ≡ 0
unfolding clear_from
clear_in zero i x m h k = absurd (omega arith)
clear_in (suc n) i x m h k = from_step n i x m (eqb x i) refl h k (λ a b. clear_in n (suc i) x (set m i 0) a b)

pub clear_count : (n i : ℕ) (m : List ℕ) → length (clear_from n i m) ≡ length m
unfolding clear_from
clear_count zero i m = refl
clear_count (suc n) i m = clear_count n (suc i) (set m i 0) ∙ length-set m i 0

pub clear_parts : (n i : ℕ) (m : List ℕ) → i + n ≤ length m → clear_from n i m ≡ take i m ++ (replicate n 0 ++ drop (i + n) m)
unfolding clear_from
clear_parts zero i m h = sym (rw (none i) (take-append-drop i m))
  where
    none : (i : ℕ) → i + 0 ≡ i
    none i = omega arith
clear_parts (suc n) i m h =
    clear_parts n (suc i) (set m i 0) (let e = length-set m i 0 in omega arith)
    ∙ rw (take-suc-set m i 0 (omega arith), drop-set-lt (suc i + n) m i 0 (omega arith), along i n)
    (append_assoc (take i m) (0 ∷ []) (replicate n 0 ++ drop (i + suc n) m))
  where
    along : (i n : ℕ) → suc i + n ≡ i + suc n
    along i n = omega arith

-- A row's number is below the marks needed.
row_needed : (x : ℕ) (s : List ℕ) (i : ℕ) → has x (numbers_of s i) ≡ true → x < row_marks s i
unfolding has
row_needed x s i e = go (eqb (cell s i KIND) CALL) (eqb (cell s i KIND) GROUP || eqb (cell s i KIND) IF_WRAP) (cell s i NUMBER) (cell s i SECOND_NUMBER) e
  where
    one : (a : ℕ) (b : Bool) → eqb x a ≡ b → has x (a ∷ []) ≡ true → x < 1 + a
    one a true f e = let q = eqb-true x a f in omega arith
    one a false f e = absurd (no_false (sym (ap (λ (b : Bool). b || false) f) ∙ e))

    two : (a b : ℕ) (c : Bool) → eqb x a ≡ c → has x (a ∷ b ∷ []) ≡ true → x < 1 + max a b
    two a b true f e = let q = eqb-true x a f in omega arith
    two a b false f e = let q = one b (eqb x b) refl (sym (ap (λ (c : Bool). c || has x (b ∷ [])) f) ∙ e) in omega arith

    go : (p q : Bool) (a b : ℕ) → has x (cond p (a ∷ b ∷ []) (cond q (a ∷ []) [])) ≡ true → x < cond p (1 + max a b) (cond q (1 + a) 0)
    go true q a b e = two a b (eqb x a) refl e
    go false true a b e = one a (eqb x a) refl e
    go false false a b e = absurd (no_false e)

needed_step : (x n : ℕ) (s : List ℕ) (i : ℕ) (b : Bool) → has x (numbers_of s i) ≡ b
    → b || owns x n s (suc i) ≡ true → (owns x n s (suc i) ≡ true → x < marks_needed n s (suc i))
    → x < max (row_marks s i) (marks_needed n s (suc i))
needed_step x n s i true f e rec = left x (row_marks s i) (marks_needed n s (suc i)) (row_needed x s i f)
  where
    left : (x a b : ℕ) → x < a → x < max a b
    left x a b h = omega arith
needed_step x n s i false f e rec = right x (row_marks s i) (marks_needed n s (suc i)) (rec e)
  where
    right : (x a b : ℕ) → x < b → x < max a b
    right x a b h = omega arith

pub owns_needed : (x n : ℕ) (s : List ℕ) (i : ℕ) → owns x n s i ≡ true → x < marks_needed n s i
unfolding owns marks_needed
owns_needed x zero s i e = absurd (no_false e)
owns_needed x (suc n) s i e = needed_step x n s i (has x (numbers_of s i)) refl e (λ f. owns_needed x n s (suc i) f)

-- So both runs start with the same marks at the rows' own numbers.
pub same_start : (n u : ℕ) (h : Held) (i x : ℕ) → owns x n h.rows i ≡ true
    → get_or (put_aside n u h i).marks x 0 ≡ get_or (clear_from (marks_needed n h.rows i - u) u h.marks) x 0
same_start n u h i x e = go (ltb x u) refl
  where
    go : (b : Bool) → ltb x u ≡ b → get_or (put_aside n u h i).marks x 0 ≡ get_or (clear_from (marks_needed n h.rows i - u) u h.marks) x 0
    go true f =
        let k = ltb-true x u f in
        aside_used n u x h i k ∙ sym (clear_below (marks_needed n h.rows i - u) u x h.marks k)
    go false f =
        let k = ltb-false x u f in
        let w = owns_needed x n h.rows i e in
        aside_new n u x h i k e ∙ sym (clear_in (marks_needed n h.rows i - u) u x h.marks k (omega arith))
