-- Putting back after putting aside leaves the store and the marks as they were, if between them nothing but marks of the rows' own numbers changed.
-- Row after row from the last: the row's place holds the marks as they were when it was come to, and all that came after it is undone already.
-- Assumes nothing.
use mathlib.Core.Path.{◌≡◌, refl, ap, ap₂, sym, ◌∙◌}
use Prim.Native.Nat.{ℕ, zero, suc, ◌+◌, ◌*◌, ◌/◌, ◌%◌, ◌≤◌, ◌<◌}
use native.Mathlib.Omega.{arith}
use mathlib.Core.Bool.{Bool, true, false, cond, ◌||◌}
use mathlib.Core.List.{List, [], ◌∷◌}
use lib.ListN.{length, get_or, set}
use lib.Seq.{get_or-set_same, get_or-set_other, ext_get_or}
use lib.Dec.{ltb, eqb}
use borrow.Author.Tests.{eqb-true, eqb-false}
use Rattle.rows.specs.Kinds.{GROUP, STR, IF_WRAP, CALL}
use Rattle.rows.specs.Places.{KIND, NUMBER, SECOND_NUMBER, WIDTH, PLACES}
use Rattle.rows.specs.View.{cell}
use Rattle.marks.proofs.Restored.{has, set_zero, clear_other, put_back_lem, rubbed}
use Rattle.marks.proofs.Scratch.{other}
use Rattle.marks.proofs.Aside.{aside_rows, aside_marks, back_marks}
use Rattle.marks.specs.Marks.{clear, saved, cleared_all, restore, numbers_of, packed_marks, unpacked_marks}
use Rattle.marks.specs.Marks.{Held, held, row_aside, put_aside, row_back, put_back}

-- x is a number of one of the n rows from i on
unfoldable pub owns : ℕ → ℕ → List ℕ → ℕ → Bool
owns x zero s i = false
owns x (suc n) s i = has x (numbers_of s i) || owns x n s (suc i)

-- marks are bytes
pub record Bytes (m : List ℕ) : Type 0 where
  pub at : (k : ℕ) → get_or m k 0 < 256

-- none of the n rows from i on but a `Str` uses its width place
pub record Unused (n : ℕ) (s : List ℕ) (i : ℕ) : Type 0 where
  pub at : (k : ℕ) → i ≤ k → k < i + n → (cell s k KIND ≡ STR → ⊥) → cell s k WIDTH ≡ 0

-- A number in a width place changes no row's numbers.
numbers_set : (s : List ℕ) (i x k : ℕ) → numbers_of (set s (i * PLACES + WIDTH) x) k ≡ numbers_of s k
numbers_set s i x k = rw (other s i x k 0 (omega arith), other s i x k 1 (omega arith), other s i x k 2 (omega arith))

pub numbers_same : (u : ℕ) (ns : List ℕ) (h : Held) (i k : ℕ) → numbers_of (row_aside u ns h i).rows k ≡ numbers_of h.rows k
unfolding row_aside
numbers_same u [] h i k = refl
numbers_same u (n ∷ ns) h i k = numbers_set h.rows i (packed_marks (saved u (n ∷ ns) h.marks)) k

numbers_back : (u : ℕ) (h p : Held) (i : ℕ) → p.rows ≡ (row_aside u (numbers_of h.rows i) h i).rows → numbers_of p.rows i ≡ numbers_of h.rows i
numbers_back u h p i e = ap (λ (s : List ℕ). numbers_of s i) e ∙ numbers_same u (numbers_of h.rows i) h i i

pub owns_same : (x n u : ℕ) (ns : List ℕ) (h : Held) (i k : ℕ) → owns x n (row_aside u ns h i).rows k ≡ owns x n h.rows k
unfolding owns
owns_same x zero u ns h i k = refl
owns_same x (suc n) u ns h i k = ap₂ (λ (a : List ℕ) (b : Bool). has x a || b) (numbers_same u ns h i k) (owns_same x n u ns h i (suc k))

owns_next : (x n : ℕ) (s : List ℕ) (i : ℕ) → has x (numbers_of s i) ≡ false → owns x n s (suc i) ≡ false → owns x (suc n) s i ≡ false
unfolding owns
owns_next x n s i e f = rw (e, f)

two_numbers : (s : List ℕ) (i : ℕ) → length (numbers_of s i) ≤ 2
two_numbers s i = go (eqb (cell s i KIND) CALL) (eqb (cell s i KIND) GROUP || eqb (cell s i KIND) IF_WRAP) (cell s i NUMBER) (cell s i SECOND_NUMBER)
  where
    go : (p q : Bool) (a b : ℕ) → length (cond p (a ∷ b ∷ []) (cond q (a ∷ []) [])) ≤ 2
    go true q a b = omega arith
    go false true a b = omega arith
    go false false a b = omega arith

-- What a row keeps is read back.
low : (x y : ℕ) → x < 256 → (x + 256 * y) % 256 ≡ x
low x y h = omega arith

high : (x y : ℕ) → x < 256 → y < 256 → (x + 256 * y) / 256 % 256 ≡ y
high x y h k = omega arith

pack_low : (x : ℕ) → x < 256 → packed_marks (x ∷ []) % 256 ≡ x
unfolding packed_marks
pack_low x h = low x 0 h

pack_both : (x y : ℕ) → packed_marks (x ∷ y ∷ []) ≡ x + 256 * y
unfolding packed_marks
pack_both x y = omega arith

clear_bytes : (u n : ℕ) (m : List ℕ) → Bytes m → Bytes (clear u n m)
clear_bytes u n m b = record { at = λ k. go k (eqb k n) refl }
  where
    zeroed : (k : ℕ) (c : Bool) → eqb k n ≡ c → get_or (set m n 0) k 0 < 256
    zeroed k true e = let q = eqb-true k n e in rw (q, set_zero m n) (omega arith)
    zeroed k false e = rw (get_or-set_other m n k 0 0 (eqb-false k n e)) (b.at k)

    go : (k : ℕ) (c : Bool) → eqb k n ≡ c → get_or (clear u n m) k 0 < 256
    go k c e = each (ltb n u)
      where
        each : (p : Bool) → get_or (cond p m (set m n 0)) k 0 < 256
        each true = b.at k
        each false = zeroed k c e

cleared_bytes : (u : ℕ) (ns m : List ℕ) → Bytes m → Bytes (cleared_all u ns m)
unfolding cleared_all
cleared_bytes u [] m b = b
cleared_bytes u (n ∷ ns) m b = cleared_bytes u ns (clear u n m) (clear_bytes u n m b)

aside_bytes : (u : ℕ) (ns : List ℕ) (h : Held) (i : ℕ) → Bytes h.marks → Bytes (row_aside u ns h i).marks
unfolding row_aside
aside_bytes u [] h i b = b
aside_bytes u (n ∷ ns) h i b = cleared_bytes u (n ∷ ns) h.marks b

unpack_row : (u : ℕ) (ns m c : List ℕ) → length ns ≤ 2 → Bytes m → restore ns (unpacked_marks (packed_marks (saved u ns m))) c ≡ restore ns (saved u ns m) c
unfolding restore saved
unpack_row u [] m c l b = refl
unpack_row u (x ∷ []) m c l b = ap (λ (z : ℕ). set c x z) (pack_low (get_or m x 0) (b.at x))
unpack_row u (x ∷ y ∷ []) m c l b =
    let p = get_or m x 0 in
    let q = get_or (clear u x m) y 0 in
    let e = pack_both p q in
    ap₂ (λ (v : ℕ) (w : ℕ). set (set c y w) x v)
    (ap (λ (z : ℕ). z % 256) e ∙ low p q (b.at x))
    (ap (λ (z : ℕ). z / 256 % 256) e ∙ high p q (b.at x) ((clear_bytes u x m b).at y))
unpack_row u (x ∷ y ∷ z ∷ ns) m c l b = absurd (omega arith)

-- Numbers that are no row's keep their marks.
pub has_first : (p q : Bool) → p || q ≡ false → (p ≡ false) × (q ≡ false)
has_first false q e = (refl, e)
has_first true q e = absurd (no_true e)
  where
    no_true : true ≡ false → ⊥
    no_true e = let z : ◌≡◌ {A = ℕ} 0 1 = cc in omega arith

cleared_other : (u x : ℕ) (ns m : List ℕ) → has x ns ≡ false → get_or (cleared_all u ns m) x 0 ≡ get_or m x 0
unfolding cleared_all has
cleared_other u x [] m e = refl
cleared_other u x (n ∷ ns) m e =
    let f = has_first (eqb x n) (has x ns) e in
    cleared_other u x ns (clear u n m) f.1 ∙ clear_other u n x m (eqb-false x n f.0)

row_other : (u x : ℕ) (ns : List ℕ) (h : Held) (i : ℕ) → has x ns ≡ false → get_or (row_aside u ns h i).marks x 0 ≡ get_or h.marks x 0
unfolding row_aside
row_other u x [] h i e = refl
row_other u x (n ∷ ns) h i e = cleared_other u x (n ∷ ns) h.marks e

pub aside_other : (x n u : ℕ) (h : Held) (i : ℕ) → owns x n h.rows i ≡ false → get_or (put_aside n u h i).marks x 0 ≡ get_or h.marks x 0
unfolding put_aside owns
aside_other x zero u h i e = refl
aside_other x (suc n) u h i e =
    let ns = numbers_of h.rows i in
    let f = has_first (has x ns) (owns x n h.rows (suc i)) e in
    aside_other x n u (row_aside u ns h i) (suc i) (owns_same x n u ns h i (suc i) ∙ f.1) ∙ row_other u x ns h i f.0

-- One row undone: its store.
pub not_str : (s : List ℕ) (i n : ℕ) (ns : List ℕ) → numbers_of s i ≡ n ∷ ns → cell s i KIND ≡ STR → ⊥
not_str s i n ns e k = some n ns (sym (none s i k) ∙ e)
  where
    none : (s : List ℕ) (i : ℕ) → cell s i KIND ≡ STR → numbers_of s i ≡ []
    none s i k = rw k

    some : (n : ℕ) (ns : List ℕ) → [] ≡ n ∷ ns → ⊥
    some n ns e = let z : ◌≡◌ {A = ℕ} 0 1 = cc in omega arith

row_undone : (u : ℕ) (ns : List ℕ) (h p : Held) (i : ℕ) → numbers_of h.rows i ≡ ns
    → p.rows ≡ (row_aside u ns h i).rows → ((cell h.rows i KIND ≡ STR → ⊥) → cell h.rows i WIDTH ≡ 0)
    → (row_back ns p i).rows ≡ h.rows
unfolding row_aside row_back
row_undone u [] h p i e f z = f
row_undone u (n ∷ ns) h p i e f z =
    ap (λ (r : List ℕ). set r (i * PLACES + WIDTH) 0) f
    ∙ rubbed h.rows (i * PLACES + WIDTH) (packed_marks (saved u (n ∷ ns) h.marks)) (z (not_str h.rows i n ns e))

unused_set : (n : ℕ) (s : List ℕ) (i x : ℕ) → Unused (suc n) s i → Unused n (set s (i * PLACES + WIDTH) x) (suc i)
unused_set n s i x z =
    record {
      at =
          λ k a b f. get_or-set_other s (i * PLACES + WIDTH) (k * PLACES + WIDTH) x 0 (λ e. omega arith)
          ∙ z.at k (omega arith) (omega arith) (λ e. f (other s i x k 0 (omega arith) ∙ e));
    }

unused_less : (n : ℕ) (s : List ℕ) (i : ℕ) → Unused (suc n) s i → Unused n s (suc i)
unused_less n s i z = record { at = λ k a b f. z.at k (omega arith) (omega arith) f }

unused_row : (n u : ℕ) (ns : List ℕ) (h : Held) (i : ℕ) → Unused (suc n) h.rows i → Unused n (row_aside u ns h i).rows (suc i)
unfolding row_aside
unused_row n u [] h i z = unused_less n h.rows i z
unused_row n u (x ∷ ns) h i z = unused_set n h.rows i (packed_marks (saved u (x ∷ ns) h.marks)) z

-- The store is as it was.
rows_step : (n u : ℕ) (h p : Held) (i : ℕ) → Unused (suc n) h.rows i → p.rows ≡ (row_aside u (numbers_of h.rows i) h i).rows
    → (row_back (numbers_of p.rows i) p i).rows ≡ h.rows
rows_step n u h p i z e =
    ap (λ (ns : List ℕ). (row_back ns p i).rows) (numbers_back u h p i e)
    ∙ row_undone u (numbers_of h.rows i) h p i refl e (z.at i (omega arith) (omega arith))

pub rows_undone : (n u : ℕ) (h : Held) (c : List ℕ) (i : ℕ) → Unused n h.rows i → (put_back n (held (put_aside n u h i).rows c) i).rows ≡ h.rows
unfolding put_aside put_back
rows_undone zero u h c i z = refl
rows_undone (suc n) u h c i z =
    let h1 = row_aside u (numbers_of h.rows i) h i in
    rows_step n u h (put_back n (held (put_aside n u h1 (suc i)).rows c) (suc i)) i z
    (rows_undone n u h1 c (suc i) (unused_row n u (numbers_of h.rows i) h i z))

-- One row undone: its numbers' marks.
row_marked : (u x : ℕ) (ns : List ℕ) (h p : Held) (i : ℕ) → length ns ≤ 2 → Bytes h.marks
    → i * PLACES + WIDTH < length h.rows → p.rows ≡ (row_aside u ns h i).rows
    → length p.marks ≡ length h.marks
    → x < length h.marks
    → (has x ns ≡ false → get_or p.marks x 0 ≡ get_or h.marks x 0)
    → get_or (row_back ns p i).marks x 0 ≡ get_or h.marks x 0
unfolding row_aside row_back has
row_marked u x [] h p i t b r e l k q = q refl
row_marked u x (n ∷ ns) h p i t b r e l k q =
    let v = packed_marks (saved u (n ∷ ns) h.marks) in
    ap (λ (w : ℕ). get_or (restore (n ∷ ns) (unpacked_marks w) p.marks) x 0)
    (ap (λ (s : List ℕ). cell s i WIDTH) e ∙ get_or-set_same h.rows (i * PLACES + WIDTH) v 0 r)
    ∙ ap (λ (w : List ℕ). get_or w x 0) (unpack_row u (n ∷ ns) h.marks p.marks t b)
    ∙ put_back_lem u x (n ∷ ns) h.marks p.marks l k q

back_size : (n : ℕ) (h : Held) (i : ℕ) → length (put_back n h i).marks ≡ length h.marks
unfolding put_back
back_size zero h i = refl
back_size (suc n) h i = back_marks (numbers_of (put_back n h (suc i)).rows i) (put_back n h (suc i)) i ∙ back_size n h (suc i)

marks_step : (u x : ℕ) (h p : Held) (i : ℕ) → Bytes h.marks → i * PLACES + WIDTH < length h.rows → p.rows ≡ (row_aside u (numbers_of h.rows i) h i).rows
    → length p.marks ≡ length h.marks
    → x < length h.marks
    → (has x (numbers_of h.rows i) ≡ false → get_or p.marks x 0 ≡ get_or h.marks x 0)
    → get_or (row_back (numbers_of p.rows i) p i).marks x 0 ≡ get_or h.marks x 0
marks_step u x h p i b r e l k q =
    ap (λ (ns : List ℕ). get_or (row_back ns p i).marks x 0) (numbers_back u h p i e)
    ∙ row_marked u x (numbers_of h.rows i) h p i (two_numbers h.rows i) b r e l k q

-- Each mark is as it was.
marks_undone : (x n u : ℕ) (h : Held) (c : List ℕ) (i : ℕ) → Unused n h.rows i → Bytes h.marks → (i + n) * 9 ≤ length h.rows
    → length c ≡ length h.marks
    → x < length h.marks
    → (owns x n h.rows i ≡ false → get_or c x 0 ≡ get_or h.marks x 0)
    → get_or (put_back n (held (put_aside n u h i).rows c) i).marks x 0 ≡ get_or h.marks x 0
unfolding put_aside put_back owns
marks_undone x zero u h c i z b r l k q = q refl
marks_undone x (suc n) u h c i z b r l k q =
    let ns = numbers_of h.rows i in
    let h1 = row_aside u ns h i in
    let y = unused_row n u ns h i z in
    let a = aside_rows u ns h i in
    let d = aside_marks u ns h i in
    let g = held (put_aside n u h1 (suc i)).rows c in
    marks_step u x h (put_back n g (suc i)) i b (omega arith) (rows_undone n u h1 c (suc i) y) (back_size n g (suc i) ∙ l) k
    (λ e.
    let o = row_other u x ns h i e in
    marks_undone x n u h1 c (suc i) y (aside_bytes u ns h i b) (omega arith) (l ∙ sym d) (omega arith)
    (λ f. q (owns_next x n h.rows i e (sym (owns_same x n u ns h i (suc i)) ∙ f)) ∙ sym o)
    ∙ o)

-- All is as it was.
pub undone : (n u : ℕ) (s m c : List ℕ) (i : ℕ) → Unused n s i → Bytes m → (i + n) * 9 ≤ length s → length c ≡ length m
    → ((x : ℕ) → owns x n s i ≡ false → get_or c x 0 ≡ get_or (put_aside n u (held s m) i).marks x 0)
    → put_back n (held (put_aside n u (held s m) i).rows c) i ≡ held s m
undone n u s m c i z b r l q =
    let g = held (put_aside n u (held s m) i).rows c in
    let t = back_size n g i in
    ap₂ (λ (x : List ℕ) (y : List ℕ). held x y)
    (rows_undone n u (held s m) c i z)
    (ext_get_or 0 (put_back n g i).marks m (t ∙ l)
    (λ x k. marks_undone x n u (held s m) c i z b r l (omega arith) (λ e. q x e ∙ aside_other x n u (held s m) i e)))
