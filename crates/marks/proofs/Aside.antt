-- The loops that clear marks, put them aside and put them back: going on from here gives the whole.
-- Assumes nothing.
use mathlib.Core.Path.{◌≡◌, refl, ap, ap₂, sym, ◌∙◌}
use Prim.Native.Nat.{ℕ, zero, suc, ◌+◌, ◌*◌, ◌/◌, ◌%◌, ◌-◌, ◌≤◌, ◌<◌}
use native.Mathlib.Omega.{arith}
use native.Mathlib.Numerals.{add-one}
use mathlib.Core.List.{List, [], ◌∷◌}
use lib.ListN.{length, get_or, set, replicate, length-set, length-replicate}
use lib.Seq.{sets}
use borrow.Rule.Slice.PartMut.{put_mid, mid_of, mid_len}
use Rattle.rows.specs.Places.{WIDTH, PLACES}
use Rattle.laws.proofs.Numbers.{one_more}
use Rattle.rows.specs.View.{cell}
use Rattle.rows.proofs.Part.{part_sets}
use Rattle.marks.proofs.Restored.{clear_length, restore_length}
use Rattle.marks.specs.Marks.{clear, saved, cleared_all, restore, clear_from, numbers_of, packed_marks}
use Rattle.marks.specs.Marks.{unpacked_marks, Held, held, row_aside, put_aside, row_back, put_back}

none_left : (stop row : ℕ) → stop ≤ row → stop - row ≡ 0
none_left stop row h = omega arith

-- the marks from one number up to another, written over with 0
sets_clear : (n i : ℕ) (m : List ℕ) → sets m i (replicate n 0) ≡ clear_from n i m
unfolding clear_from
sets_clear zero i m = refl
sets_clear (suc n) i m = sets_clear n (suc i) (set m i 0)

pub cleared_part : (m zeros : List ℕ) (from to : ℕ) → from < to → to ≤ length m → zeros ≡ replicate (length (mid_of from (to - from) m)) 0
    → put_mid from (to - from) m zeros ≡ clear_from (to - from) from m
cleared_part m zeros from to h l e =
    rw (e, mid_len from to m l)
    (part_sets (replicate (to - from) 0) m from (to - from) (length-replicate (to - from) 0) (omega arith) ∙ sets_clear (to - from) from m)

pub cleared_none : (n i : ℕ) (m : List ℕ) → n ≡ 0 → m ≡ clear_from n i m
unfolding clear_from
cleared_none n i m e = rw e

pack_two : (v x y : ℕ) → v ≡ x + y * 256 + 0 + 0 → v ≡ packed_marks (x ∷ y ∷ [])
unfolding packed_marks
pack_two v x y e = omega arith

pack_one : (x : ℕ) → x ≡ packed_marks (x ∷ [])
unfolding packed_marks
pack_one x = omega arith

pub aside_two : (u : ℕ) (s m : List ℕ) (i a b v x y : ℕ) (m1 m2 ns : List ℕ) → a ∷ b ∷ [] ≡ ns
    → x ≡ get_or m a 0 → m1 ≡ clear u a m → y ≡ get_or m1 b 0 → m2 ≡ clear u b m1 → v ≡ x + y * 256 + 0 + 0
    → held (set s (i * PLACES + WIDTH) v) m2 ≡ row_aside u ns (held s m) i
unfolding row_aside saved cleared_all
aside_two u s m i a b v x y m1 m2 ns n e f g h p =
    ap₂ (λ (z : ℕ) (w : List ℕ). held (set s (i * PLACES + WIDTH) z) w)
    (pack_two v x y p ∙ ap₂ (λ (p : ℕ) (q : ℕ). packed_marks (p ∷ q ∷ [])) e (g ∙ ap (λ (w : List ℕ). get_or w b 0) f))
    (h ∙ ap (λ (w : List ℕ). clear u b w) f)
    ∙ ap (λ (l : List ℕ). row_aside u l (held s m) i) n

pub aside_one : (u : ℕ) (s m : List ℕ) (i a v x : ℕ) (m1 ns : List ℕ) → a ∷ [] ≡ ns → x ≡ get_or m a 0 → m1 ≡ clear u a m → v ≡ x
    → held (set s (i * PLACES + WIDTH) v) m1 ≡ row_aside u ns (held s m) i
unfolding row_aside saved cleared_all
aside_one u s m i a v x m1 ns n e f p =
    ap₂ (λ (z : ℕ) (w : List ℕ). held (set s (i * PLACES + WIDTH) z) w) (p ∙ pack_one x ∙ ap (λ (p : ℕ). packed_marks (p ∷ [])) e) f
    ∙ ap (λ (l : List ℕ). row_aside u l (held s m) i) n

pub aside_none : (u : ℕ) (h : Held) (i : ℕ) (ns : List ℕ) → [] ≡ ns → h ≡ row_aside u ns h i
unfolding row_aside
aside_none u h i ns n = ap (λ (l : List ℕ). row_aside u l h i) n

pub back_two : (s m : List ℕ) (i a b v x y : ℕ) (m1 m2 ns : List ℕ) → a ∷ b ∷ [] ≡ ns
    → v ≡ cell s i WIDTH → y ≡ v / 256 % 256 → m1 ≡ set m b y → x ≡ v % 256 → m2 ≡ set m1 a x
    → held (set s (i * PLACES + WIDTH) 0) m2 ≡ row_back ns (held s m) i
unfolding row_back restore
back_two s m i a b v x y m1 m2 ns n c e f g h =
    ap (λ (w : List ℕ). held (set s (i * PLACES + WIDTH) 0) w)
    (h
    ∙ ap₂ (λ (w : List ℕ) (z : ℕ). set w a z) (f ∙ ap (λ (z : ℕ). set m b z) (e ∙ ap (λ (z : ℕ). z / 256 % 256) c)) (g ∙ ap (λ (z : ℕ). z % 256) c))
    ∙ ap (λ (l : List ℕ). row_back l (held s m) i) n

pub back_one : (s m : List ℕ) (i a v x : ℕ) (m1 ns : List ℕ) → a ∷ [] ≡ ns → v ≡ cell s i WIDTH → x ≡ v % 256 → m1 ≡ set m a x
    → held (set s (i * PLACES + WIDTH) 0) m1 ≡ row_back ns (held s m) i
unfolding row_back restore
back_one s m i a v x m1 ns n c e f =
    ap (λ (w : List ℕ). held (set s (i * PLACES + WIDTH) 0) w) (f ∙ ap (λ (z : ℕ). set m a z) (e ∙ ap (λ (z : ℕ). z % 256) c))
    ∙ ap (λ (l : List ℕ). row_back l (held s m) i) n

pub back_none : (h : Held) (i : ℕ) (ns : List ℕ) → [] ≡ ns → h ≡ row_back ns h i
unfolding row_back
back_none h i ns n = ap (λ (l : List ℕ). row_back l h i) n

cleared_length : (u : ℕ) (ns m : List ℕ) → length (cleared_all u ns m) ≡ length m
unfolding cleared_all
cleared_length u [] m = refl
cleared_length u (n ∷ ns) m = cleared_length u ns (clear u n m) ∙ clear_length u n m

pub aside_rows : (u : ℕ) (ns : List ℕ) (h : Held) (i : ℕ) → length (row_aside u ns h i).rows ≡ length h.rows
unfolding row_aside
aside_rows u [] h i = refl
aside_rows u (n ∷ ns) h i = length-set h.rows (i * PLACES + WIDTH) (packed_marks (saved u (n ∷ ns) h.marks))

pub aside_marks : (u : ℕ) (ns : List ℕ) (h : Held) (i : ℕ) → length (row_aside u ns h i).marks ≡ length h.marks
unfolding row_aside
aside_marks u [] h i = refl
aside_marks u (n ∷ ns) h i = cleared_length u (n ∷ ns) h.marks

pub back_rows : (ns : List ℕ) (h : Held) (i : ℕ) → length (row_back ns h i).rows ≡ length h.rows
unfolding row_back
back_rows [] h i = refl
back_rows (n ∷ ns) h i = length-set h.rows (i * PLACES + WIDTH) 0

pub back_marks : (ns : List ℕ) (h : Held) (i : ℕ) → length (row_back ns h i).marks ≡ length h.marks
unfolding row_back
back_marks [] h i = refl
back_marks (n ∷ ns) h i = restore_length (n ∷ ns) (unpacked_marks (cell h.rows i WIDTH)) h.marks

pub aside_some : (n u : ℕ) (h : Held) (i : ℕ) → put_aside (suc n) u h i ≡ put_aside n u (row_aside u (numbers_of h.rows i) h i) (suc i)
unfolding put_aside
aside_some n u h i = refl

pub aside_all : (n u : ℕ) (h : Held) (i : ℕ) → n ≡ 0 → put_aside n u h i ≡ h
unfolding put_aside
aside_all n u h i e = rw e

pub back_some : (n : ℕ) (h : Held) (i : ℕ) → put_back (suc n) h i ≡ row_back (numbers_of (put_back n h (suc i)).rows i) (put_back n h (suc i)) i
unfolding put_back
back_some n h i = refl

pub back_all : (n : ℕ) (h : Held) (i : ℕ) → n ≡ 0 → put_back n h i ≡ h
unfolding put_back
back_all n h i e = rw e

-- The loop of `put_aside`.
pub record Putting (u : ℕ) (s0 m0 : List ℕ) (from stop : ℕ) (s m : List ℕ) (row : ℕ) : Type 0 where
  pub rows : length s ≡ length s0
  pub marks : length m ≡ length m0
  pub whole : put_aside (stop - row) u (held s m) row ≡ put_aside (stop - from) u (held s0 m0) from

pub putting_more : (u : ℕ) (s0 m0 : List ℕ) (from stop : ℕ) (s m : List ℕ) (row : ℕ) (s2 m2 : List ℕ) → Putting u s0 m0 from stop s m row → row < stop
    → held s2 m2 ≡ row_aside u (numbers_of s row) (held s m) row
    → Putting u s0 m0 from stop s2 m2 (row + 1)
putting_more u s0 m0 from stop s m row s2 m2 c h e =
    record {
      rows = ap (λ (x : Held). length x.rows) e ∙ aside_rows u (numbers_of s row) (held s m) row ∙ c.rows;
      marks = ap (λ (x : Held). length x.marks) e ∙ aside_marks u (numbers_of s row) (held s m) row ∙ c.marks;
      whole =
          ap₂ (λ (x : Held) (k : ℕ). put_aside (stop - (row + 1)) u x k) e (add-one row)
          ∙ sym (aside_some (stop - (row + 1)) u (held s m) row)
          ∙ ap (λ (n : ℕ). put_aside n u (held s m) row) (sym (one_more stop row h))
          ∙ c.whole;
    }

pub putting_end : (u : ℕ) (s0 m0 : List ℕ) (from stop : ℕ) (s m : List ℕ) (row : ℕ) → Putting u s0 m0 from stop s m row → stop ≤ row
    → held s m ≡ put_aside (stop - from) u (held s0 m0) from
putting_end u s0 m0 from stop s m row c h = sym (aside_all (stop - row) u (held s m) row (none_left stop row h)) ∙ c.whole

-- The loop of `put_back`.
pub record Backing (s0 m0 : List ℕ) (from stop : ℕ) (s m : List ℕ) (row : ℕ) : Type 0 where
  pub low : from ≤ row
  pub high : row ≤ stop
  pub rows : length s ≡ length s0
  pub marks : length m ≡ length m0
  pub done : held s m ≡ put_back (stop - row) (held s0 m0) row

pub backing_start : (s m : List ℕ) (from stop : ℕ) → from ≤ stop → Backing s m from stop s m stop
backing_start s m from stop h =
    record { low = h; high = omega arith; rows = refl; marks = refl; done = sym (back_all (stop - stop) (held s m) stop (none_left stop stop (omega arith))) }

pub backing_more : (s0 m0 : List ℕ) (from stop : ℕ) (s m : List ℕ) (row : ℕ) (s2 m2 : List ℕ) → Backing s0 m0 from stop s m row → from < row
    → held s2 m2 ≡ row_back (numbers_of s (row - 1)) (held s m) (row - 1)
    → Backing s0 m0 from stop s2 m2 (row - 1)
backing_more s0 m0 from stop s m row s2 m2 c h e =
    let l = c.low in
    let r = c.high in
    record {
      low = omega arith;
      high = omega arith;
      rows = ap (λ (x : Held). length x.rows) e ∙ back_rows (numbers_of s (row - 1)) (held s m) (row - 1) ∙ c.rows;
      marks = ap (λ (x : Held). length x.marks) e ∙ back_marks (numbers_of s (row - 1)) (held s m) (row - 1) ∙ c.marks;
      done =
          e
          ∙ ap (λ (x : Held). row_back (numbers_of x.rows (row - 1)) x (row - 1)) (c.done ∙ ap (put_back (stop - row) (held s0 m0)) (up row from h))
          ∙ sym (back_some (stop - row) (held s0 m0) (row - 1))
          ∙ ap (λ (n : ℕ). put_back n (held s0 m0) (row - 1)) (longer stop row from h r);
    }
  where
    up : (row from : ℕ) → from < row → row ≡ suc (row - 1)
    up row from h = omega arith

    longer : (stop row from : ℕ) → from < row → row ≤ stop → suc (stop - row) ≡ stop - (row - 1)
    longer stop row from h r = omega arith
