-- How long an image is at most, by the length of its list of steps: each record has at most twice the bytes of its steps.
-- Assumes nothing.
use mathlib.Core.Path.{◌≡◌, refl}
use mathlib.Core.Bool.{Bool, true, false, cond, not, ◌&&◌, false≢true}
use mathlib.Core.List.{List, [], ◌∷◌, ◌++◌, append-nil}
use Prim.Native.Nat.{ℕ, zero, suc, ◌+◌, ◌-◌, ◌*◌, ◌/◌, ◌%◌, ◌≤◌, ◌<◌}
use native.Mathlib.Omega.{arith}
use lib.ListN.{length, length-append}
use lib.Dec.{eqb}
use borrow.Author.Tests.{eqb-true, ne_eqb}
use Rattle.laws.proofs.Booleans.{and_left, and_right, and_false}
use Rattle.image.specs.Grammar.{Grammar, others, ◌⇒◌∣◌, grammar, is_list, is_optional, is_many, element, place, after, many, row_in, row_of, row_under_of}
use Rattle.image.specs.Read.{got}
use Rattle.image.specs.Write.{Plain, Plains, written, writtens}
use Rattle.steps.specs.Steps.{Step, list_bytes, payload_steps, tree_steps, child_steps, close_step}
use Rattle.steps.specs.Rows.{short}
use Rattle.steps.specs.Writer.{record_from}
use Rattle.steps.proofs.Payloads.{wide, text_steps, byte_steps, no_steps}
use Rattle.tree.proofs.Fits.{Pays, text, byte, nothing, Fits, fits, FitsRow, ends, gone, here}
use Rattle.steps.proofs.Taken.{list_append, record_taken}

-- ---- rows
-- the rows of the grammar
abbrev all_short : Grammar → Bool
all_short others = true
all_short (k ⇒ r ∣ g) = short 4 r && all_short g

row_in_short : (k : ℕ) (g : Grammar) → all_short g ≡ true → short 4 (row_in k g) ≡ true
row_in_short k others h = refl
row_in_short k (n ⇒ r ∣ g) h = go (eqb k n) (row_in_short k g (and_right (short 4 r) (all_short g) h))
  where
    go : (t : Bool) → short 4 (row_in k g) ≡ true → short 4 (cond t r (row_in k g)) ≡ true
    go true later = and_left (short 4 r) (all_short g) h
    go false later = later

-- the row of a list
list_short : (x : ℕ) → x < 4096 → short 4 (32768 + x) ≡ true
list_short x h =
    let optional : is_optional (place (32768 + x)) ≡ false = ne_eqb ((32768 + x) % 65536 / 16384 % 2) 1 (λ e. omega arith) in
    let zeros : (32768 + x) / 65536 ≡ 0 = omega arith in
    rw (optional, zeros, and_false (is_many (32768 + x)))

pub row_short : (p k : ℕ) → short 4 (row_under_of p k) ≡ true
unfolding row_under_of row_of
row_short p k = go (is_list p)
  where
    go : (t : Bool) → short 4 (cond t (many (element p)) (row_of k)) ≡ true
    go true = list_short (element p) (omega arith)
    go false = row_in_short k grammar refl

-- an absent child takes a place; a child that is there leaves no more of them
pub short_gone : (n row : ℕ) → is_optional (place row) ≡ true → short n row ≡ true → (m : ℕ) × (suc m ≡ n) × (short m (after row) ≡ true)
short_gone zero row o h = absurd (false≢true (rw (eqb-true row 0 h) at o))
short_gone (suc n) row o h = (n, refl, go (is_many row) refl h)
  where
    go : (t : Bool) → is_many row ≡ t → not (t && is_optional (place row)) && short n (row / 65536) ≡ true → short n (cond t row (row / 65536)) ≡ true
    go true m h = absurd (false≢true (rw o at h))
    go false m h = h

short_more : (n row : ℕ) → short n row ≡ true → short (suc n) row ≡ true
short_more zero row h = rw (eqb-true row 0 h)
short_more (suc n) row h =
    let t = not (is_many row && is_optional (place row)) in
    rw (and_left t (short n (row / 65536)) h) (short_more n (row / 65536) (and_right t (short n (row / 65536)) h))

pub short_here : (n row : ℕ) → short n row ≡ true → short n (after row) ≡ true
short_here zero row h = rw (eqb-true row 0 h)
short_here (suc n) row h = go (is_many row) refl
  where
    go : (t : Bool) → is_many row ≡ t → short (suc n) (cond t row (row / 65536)) ≡ true
    go true m = h
    go false m = short_more n (row / 65536) (and_right (not (is_many row && is_optional (place row))) (short n (row / 65536)) h)

-- ---- a record and its steps
-- a payload, and the steps that give it
pub payload_size : {p kind : ℕ} {x : List ℕ} → Pays 2 p kind x → length x ≤ length (list_bytes (payload_steps kind x))
payload_size {kind = kind} {x = x} (text front t size e w from) =
    let (width, is) = wide x front t size from in
    rw (is, text_steps kind width t e, append-nil t) (omega arith)
payload_size {kind = kind} (byte y e h top is) = rw (is, byte_steps kind y e h) (omega arith)
payload_size {kind = kind} (nothing e h is) = rw (is, no_steps kind e h) (omega arith)

-- the bytes of a record's steps after the first, by its parts
parts_size : (xs ys : List Step) → length (list_bytes (xs ++ (ys ++ (close_step ∷ [])))) ≡ length (list_bytes xs) + (length (list_bytes ys) + 1)
parts_size xs ys = simp (list_append, length-append)

mutual
  unfolding written tree_steps

  -- the spare of a record's own steps is that of four children that are absent
  pub record_size : {left p : ℕ} {x : Plain} → Fits 2 left p x → length (written x) ≤ 2 * length (list_bytes (tree_steps x))
  record_size (fits {p = p} {kind = kind} {x = x} {xs = xs} right order pays row) =
      let a = payload_size pays in
      let b = row_size row 4 (row_short p kind) in
      omega (arith, length-append x (writtens xs), parts_size (payload_steps kind x) (child_steps xs))

  pub row_size : {left row : ℕ} {xs : Plains} → FitsRow 2 left row xs → (n : ℕ) → short n row ≡ true
      → length (writtens xs) ≤ 2 * length (list_bytes (child_steps xs)) + 2 * n
  row_size (ends c) n s = omega arith
  row_size (gone {row = row} o more) n s =
      let m = short_gone n row o s in
      let later = row_size more m.0 m.2 in
      omega (arith, m.1)
  row_size (here {row = row} {x = y} {xs = ys} z x more) n s =
      let a = record_size x in
      let later = row_size more n (short_here n row s) in
      rw (
        length-append (written y) (writtens ys),
        list_append (tree_steps y) (child_steps ys),
        length-append (list_bytes (tree_steps y)) (list_bytes (child_steps ys)),
      )
      (omega arith)

-- ---- what the writer takes
pub record_from_size : (l : List ℕ) (left p at : ℕ) (x : Plain) (end : ℕ) → record_from l left p at ≡ got x end
    → (at ≤ end) × (end ≤ length l) × (length (written x) ≤ 2 * (end - at))
record_from_size l left p at x end h =
    let r = record_taken l left p at x end h in
    let t = r.1 in
    let s = record_size r.0 in
    (omega (arith, t.ends), t.within, omega (arith, t.ends))
