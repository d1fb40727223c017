-- Rows listed become open rows, and open rows are listed.
-- Assumes nothing.
use mathlib.Core.Path.{◌≡◌, refl, sym, ap, ap₂, ◌∙◌}
use mathlib.Core.Bool.{Bool, true, false, cond, not, ◌||◌}
use mathlib.Core.List.{List, [], ◌∷◌, ◌++◌, append-nil, map}
use Prim.Native.Nat.{ℕ, zero, suc, ◌+◌, ◌-◌, ◌*◌, ◌≤◌, ◌<◌, min}
use native.Mathlib.Omega.{arith}
use native.Mathlib.Numerals.{add-one}
use lib.Dec.{ltb}
use lib.ListN.{length, get_or, set, take, drop, replicate, length-append, length-map, length-replicate}
use lib.Seq.{length-take-le}
use borrow.Author.Tests.{ltb-true, ltb-false, lt-ltb, le-ltb}
use Rattle.std.proofs.lemmas.List.{map-append}
use Rattle.rows.specs.Limits.{MAX_DEPTH}
use Rattle.rows.specs.Places.{PLACES}
use Rattle.rows.specs.View.{View, view_of}
use Rattle.renderer_rules.specs.declared.Frame.{Frame}
use Rattle.renderer_rules.specs.declared.Pen.{Pen}
use Rattle.renderer_rules.specs.Frames.{no_frame, frame_at}
use Rattle.renderer_rules.specs.Stops.{OpenRow, listed_as, listed_rows}
use Rattle.renderer_rules.specs.Listed.{resumed, reads_from, listed_those, can_close_all}
use Rattle.cut_rule.specs.Run.{write_front}
use Rattle.listed_rows.specs.Numbers.{open_row, row_number, AllIn}
use Rattle.render_call.specs.Calls.{listed_of}
use Rattle.render_call.specs.Whole.{rows_open}
use Rattle.render_call.proofs.Accepted.{reads_low}
use Rattle.render_call.proofs.Resumes.{those_same, around_all, around_low}

take_more : {A : Type 0} (xs : List A) (k : ℕ) (d : A) → k < length xs → take (suc k) xs ≡ take k xs ++ (get_or xs k d ∷ [])
take_more [] k d h = absurd (omega arith)
take_more (x ∷ xs) zero d h = refl
take_more (x ∷ xs) (suc k) d h = ap (λ l. x ∷ l) (take_more xs k d (omega arith))

set_next : {A : Type 0} (xs : List A) (m : ℕ) (y f : A) → set (xs ++ replicate (suc m) y) (length xs) f ≡ (xs ++ (f ∷ [])) ++ replicate m y
set_next [] m y f = refl
set_next (x ∷ xs) m y f = ap (λ l. x ∷ l) (set_next xs m y f)

set_over : (xs old : List ℕ) (f : ℕ) → length xs < length old
    → set (xs ++ drop (length xs) old) (length xs) f ≡ (xs ++ (f ∷ [])) ++ drop (suc (length xs)) old
set_over [] [] f h = absurd (omega arith)
set_over [] (y ∷ old) f h = refl
set_over (x ∷ xs) [] f h = absurd (omega arith)
set_over (x ∷ xs) (y ∷ old) f h = ap (λ l. x ∷ l) (set_over xs old f (omega arith))

-- ---- listed rows to open rows
pub record Opening (v : View) (n : ℕ) (numbers : List ℕ) (items : List Frame) (k : ℕ) : Type 0 where
  pub low : k ≤ length numbers
  pub is : items ≡ map (resumed v n) (map open_row (take k numbers)) ++ replicate (MAX_DEPTH - k) no_frame

pub opening_start : (v : View) (n : ℕ) (numbers : List ℕ) (items : List Frame) → items ≡ replicate MAX_DEPTH no_frame → Opening v n numbers items 0
opening_start v n numbers items e = record { low = omega arith; is = e }

pub opening_more : (v : View) (n : ℕ) (numbers : List ℕ) (items : List Frame) (k : ℕ) (f : Frame) → Opening v n numbers items k → k < length numbers
    → length numbers ≤ MAX_DEPTH → f ≡ resumed v n (open_row (get_or numbers k 0)) → Opening v n numbers (set items k f) (k + 1)
opening_more v n numbers items k f o h few e =
    let xs = map (resumed v n) (map open_row (take k numbers)) in
    let size : length xs ≡ k = length-map (map open_row (take k numbers)) (resumed v n) ∙ length-map (take k numbers) open_row
    ∙ length-take-le k numbers (omega arith) in
    let one : MAX_DEPTH - k ≡ suc (MAX_DEPTH - (k + 1)) = omega arith in
    let more : map (resumed v n) (map open_row (take (k + 1) numbers)) ≡ xs ++ (f ∷ []) =
    ap (λ (m : ℕ). map (resumed v n) (map open_row (take m numbers))) (add-one k)
    ∙ ap (λ (l : List ℕ). map (resumed v n) (map open_row l)) (take_more numbers k 0 h)
    ∙ ap (map (resumed v n)) (map-append open_row (take k numbers) (get_or numbers k 0 ∷ []))
    ∙ map-append (resumed v n) (map open_row (take k numbers)) (open_row (get_or numbers k 0) ∷ [])
    ∙ ap (λ (g : Frame). xs ++ (g ∷ [])) (sym e) in
    record {
      low = omega arith;
      is =
          ap (λ (l : List Frame). set l k f) o.is
          ∙ ap₂ (λ (l : List Frame) (m : ℕ). set (xs ++ l) m f) (ap (λ (m : ℕ). replicate m no_frame) one) (sym size)
          ∙ set_next xs (MAX_DEPTH - (k + 1)) no_frame f
          ∙ ap (λ (l : List Frame). l ++ replicate (MAX_DEPTH - (k + 1)) no_frame) (sym more);
    }

take_whole : (xs : List ℕ) (k : ℕ) → length xs ≤ k → take k xs ≡ xs
take_whole [] zero h = refl
take_whole [] (suc k) h = refl
take_whole (x ∷ xs) zero h = absurd (omega arith)
take_whole (x ∷ xs) (suc k) h = ap (λ l. x ∷ l) (take_whole xs k (omega arith))

pub opening_end : (v : View) (n : ℕ) (numbers : List ℕ) (items : List Frame) (k : ℕ) → Opening v n numbers items k → length numbers ≤ k
    → items ≡ rows_open v n numbers
opening_end v n numbers items k o h =
    let l = o.low in
    let e : k ≡ length numbers = omega arith in
    o.is
    ∙ ap₂ (λ (xs : List ℕ) (m : ℕ). map (resumed v n) (map open_row xs) ++ replicate (MAX_DEPTH - m) no_frame) (take_whole numbers k h) e

-- ---- open rows to listed rows
pub record Listing (items : List Frame) (depth : ℕ) (old new : List ℕ) (k : ℕ) : Type 0 where
  pub low : k ≤ depth
  pub is : new ≡ write_front (map row_number (listed_rows items k)) old

pub listing_start : (items : List Frame) (depth : ℕ) (old : List ℕ) → Listing items depth old old 0
unfolding listed_rows
listing_start items depth old = record { low = omega arith; is = refl }

pub listing_more : (items : List Frame) (depth : ℕ) (old new : List ℕ) (k n : ℕ) → Listing items depth old new k → k < depth → depth ≤ length items
    → depth ≤ length old → n ≡ row_number (listed_as (frame_at items k)) → Listing items depth old (set new k n) (k + 1)
unfolding listed_rows
listing_more items depth old new k n l h a b e =
    let xs = map row_number (listed_rows items k) in
    let size : length xs ≡ k = length-map (listed_rows items k) row_number ∙ length-map (take k items) listed_as ∙ length-take-le k items (omega arith) in
    let more : map row_number (listed_rows items (k + 1)) ≡ xs ++ (n ∷ []) =
    ap (λ (m : ℕ). map row_number (map listed_as (take m items))) (add-one k)
    ∙ ap (λ (t : List Frame). map row_number (map listed_as t)) (take_more items k no_frame (omega arith))
    ∙ ap (map row_number) (map-append listed_as (take k items) (frame_at items k ∷ []))
    ∙ map-append row_number (map listed_as (take k items)) (listed_as (frame_at items k) ∷ [])
    ∙ ap (λ (m : ℕ). xs ++ (m ∷ [])) (sym e) in
    let size2 : length (xs ++ (n ∷ [])) ≡ suc (length xs) = length-append xs (n ∷ []) ∙ omega arith in
    record {
      low = omega arith;
      is =
          ap (λ (t : List ℕ). set t k n) l.is
          ∙ ap (λ (m : ℕ). set (xs ++ drop (length xs) old) m n) (sym size)
          ∙ set_over xs old n (omega arith)
          ∙ ap (λ (m : ℕ). (xs ++ (n ∷ [])) ++ drop m old) (sym size2)
          ∙ ap (λ (t : List ℕ). t ++ drop (length t) old) (sym more);
    }

pub listing_end : (items : List Frame) (depth : ℕ) (old new : List ℕ) (k : ℕ) → Listing items depth old new k → depth ≤ k
    → new ≡ write_front (map row_number (listed_rows items depth)) old
listing_end items depth old new k l h = let w = l.low in let e : k ≡ depth = omega arith in
    l.is ∙ ap (λ (m : ℕ). write_front (map row_number (listed_rows items m)) old) e

-- ---- the rows that a state lists
pub listed_none : (numbers : List ℕ) (n : ℕ) → n ≡ 0 → listed_of n numbers ≡ []
unfolding listed_of
listed_none numbers n e = rw e (ap (λ (m : ℕ). map open_row (replicate m 0)) (let z : 0 - length numbers ≡ 0 = omega arith in z))

pub listed_few : (numbers : List ℕ) (n : ℕ) → n ≤ length numbers → listed_of n numbers ≡ map open_row (take n numbers)
unfolding listed_of
listed_few numbers n h =
    ap (λ (m : ℕ). map open_row (take n numbers ++ replicate m 0)) (let z : n - length numbers ≡ 0 = omega arith in z)
    ∙ ap (map open_row) (append-nil (take n numbers))

pub listed_count : (numbers : List ℕ) (n : ℕ) → length (listed_of n numbers) ≡ n
unfolding listed_of
listed_count numbers n =
    length-map (take n numbers ++ replicate (n - length numbers) 0) open_row
    ∙ length-append (take n numbers) (replicate (n - length numbers) 0)
    ∙ ap₂ ◌+◌ (took numbers n) (length-replicate (n - length numbers) 0)
    ∙ omega arith
  where
    took : (xs : List ℕ) (k : ℕ) → length (take k xs) ≡ min k (length xs)
    took [] zero = refl
    took [] (suc k) = omega arith
    took (x ∷ xs) zero = omega arith
    took (x ∷ xs) (suc k) = (let e = took xs k in omega arith)

pub first_read : (numbers : List ℕ) (n row first m : ℕ) → 0 < n → 0 < length numbers → first ≡ (open_row (get_or numbers 0 0)).row → m ≡ min row first
    → m ≡ reads_from (listed_of n numbers) row
unfolding listed_of
first_read [] n row first m h k e f = absurd (omega arith)
first_read (x ∷ xs) zero row first m h k e f = absurd (omega arith)
first_read (x ∷ xs) (suc n) row first m h k e f = go (ltb (open_row x).row row) refl
  where
    go : (b : Bool) → ltb (open_row x).row row ≡ b → m ≡ cond b (open_row x).row row
    go true y = let z = ltb-true (open_row x).row row y in omega arith
    go false y = let z = ltb-false (open_row x).row row y in omega arith

-- what is listed rightly is in the store
pub those_in : (store numbers : List ℕ) (n : ℕ) → n * PLACES ≤ length store → listed_those (view_of store) (map open_row numbers) n ≡ true
    → AllIn store numbers
those_in store numbers n h e =
    let v = view_of store in
    let ls = map open_row numbers in
    let a = reads_low ls n in
    let all = around_all v n (n - reads_from ls n) (reads_from ls n) (reads_from ls n) ls (omega arith) (omega arith) (those_same v ls n e) in
    record {
      at = λ k l.
          let x = around_low v n (reads_from ls n) ls all k (open_row 0) (let s = length-map numbers open_row in omega arith) in
          let y = ap (λ (r : OpenRow). r.row) (got numbers k) in
          omega arith;
    }
  where
    got : (xs : List ℕ) (k : ℕ) → get_or (map open_row xs) k (open_row 0) ≡ open_row (get_or xs k 0)
    got [] zero = refl
    got [] (suc k) = refl
    got (x ∷ xs) zero = refl
    got (x ∷ xs) (suc k) = got xs k

-- ---- 23's three tests
fit : (a b c d : Bool) → a ≡ false → b ≡ true → d ≡ c → d ≡ not (a || (not b || (not c || false)))
fit a b true d e f g = rw (e, f) g
fit a b false d e f g = rw (e, f) g

pub all_fit : (v : View) (ls : List OpenRow) (row : ℕ) (pen : Pen) (d : Bool) → length ls ≤ 256 → listed_those v ls row ≡ true → d ≡ can_close_all v ls pen
    → d ≡ not (ltb 256 (length ls) || (not (listed_those v ls row) || (not (can_close_all v ls pen) || false)))
all_fit v ls row pen d h e f = fit _ _ _ d (le-ltb 256 (length ls) h) e f

pub too_many : (v : View) (ls : List OpenRow) (row : ℕ) (pen : Pen) → 256 < length ls
    → false ≡ not (ltb 256 (length ls) || (not (listed_those v ls row) || (not (can_close_all v ls pen) || false)))
too_many v ls row pen h = rw (lt-ltb 256 (length ls) h) refl

pub not_those : (v : View) (ls : List OpenRow) (row : ℕ) (pen : Pen) → listed_those v ls row ≡ false
    → false ≡ not (ltb 256 (length ls) || (not (listed_those v ls row) || (not (can_close_all v ls pen) || false)))
not_those v ls row pen e = go (ltb 256 (length ls))
  where
    go : (a : Bool) → false ≡ not (a || (not (listed_those v ls row) || (not (can_close_all v ls pen) || false)))
    go true = refl
    go false = rw e refl
