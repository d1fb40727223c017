-- Memory and rows: what the cut rule uses of `write_front` and `write_at`.
-- Assumes nothing.
use mathlib.Core.Path.{◌≡◌, sym, ap, subst, ◌∙◌}
use mathlib.Core.List.{List, ◌++◌, append_assoc}
use Prim.Native.Nat.{ℕ, ◌+◌, ◌-◌, ◌*◌, ◌≤◌}
use native.Mathlib.Omega.{arith}
use lib.ListN.{length, take, drop, length-append, length-drop}
use lib.Seq.{take_at, drop_at, drop-drop, drop-append-add, take-append-le, length-take-le, sets, sets-eq}
use Rattle.rows.specs.Places.{PLACES}
use Rattle.cut_rule.specs.Run.{write_front, write_at}
use Rattle.cut_rule.specs.Laws.{SameBefore}

-- rows written after rows that stand at the front
pub write_behind : (n : ℕ) (xs ys m : List ℕ) → n ≡ length xs → write_at n ys (write_front xs m) ≡ write_front (xs ++ ys) m
write_behind n xs ys m e =
    let rest = drop (length xs) m in
    rw (take_at xs rest n (sym e), drop_at xs rest n (sym e), drop-drop (length ys) (length xs) m, length-append xs ys)
    (sym (append_assoc xs ys (drop (length xs + length ys) m)))

drop_front : (n : ℕ) (xs m : List ℕ) → length xs ≤ n → drop n (write_front xs m) ≡ drop n m
drop_front n xs m h =
    let e : length xs + (n - length xs) ≡ n = omega arith in
    subst (λ (j : ℕ). drop j (write_front xs m) ≡ drop j m) e
    (drop-append-add xs (drop (length xs) m) (n - length xs) ∙ drop-drop (n - length xs) (length xs) m)

-- marks written over marks that are no more
pub write_again : (xs ys m : List ℕ) → length xs ≤ length ys → write_front ys (write_front xs m) ≡ write_front ys m
write_again xs ys m h = ap {B = List ℕ} (λ r. ys ++ r) (drop_front (length ys) xs m h)

pub take_front : (n : ℕ) (xs m : List ℕ) → n ≡ length xs → take n (write_front xs m) ≡ xs
take_front n xs m e = take_at xs (drop (length xs) m) n (sym e)

-- the rows at the front are those that were there without what follows
pub same_before : (n : ℕ) (xs more : List ℕ) → PLACES * n ≤ length xs → SameBefore n (xs ++ more) xs
same_before n xs more h = take-append-le (PLACES * n) xs more h

-- where there is room, `write_at` is a run of stores
pub write_sets : (n : ℕ) (xs m : List ℕ) → n + length xs ≤ length m → write_at n xs m ≡ sets m n xs
write_sets n xs m h =
    ap {B = List ℕ} (λ r. take n m ++ (xs ++ r)) (drop-drop (length xs) n m)
    ∙ sym (append_assoc (take n m) xs (drop (n + length xs) m))
    ∙ sym (sets-eq xs m n h)

pub length_front : (xs m : List ℕ) → length xs ≤ length m → length (write_front xs m) ≡ length m
length_front xs m h = omega (arith, length-append xs (drop (length xs) m), length-drop (length xs) m)

pub length_at : (n : ℕ) (xs m : List ℕ) → n + length xs ≤ length m → length (write_at n xs m) ≡ length m
length_at n xs m h =
    let d : length (drop n m) ≡ length m - n = length-drop n m in
    let h₁ : n ≤ length m = omega arith in
    let h₂ : length xs ≤ length (drop n m) = omega arith in
    let i : length (write_front xs (drop n m)) ≡ length (drop n m) = length_front xs (drop n m) h₂ in
    omega (arith, length-append (take n m) (write_front xs (drop n m)), length-take-le n m h₁)
