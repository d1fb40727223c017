-- Marks put aside in order and put back in reverse order are the marks that were there, if nothing but these numbers' marks changed between.
-- Assumes nothing.
use mathlib.Core.Path.{◌≡◌, refl, sym, ◌∙◌, subst}
use Prim.Native.Nat.{ℕ, zero, suc, ◌<◌}
use native.Mathlib.Omega.{arith}
use mathlib.Core.Bool.{Bool, true, false, cond, ◌||◌}
use mathlib.Core.List.{List, [], ◌∷◌}
use lib.ListN.{length, get_or, set, length-set}
use lib.Seq.{get_or-set_same, get_or-set_other, set-set, set-get_or}
use lib.Dec.{ltb, eqb}
use borrow.Author.Tests.{eqb-true, eqb-false}
use Rattle.marks.specs.Marks.{clear, saved, restore}

-- x is one of the numbers
unfoldable pub has : ℕ → List ℕ → Bool
has x [] = false
has x (n ∷ ns) = eqb x n || has x ns

pub set_zero : (m : List ℕ) (n : ℕ) → get_or (set m n 0) n 0 ≡ 0
set_zero [] n = refl
set_zero (x ∷ m) zero = refl
set_zero (x ∷ m) (suc n) = set_zero m n

pub clear_length : (u n : ℕ) (m : List ℕ) → length (clear u n m) ≡ length m
clear_length u n m = go (ltb n u)
  where
    go : (b : Bool) → length (cond b m (set m n 0)) ≡ length m
    go true = refl
    go false = length-set m n 0

pub clear_other : (u n x : ℕ) (m : List ℕ) → (x ≡ n → ⊥) → get_or (clear u n m) x 0 ≡ get_or m x 0
clear_other u n x m h = go (ltb n u)
  where
    go : (b : Bool) → get_or (cond b m (set m n 0)) x 0 ≡ get_or m x 0
    go true = refl
    go false = get_or-set_other m n x 0 0 h

pub restore_length : (ns log c : List ℕ) → length (restore ns log c) ≡ length c
unfolding restore
restore_length [] log c = refl
restore_length (n ∷ ns) [] c = refl
restore_length (n ∷ ns) (l ∷ log) c = length-set (restore ns log c) n l ∙ restore_length ns log c

has_next : (x n : ℕ) (ns : List ℕ) → eqb x n ≡ false → has x ns ≡ false → has x (n ∷ ns) ≡ false
unfolding has
has_next x n ns e f = rw (e, f)

-- at a number of the log, or where the run left it alone, the old mark is back
put_step : (u x n : ℕ) (ns m c : List ℕ) (b : Bool) → eqb x n ≡ b → length c ≡ length m → x < length m → (has x (n ∷ ns) ≡ false → get_or c x 0 ≡ get_or m x 0)
    → ((has x ns ≡ false → get_or c x 0 ≡ get_or (clear u n m) x 0) → get_or (restore ns (saved u ns (clear u n m)) c) x 0 ≡ get_or (clear u n m) x 0)
    → get_or (set (restore ns (saved u ns (clear u n m)) c) n (get_or m n 0)) x 0 ≡ get_or m x 0
put_step u x n ns m c true e l h q rec =
    let k = eqb-true x n e in
    let r : n < length (restore ns (saved u ns (clear u n m)) c) = let z = restore_length ns (saved u ns (clear u n m)) c in omega arith in
    rw k (get_or-set_same (restore ns (saved u ns (clear u n m)) c) n (get_or m n 0) 0 r)
put_step u x n ns m c false e l h q rec =
    let k = eqb-false x n e in
    let o = clear_other u n x m k in
    get_or-set_other (restore ns (saved u ns (clear u n m)) c) n x (get_or m n 0) 0 k
    ∙ rec (λ f. q (has_next x n ns e f) ∙ sym o)
    ∙ o

pub put_back_lem : (u x : ℕ) (ns m c : List ℕ) → length c ≡ length m → x < length m → (has x ns ≡ false → get_or c x 0 ≡ get_or m x 0)
    → get_or (restore ns (saved u ns m) c) x 0 ≡ get_or m x 0
unfolding restore saved has
put_back_lem u x [] m c l h q = q refl
put_back_lem u x (n ∷ ns) m c l h q =
    put_step u x n ns m c (eqb x n) refl l h q
    (λ r. put_back_lem u x ns (clear u n m) c (l ∙ sym (clear_length u n m)) (let z = clear_length u n m in omega arith) r)

-- a place that was 0 and held the log for a while
pub rubbed : (s : List ℕ) (k l : ℕ) → get_or s k 0 ≡ 0 → set (set s k l) k 0 ≡ s
rubbed s k l e = set-set s k l 0 ∙ subst (λ (x : ℕ). set s k x ≡ s) e (set-get_or s k 0)
