-- How often a byte stands in a list: in two lists, and among cleared marks.
-- Assumes nothing.
use Rattle.std.proofs.Common.{◌≡◌, refl, ◌∙◌, ◌==◌, cond, Bool, true, false, List, [], ◌∷◌, ◌++◌, ℕ}
use Rattle.std.proofs.Common.{zero, suc, ◌+◌, ◌≤◌, length, get_or, drop, replicate, zero-add, arith}
use Rattle.std.proofs.lemmas.List.Sums.{count_by-le-length, sum_by-append, sum_by-cons}
use Rattle.figures.specs.Figures.{occurs}

-- no more often than the list is long
pub occurs_few : (x : ℕ) (l : List ℕ) → occurs x l ≤ length l
occurs_few x l = count_by-le-length (λ y. y == x) l

pub occurs_append : (x : ℕ) (l m : List ℕ) → occurs x (l ++ m) ≡ occurs x l + occurs x m
occurs_append x l m = sum_by-append (λ y. cond (y == x) 1 0) l m

-- every one of cleared marks is 0
pub cleared_at : (n i : ℕ) → ◌≡◌ {A = ℕ} (get_or (replicate n 0) i 0) 0
cleared_at zero zero = refl
cleared_at zero (suc i) = refl
cleared_at (suc n) zero = refl
cleared_at (suc n) (suc i) = cleared_at n i

occurs_more : (x y : ℕ) (l : List ℕ) → occurs x (y ∷ l) ≡ cond (y == x) 1 0 + occurs x l
occurs_more x y l = sum_by-cons (λ z. cond (z == x) 1 0) y l

-- a mark that is set is not among marks that are cleared
pub occurs_cleared : (n k : ℕ) → occurs 1 (drop k (replicate n 0)) ≡ 0
occurs_cleared zero zero = refl
occurs_cleared zero (suc k) = refl
occurs_cleared (suc n) zero = occurs_more 1 0 (replicate n 0) ∙ zero-add _ ∙ occurs_cleared n zero
occurs_cleared (suc n) (suc k) = occurs_cleared n k

-- no more often than there are marks before all that are cleared
pub occurs_below : (l : List ℕ) (k : ℕ) → ((i : ℕ) → k ≤ i → get_or l i 0 ≡ 0) → occurs 1 l ≤ k
occurs_below [] k h = omega arith
occurs_below (y ∷ l) zero h =
    let e : y ≡ 0 = h 0 (omega arith) in
    let i : occurs 1 l ≤ 0 = occurs_below l 0 (λ i j. h (suc i) (omega arith)) in
    let m : occurs 1 (0 ∷ l) ≡ 0 + occurs 1 l = occurs_more 1 0 l in
    rw e (omega arith)
occurs_below (y ∷ l) (suc k) h = go (y == 1) (occurs_more 1 y l) (occurs_below l k (λ i j. h (suc i) (omega arith)))
  where
    go : (b : Bool) → occurs 1 (y ∷ l) ≡ cond b 1 0 + occurs 1 l → occurs 1 l ≤ k → occurs 1 (y ∷ l) ≤ suc k
    go true e h = omega arith
    go false e h = omega arith
