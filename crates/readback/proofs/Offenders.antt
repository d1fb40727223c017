-- Each operand that breaks a rule is a 63 of the image, and the least of some numbers is one of them and none is less.
-- Assumes nothing.
use mathlib.Core.Path.{◌≡◌, refl, sym, ap, subst, ◌∙◌}
use mathlib.Core.Bool.{Bool, true, false, cond, ◌||◌}
use mathlib.Core.List.{List, [], ◌∷◌, ◌++◌}
use mathlib.Core.Logic.{◌⊎◌, inl, inr, ⊎_elim}
use Prim.Native.Nat.{ℕ, ◌+◌, ◌≤◌, ◌<◌, min}
use native.Mathlib.Omega.{arith}
use lib.Dec.{ltb, eqb}
use lib.ListN.{length, get_or, get_or-eq_default}
use borrow.Author.Tests.{eq-eqb, eqb-true, ltb-true, ltb-false}
use Rattle.laws.proofs.Booleans.{false_true, and_left, and_right}
use Rattle.refusals.specs.Refusals.{is_one_of}
use Rattle.image.specs.Kinds.{NOT, NEGATE}
use Rattle.image.specs.Read.{Tree, Trees, absent, node, nil, ◌▸◌, kind_at}
use Rattle.readback.specs.Operands.{left_at, right_at, operand_at, is_operator, left_breaks, right_breaks, operand_breaks, if_so, broken}
use Rattle.readback.specs.Verdict.{offenders, offenders_in, least}

-- ---- one of some numbers
pub data Among (x : ℕ) : List ℕ → Type 0 where
  here : {xs : List ℕ} → Among x (x ∷ xs)
  later : {y : ℕ} {xs : List ℕ} → Among x xs → Among x (y ∷ xs)

pub among_is : {x : ℕ} {xs : List ℕ} → Among x xs → is_one_of x xs ≡ true
among_is {x} here = rw (eq-eqb x x refl)
among_is {x} (later {y} m) = go (eqb x y) (among_is m)
  where
    go : (t : Bool) {u : Bool} → u ≡ true → (t || u) ≡ true
    go true e = refl
    go false e = e

pub is_among : (x : ℕ) (xs : List ℕ) → is_one_of x xs ≡ true → Among x xs
is_among x [] e = false_true e
is_among x (y ∷ ys) e = go (is_among x ys) (eqb x y) refl e
  where
    go : (is_one_of x ys ≡ true → Among x ys) → (t : Bool) → eqb x y ≡ t → (t || is_one_of x ys) ≡ true → Among x (y ∷ ys)
    go rest true f e = subst (λ (z : ℕ). Among x (z ∷ ys)) (eqb-true x y f) here
    go rest false f e = later (rest e)

-- ---- each is a 63
among_append : {x : ℕ} (xs ys : List ℕ) → Among x (xs ++ ys) → Among x xs ⊎ Among x ys
among_append [] ys m = inr m
among_append (z ∷ xs) ys here = inl here
among_append (z ∷ xs) ys (later m) = ⊎_elim (λ p. inl (later p)) (λ q. inr q) (among_append xs ys m)

pub some : {x : ℕ} {xs : List ℕ} → Among x xs → 1 ≤ length xs
some here = omega arith
some (later m) = omega arith

one_so : {x : ℕ} (t : Bool) (at : ℕ) → Among x (if_so t at) → (t ≡ true) × (x ≡ at)
one_so true at here = (refl, refl)
one_so true at (later m) = absurd (omega (arith, some m))
one_so false at m = absurd (omega (arith, some m))

module _ (b : List ℕ) (at : ℕ) where
  left_operator : left_breaks b at ≡ true → is_operator b (left_at at) ≡ true
  unfolding left_breaks
  left_operator h = and_left (is_operator b (left_at at)) _ h

  right_operator : right_breaks b at ≡ true → is_operator b (right_at b at) ≡ true
  unfolding right_breaks
  right_operator h = and_left (is_operator b (right_at b at)) _ h

  broken_operator : {x : ℕ} → Among x (broken b at) → is_operator b x ≡ true
  unfolding broken
  broken_operator {x} m = go (is_operator b at) m
    where
      lefts : List ℕ
      lefts = if_so (left_breaks b at) (left_at at)

      rights : List ℕ
      rights = if_so (right_breaks b at) (right_at b at)

      go : (t : Bool) → Among x (cond t (lefts ++ rights) (if_so (operand_breaks b at) (operand_at at))) → is_operator b x ≡ true
      go true m =
          ⊎_elim
          (λ p. let k = one_so (left_breaks b at) (left_at at) p in ap (is_operator b) k.1 ∙ left_operator k.0)
          (λ q. let k = one_so (right_breaks b at) (right_at b at) q in ap (is_operator b) k.1 ∙ right_operator k.0)
          (among_append lefts rights m)
      go false m =
          let k = one_so (operand_breaks b at) (operand_at at) m in
          ap (is_operator b) k.1 ∙ and_right (eqb (kind_at b at) NOT || eqb (kind_at b at) NEGATE) (is_operator b (operand_at at)) k.0

mutual
  unfolding offenders

  pub tree_operators : (b : List ℕ) (t : Tree) (x : ℕ) → Among x (offenders b t) → is_operator b x ≡ true
  tree_operators b absent x m = absurd (omega (arith, some m))
  tree_operators b (node h ts) x m =
      ⊎_elim (λ p. broken_operator b h.at p) (λ q. row_operators b ts x q) (among_append (broken b h.at) (offenders_in b ts) m)

  row_operators : (b : List ℕ) (ts : Trees) (x : ℕ) → Among x (offenders_in b ts) → is_operator b x ≡ true
  row_operators b nil x m = absurd (omega (arith, some m))
  row_operators b (t ▸ ts) x m =
      ⊎_elim (λ p. tree_operators b t x p) (λ q. row_operators b ts x q) (among_append (offenders b t) (offenders_in b ts) m)

-- so it stands in the image
inside : (b : List ℕ) (x : ℕ) → is_operator b x ≡ true → x < length b
inside b x h = go (ltb (x + 4) (length b)) refl
  where
    go : (t : Bool) → ltb (x + 4) (length b) ≡ t → x < length b
    go true l = omega (arith, ltb-true (x + 4) (length b) l)
    go false l = absurd (omega (arith, eqb-true (get_or b (x + 4) 0) 63 h, get_or-eq_default b 0 (ltb-false (x + 4) (length b) l)))

pub offenders_inside : (b : List ℕ) (t : Tree) (x : ℕ) → Among x (offenders b t) → x < length b
offenders_inside b t x m = inside b x (tree_operators b t x m)

-- ---- the least
least_most : (n : ℕ) (xs : List ℕ) → least n xs ≤ n
unfolding least
least_most n [] = omega arith
least_most n (x ∷ xs) = let h = least_most (min n x) xs in omega arith

pub least_below : (n : ℕ) (xs : List ℕ) (x : ℕ) → Among x xs → least n xs ≤ x
unfolding least
least_below n [] x m = absurd (omega (arith, some m))
least_below n (y ∷ xs) x here = let h = least_most (min n x) xs in omega arith
least_below n (y ∷ xs) x (later m) = least_below (min n y) xs x m

least_one : (n : ℕ) (xs : List ℕ) → (least n xs ≡ n) ⊎ Among (least n xs) xs
unfolding least
least_one n [] = inl refl
least_one n (x ∷ xs) = go (least_one (min n x) xs) (ltb n x) refl
  where
    go : (least (min n x) xs ≡ min n x) ⊎ Among (least (min n x) xs) xs → (t : Bool) → ltb n x ≡ t
        → (least (min n x) xs ≡ n) ⊎ Among (least (min n x) xs) (x ∷ xs)
    go (inr m) t e = inr (later m)
    go (inl m) true e = inl (omega (arith, m, ltb-true n x e))
    go (inl m) false e = inr (subst (λ (z : ℕ). Among z (x ∷ xs)) (sym (omega (arith, m, ltb-false n x e))) here)

-- of some that begin with x
pub least_in : (x : ℕ) (xs : List ℕ) → Among (least x xs) (x ∷ xs)
least_in x xs = ⊎_elim (λ e. subst (λ (z : ℕ). Among z (x ∷ xs)) (sym e) here) (λ m. later m) (least_one x xs)

pub least_of : (x : ℕ) (xs : List ℕ) (y : ℕ) → Among y (x ∷ xs) → least x xs ≤ y
least_of x xs y here = least_most x xs
least_of x xs y (later m) = least_below x xs y m
