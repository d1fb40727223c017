-- The formula at a place.
-- Assumes nothing.
use mathlib.Core.Path.{◌≡◌, refl, sym, ap, ◌∙◌}
use mathlib.Core.Bool.{Bool, true, false}
use mathlib.Core.List.{List, [], ◌∷◌, ◌++◌, map}
use Prim.Native.Nat.{ℕ, zero, suc, ◌+◌, ◌*◌, ◌<◌}
use native.Mathlib.Omega.{arith}
use native.Mathlib.Nat.{suc-mul, zero-mul}
use lib.Dec.{ltb}
use lib.ListN.{length, get_or-append}
use lib.Seq.{get_or-append-add}
use borrow.Author.Tests.{ltb-true, ltb-false}
use Rattle.formulas.specs.Formulas.{Formula, path, binary, less, same, order, products, formulas}
use Rattle.formulas.specs.Once.{Among, Ahead, Ascends, ExactlyOnce}
use Rattle.formulas.specs.Once as once
use Rattle.formulas.specs.Places.{at, formula_at, Exchanged, ProductAt}
use Rattle.formulas.proofs.Once.{exactly_once}

placed : {f : Formula} (fs : List Formula) → Among f fs → (p : ℕ) × (p < length fs) × (at fs p ≡ f)
placed (g ∷ fs) once.here = (0, omega arith, refl)
placed (g ∷ fs) (once.later m) = let k = placed fs m in (suc k.0, omega (arith, k.1), k.2)
placed {f = f} [] x₁ = elim x₁ [ ]

among : (fs : List Formula) (p : ℕ) → p < length fs → Among (at fs p) fs
among [] p h = absurd (omega arith)
among (g ∷ fs) zero h = once.here
among (g ∷ fs) (suc p) h = once.later (among fs p (omega arith))

ahead_at : {f : Formula} (fs : List Formula) → Ahead f fs → (p : ℕ) → p < length fs → order f (at fs p) ≡ less
ahead_at [] x p h = absurd (omega arith)
ahead_at (g ∷ fs) (once.more b r) zero h = b
ahead_at (g ∷ fs) (once.more b r) (suc p) h = ahead_at fs r p (omega arith)

pub in_order : (fs : List Formula) → Ascends fs → (p q : ℕ) → p < q → q < length fs → order (at fs p) (at fs q) ≡ less
in_order [] x p q l h = absurd (omega arith)
in_order (f ∷ fs) (once.more b r) p zero l h = absurd (omega arith)
in_order (f ∷ fs) (once.more b r) zero (suc q) l h = ahead_at fs b q (omega arith)
in_order (f ∷ fs) (once.more b r) (suc p) (suc q) l h = in_order fs r p q (omega arith) (omega arith)

never : (f g : Formula) → ((f : Formula) → order f f ≡ same) → f ≡ g → order f g ≡ less → ⊥
never f g s e l = let z : same ≡ less = sym (s f) ∙ ap (order f) e ∙ l in let y : ◌≡◌ {A = ℕ} 0 1 = cc in omega arith

pub exchanged : (n : ℕ) → Exchanged n
exchanged n =
    let e = exactly_once n in
    record {
      sized = λ p h. e.sized _ (among (formulas n) p h);
      found = λ f s. placed (formulas n) (e.all f s);
      once = λ p q h k s. go e p q h k s (ltb p q) refl (ltb q p) refl;
    }
  where
    go : ExactlyOnce n → (p q : ℕ) → p < length (formulas n) → q < length (formulas n) → formula_at n p ≡ formula_at n q
        → (x : Bool) → ltb p q ≡ x → (y : Bool) → ltb q p ≡ y → p ≡ q
    go e p q h k s true l y m = absurd (never _ _ e.itself s (in_order (formulas n) e.ascending p q (ltb-true p q l) k))
    go e p q h k s false l true m = absurd (never _ _ e.itself (sym s) (in_order (formulas n) e.ascending q p (ltb-true q p m) h))
    go e p q h k s false l false m = omega (arith, ltb-false p q l, ltb-false q p m)

-- ---- places taken apart
pub map_at : (g : Formula → Formula) (xs : List Formula) (p : ℕ) → p < length xs → at (map g xs) p ≡ g (at xs p)
map_at g [] p h = absurd (omega arith)
map_at g (x ∷ xs) zero h = refl
map_at g (x ∷ xs) (suc p) h = map_at g xs p (omega arith)

pub map_length : (g : Formula → Formula) (xs : List Formula) → length (map g xs) ≡ length xs
map_length g [] = refl
map_length g (x ∷ xs) = ap suc (map_length g xs)

pub product_at : ProductAt
unfolding products
product_at o [] rs i j h k = absurd (omega arith)
product_at o (l ∷ ls) rs zero j h k =
    let e : 0 * length rs + j ≡ j = omega (arith, zero-mul (length rs)) in
    ap (at (map (binary o l) rs ++ products o ls rs)) e
    ∙ get_or-append (map (binary o l) rs) (products o ls rs) path j (rw (map_length (binary o l) rs) k)
    ∙ map_at (binary o l) rs j k
product_at o (l ∷ ls) rs (suc i) j h k =
    let n = map_length (binary o l) rs in
    let e : suc i * length rs + j ≡ length (map (binary o l) rs) + (i * length rs + j) = omega (arith, n, suc-mul i (length rs)) in
    ap (at (map (binary o l) rs ++ products o ls rs)) e
    ∙ get_or-append-add (map (binary o l) rs) (products o ls rs) (i * length rs + j) path
    ∙ product_at o ls rs i j (omega arith) k
