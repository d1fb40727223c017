-- A stack as the list of what is on it, the last one first, of a list that grows at its end.
-- Assumes nothing.
use mathlib.Core.Path.{◌≡◌, refl, ap, ◌∙◌}
use Prim.Native.Nat.{ℕ, ◌<◌}
use native.Mathlib.Omega.{arith}
use mathlib.Core.List.{List, [], ◌∷◌, ◌++◌, reverse}
use lib.ListN.{length}
use Rattle.std.proofs.lemmas.List.{reverse-append, length-reverse}

-- as many as the list has
pub last_first_length : {A : Type 0} (xs : List A) → length (reverse xs) ≡ length xs
last_first_length xs = length-reverse xs

-- one more on it
pub one_on : {A : Type 0} {new : List A} (old : List A) (x : A) → new ≡ old ++ x ∷ [] → reverse new ≡ x ∷ reverse old
one_on old x e = ap reverse e ∙ reverse-append old (x ∷ [])

-- none on it
pub none_on : {A : Type 0} (xs : List A) → (0 < length xs → ⊥) → reverse xs ≡ []
none_on [] h = refl
none_on (x ∷ xs) h = absurd (h (omega arith))

-- some on it
pub some_on : {A : Type 0} (xs : List A) → (reverse xs ≡ [] → ⊥) → 0 < length xs
some_on [] h = absurd (h refl)
some_on (x ∷ xs) h = omega arith
