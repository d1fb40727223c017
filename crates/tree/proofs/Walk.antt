-- Declarations walked one after the other: those from a carried index on stand where the records before them end.
-- Assumes nothing.
use Prim.Native.Nat.{ℕ, zero, suc, ◌+◌, ◌≤◌}
use mathlib.Core.Path.{◌≡◌, refl, sym, ap, subst, ◌∙◌}
use mathlib.Core.List.{List, [], ◌∷◌}
use native.Mathlib.Omega.{arith}
use native.Mathlib.Nat.{zero-add, suc-add}
use lib.ListN.{take, drop}
use Rattle.image.specs.Read.{stop_at}
use Rattle.ast.specs.Syntax.{Declaration}
use Rattle.tree.specs.At.{DeclarationsAt}
use Rattle.tree.specs.Walk.{walked}

module _ (s b : List ℕ) where
  pub declarations_from_lem : (ds : List Declaration) (k at end : ℕ) → DeclarationsAt s b ds at end → DeclarationsAt s b (drop k ds) (walked b ds k at) end
  unfolding DeclarationsAt walked
  declarations_from_lem ds zero at end h = h
  declarations_from_lem [] (suc k) at end h = h
  declarations_from_lem (d ∷ ds) (suc k) at end h = declarations_from_lem ds k (stop_at b at) end h.2

  pub declarations_order : (ds : List Declaration) (at end : ℕ) → DeclarationsAt s b ds at end → at ≤ end
  unfolding DeclarationsAt
  declarations_order [] at end h = omega (arith, h.same)
  declarations_order (d ∷ ds) at end h = omega (arith, h.1.least, declarations_order ds (stop_at b at) end h.2)

  pub walked_within : (ds : List Declaration) (k at end : ℕ) → DeclarationsAt s b ds at end → walked b ds k at ≤ end
  walked_within ds k at end h = declarations_order (drop k ds) (walked b ds k at) end (declarations_from_lem ds k at end h)

  -- the first k of them
  first_declarations : (ds : List Declaration) (k at end : ℕ) → DeclarationsAt s b ds at end → DeclarationsAt s b (take k ds) at (walked b ds k at)
  unfolding DeclarationsAt walked
  first_declarations ds zero at end h = record { same = refl }
  first_declarations [] (suc k) at end h = record { same = refl }
  first_declarations (d ∷ ds) (suc k) at end h =
      let r = first_declarations ds k (stop_at b at) end h.2 in
      (h.0, record { least = declarations_order (take k ds) (stop_at b at) (walked b ds k (stop_at b at)) r }, r)

  none_walked : (k at : ℕ) → walked b [] k at ≡ at
  unfolding walked
  none_walked zero at = refl
  none_walked (suc k) at = refl

  pub walked_on : (ds : List Declaration) (n k at : ℕ) → walked b (drop n ds) k (walked b ds n at) ≡ walked b ds (n + k) at
  unfolding walked
  walked_on ds zero k at = ap (λ (m : ℕ). walked b ds m at) (sym (zero-add k))
  walked_on [] (suc n) k at = none_walked k at ∙ sym (none_walked (suc n + k) at)
  walked_on (d ∷ ds) (suc n) k at = walked_on ds n k (stop_at b at) ∙ ap (λ (m : ℕ). walked b (d ∷ ds) m at) (sym (suc-add n k))

  -- k of them, from declaration n on
  pub declarations_between : (ds : List Declaration) (n k at end : ℕ) → DeclarationsAt s b ds at end
      → DeclarationsAt s b (take k (drop n ds)) (walked b ds n at) (walked b ds (n + k) at)
  declarations_between ds n k at end h =
      subst (λ (m : ℕ). DeclarationsAt s b (take k (drop n ds)) (walked b ds n at) m) (walked_on ds n k at)
      (first_declarations (drop n ds) k (walked b ds n at) end (declarations_from_lem ds n at end h))
