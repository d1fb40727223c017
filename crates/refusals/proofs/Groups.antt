-- Tests and refusals in groups: what a group says of the list that it is a part of. A test or a group more touches no other group's proof.
-- Assumes nothing.
use mathlib.Core.Path.{◌≡◌, refl, sym, ap, ◌∙◌}
use mathlib.Core.Bool.{Bool, true, false, not, ◌||◌}
use Rattle.std.specs.Prelude.{Option, None, Some}
use mathlib.Core.List.{List, [], ◌∷◌, ◌++◌}
use Prim.Native.Nat.{ℕ}
use borrow.Author.Tests.{not-true, not-false}
use Rattle.laws.proofs.Booleans.{or_first, or_rest}
use Rattle.laws.proofs.Options.{never}
use Rattle.refusals.specs.Refusals.{Refusal, refuse_if, refuse_at, any, or_else, first}

-- ---- tests
pub any_append : (xs ys : List Bool) → any (xs ++ ys) ≡ (any xs || any ys)
any_append [] ys = refl
any_append (true ∷ xs) ys = refl
any_append (false ∷ xs) ys = any_append xs ys

-- none of a list holds, so none of a part holds
pub none_left : (xs ys : List Bool) → any (xs ++ ys) ≡ false → any xs ≡ false
none_left xs ys e = or_first (any xs) (any ys) (sym (any_append xs ys) ∙ e)

pub none_right : (xs ys : List Bool) → any (xs ++ ys) ≡ false → any ys ≡ false
none_right xs ys e = or_rest (any xs) (any ys) (sym (any_append xs ys) ∙ e)

-- and of two parts none, so none of both
pub none_both : (xs ys : List Bool) → any xs ≡ false → any ys ≡ false → any (xs ++ ys) ≡ false
none_both xs ys e f = any_append xs ys ∙ ap (λ (t : Bool). t || any ys) e ∙ f

-- Code asks group after group: x says that none of the first holds, and y that none of the rest does.
pub group_refuses : (x : Bool) (xs ys : List Bool) → x ≡ not (any xs) → not x ≡ true → false ≡ not (any (xs ++ ys))
group_refuses x xs ys e h =
    sym (ap not (any_append xs ys ∙ ap (λ (t : Bool). t || any ys) (not-false (any xs) (sym e ∙ not-true x h))))

pub group_passes : (x y : Bool) (xs ys : List Bool) → x ≡ not (any xs) → not x ≡ false → y ≡ not (any ys) → y ≡ not (any (xs ++ ys))
group_passes x y xs ys e h f =
    f ∙ sym (ap not (any_append xs ys ∙ ap (λ (t : Bool). t || any ys) (not-true (any xs) (sym e ∙ not-false x h))))

-- ---- lines of a table
pub first_append : (os ps : List (Option Refusal)) → first (os ++ ps) ≡ or_else (first os) (first ps)
first_append [] ps = refl
first_append (Some r ∷ os) ps = refl
first_append (None ∷ os) ps = first_append os ps

-- a part that refuses, refuses
pub refuses_left : (r : Refusal) (os ps : List (Option Refusal)) → first os ≡ Some r → first (os ++ ps) ≡ Some r
refuses_left r os ps e = first_append os ps ∙ ap (λ (o : Option Refusal). or_else o (first ps)) e

-- one that doesn't, leaves it to the rest
pub left_to : (os ps : List (Option Refusal)) → first os ≡ None → first (os ++ ps) ≡ first ps
left_to os ps e = first_append os ps ∙ ap (λ (o : Option Refusal). or_else o (first ps)) e

-- no line refuses, so none of a part does
or_none_first : (o p : Option Refusal) → or_else o p ≡ None → o ≡ None
or_none_first None p e = refl
or_none_first (Some r) p e = absurd (never r e)

or_none_rest : (o p : Option Refusal) → or_else o p ≡ None → p ≡ None
or_none_rest None p e = e
or_none_rest (Some r) p e = absurd (never r e)

pub passes_left : (os ps : List (Option Refusal)) → first (os ++ ps) ≡ None → first os ≡ None
passes_left os ps e = or_none_first (first os) (first ps) (sym (first_append os ps) ∙ e)

pub passes_right : (os ps : List (Option Refusal)) → first (os ++ ps) ≡ None → first ps ≡ None
passes_right os ps e = or_none_rest (first os) (first ps) (sym (first_append os ps) ∙ e)

-- the first line, and the others
pub passes_line : (o : Option Refusal) (os : List (Option Refusal)) → first (o ∷ os) ≡ None → o ≡ None
passes_line o os e = or_none_first o (first os) e

pub passes_others : (o : Option Refusal) (os : List (Option Refusal)) → first (o ∷ os) ≡ None → first os ≡ None
passes_others o os e = or_none_rest o (first os) e

-- what a line that does not refuse tells
pub not_if : (b : Bool) (n p : ℕ) → refuse_if b n p ≡ None → b ≡ false
not_if false n p e = refl
not_if true n p e = absurd (never _ e)

pub not_at : (o : Option ℕ) (n : ℕ) → refuse_at o n ≡ None → o ≡ None
not_at None n e = refl
not_at (Some p) n e = absurd (never _ e)
