-- The least of the operands that break a rule: the first of a record is the least of it, and what is ahead has none before it.
-- Assumes nothing.
use mathlib.Core.Path.{◌≡◌, refl, ap, ◌∙◌}
use mathlib.Core.Bool.{Bool, true, false, cond}
use mathlib.Core.List.{List, ◌++◌, append_assoc}
use Prim.Native.Nat.{ℕ, ◌≤◌, min}
use native.Mathlib.Omega.{arith}
use Rattle.std.specs.Prelude.{Option, None, Some}
use Rattle.image.specs.Read.{head_at, stop_at, Tree, Trees, absent, node, nil, ◌▸◌}
use Rattle.image.specs.Standing.{Stands, Row}
use Rattle.image.proofs.Standing.{tree_ends, first_behind}
use Rattle.readback.specs.Operands.{left_at, right_at, operand_at, is_operator, left_breaks, right_breaks, operand_breaks, if_so, broken, first_of}
use Rattle.readback.specs.Verdict.{offenders, offenders_in, least}

-- ---- of one record
-- what is the least once its first operand that breaks a rule is known
abbrev pub with_first : ℕ → Option ℕ → ℕ
with_first best None = best
with_first best (Some x) = min best x

-- of two in order the first is the least
of_two : (l r : Bool) (x y best : ℕ) (xs : List ℕ) → x ≤ y
    → least best ((if_so l x ++ if_so r y) ++ xs) ≡ least (with_first best (first_of (if_so l x ++ if_so r y))) xs
unfolding least
of_two true true x y best xs h =
    let e : min (min best x) y ≡ min best x = omega arith in
    ap (λ (n : ℕ). least n xs) e
of_two true false x y best xs h = refl
of_two false true x y best xs h = refl
of_two false false x y best xs h = refl

of_one : (o : Bool) (x best : ℕ) (xs : List ℕ) → least best (if_so o x ++ xs) ≡ least (with_first best (first_of (if_so o x))) xs
unfolding least
of_one true x best xs = refl
of_one false x best xs = refl

pub least_first : (b : List ℕ) (at best : ℕ) (xs : List ℕ) → least best (broken b at ++ xs) ≡ least (with_first best (first_of (broken b at))) xs
unfolding broken
least_first b at best xs = go (is_operator b at)
  where
    both : List ℕ
    both = if_so (left_breaks b at) (left_at at) ++ if_so (right_breaks b at) (right_at b at)

    alone : List ℕ
    alone = if_so (operand_breaks b at) (operand_at at)

    go : (t : Bool) → least best (cond t both alone ++ xs) ≡ least (with_first best (first_of (cond t both alone))) xs
    go true = of_two (left_breaks b at) (right_breaks b at) (left_at at) (right_at b at) best xs (omega arith)
    go false = of_one (operand_breaks b at) (operand_at at) best xs

-- ---- of what is ahead
past_one : (o : Bool) (x n : ℕ) (xs : List ℕ) → n ≤ x → least n (if_so o x ++ xs) ≡ least n xs
unfolding least
past_one true x n xs h =
    let e : min n x ≡ n = omega arith in
    ap (λ (m : ℕ). least m xs) e
past_one false x n xs h = refl

past_record : (b : List ℕ) (at n : ℕ) (xs : List ℕ) → n ≤ at → least n (broken b at ++ xs) ≡ least n xs
unfolding broken
past_record b at n xs h = go (is_operator b at)
  where
    lefts : List ℕ
    lefts = if_so (left_breaks b at) (left_at at)

    rights : List ℕ
    rights = if_so (right_breaks b at) (right_at b at)

    go : (t : Bool) → least n (cond t (lefts ++ rights) (if_so (operand_breaks b at) (operand_at at)) ++ xs) ≡ least n xs
    go true =
        ap (least n) (append_assoc lefts rights xs)
        ∙ past_one (left_breaks b at) (left_at at) n (rights ++ xs) (omega arith)
        ∙ past_one (right_breaks b at) (right_at b at) n xs (omega arith)
    go false = past_one (operand_breaks b at) (operand_at at) n xs (omega arith)

mutual
  unfolding Row Stands offenders

  pub past_tree : (b : List ℕ) (v : ℕ) (t : Tree) (at end n : ℕ) (xs : List ℕ) → Stands b v t at end → n ≤ at
      → least n (offenders b t ++ xs) ≡ least n xs
  past_tree b v absent at end n xs s h = refl
  past_tree b v (node k ts) at end n xs s h =
      let same : k.at ≡ at = ap (λ (x : Rattle.image.specs.Read.Head). x.at) s.0.is in
      let f = first_behind b v at s.0.whole in
      ap (least n) (append_assoc (broken b k.at) (offenders_in b ts) xs)
      ∙ past_record b k.at n (offenders_in b ts ++ xs) (omega (arith, same))
      ∙ past_row b v ts (head_at b at).first (stop_at b at) n xs s.1 (omega (arith, f))

  pub past_row : (b : List ℕ) (v : ℕ) (ts : Trees) (at stop n : ℕ) (xs : List ℕ) → Row b v ts at stop → n ≤ at
      → least n (offenders_in b ts ++ xs) ≡ least n xs
  past_row b v nil at stop n xs s h = refl
  past_row b v (t ▸ ts) at stop n xs s h =
      let e = tree_ends b v t at (stop_at b at) s.0 in
      ap (least n) (append_assoc (offenders b t) (offenders_in b ts) xs)
      ∙ past_tree b v t at (stop_at b at) n (offenders_in b ts ++ xs) s.0 h
      ∙ past_row b v ts (stop_at b at) stop n xs s.1 (omega (arith, e.after))
