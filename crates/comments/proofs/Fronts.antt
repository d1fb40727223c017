-- The comment at the front: what the image holds there, and what an accepted list says of it.
-- Assumes nothing.
use mathlib.Core.Path.{◌≡◌, refl, ap, ◌∙◌}
use mathlib.Core.Bool.{true}
use mathlib.Core.List.{List}
use Rattle.std.specs.Prelude.{Option, None, Some}
use Prim.Native.Nat.{ℕ, zero, suc, ◌+◌, ◌*◌, ◌≤◌, ◌<◌}
use native.Mathlib.Omega.{arith}
use native.Mathlib.Nat.{not-suc-le-zero}
use lib.ListN.{length}
use Rattle.text.specs.Newlines.{is_range}
use Rattle.image.specs.Bytes.{be16}
use Rattle.ast.specs.Syntax.{Span}
use Rattle.comments.specs.Comments.{nth}
use Rattle.tree.specs.CommentList.{span, pair_at, pairs_at, comments_of}
use Rattle.comments.specs.Listed.{Listed, pending_of}
use Rattle.comments.specs.declared.Waiting.{Waiting}

nth_in : (b : List ℕ) (n at k : ℕ) → k < n → nth (pairs_at b n at) k ≡ Some (pair_at b (at + 8 * k))
unfolding nth pairs_at
nth_in b zero at k h = absurd (not-suc-le-zero h)
nth_in b (suc n) at zero h = ap (λ (i : ℕ). Some (pair_at b i)) (omega arith)
nth_in b (suc n) at (suc k) h = nth_in b n (at + 8) k (omega arith) ∙ ap (λ (i : ℕ). Some (pair_at b i)) (omega arith)

nth_out : (b : List ℕ) (n at k : ℕ) → n ≤ k → nth (pairs_at b n at) k ≡ None
unfolding nth pairs_at
nth_out b zero at k h = refl
nth_out b (suc n) at zero h = absurd (not-suc-le-zero h)
nth_out b (suc n) at (suc k) h = nth_out b n (at + 8) k (omega arith)

length_pairs : (b : List ℕ) (n at : ℕ) → length (pairs_at b n at) ≡ n
unfolding pairs_at
length_pairs b zero at = refl
length_pairs b (suc n) at = ap suc (length_pairs b n (at + 8))

pub count_of : (b : List ℕ) → length (comments_of b) ≡ be16 b 5
unfolding comments_of
count_of b = length_pairs b (be16 b 5) 7

-- the comment with the number k, and none past the last
pub at_front : (b : List ℕ) (k : ℕ) → k < be16 b 5 → nth (comments_of b) k ≡ Some (pair_at b (7 + 8 * k))
unfolding comments_of
at_front b k h = nth_in b (be16 b 5) 7 k h

pub none_left : (b : List ℕ) (k : ℕ) → be16 b 5 ≤ k → nth (comments_of b) k ≡ None
unfolding comments_of
none_left b k h = nth_out b (be16 b 5) 7 k h

pub inside : (b : List ℕ) (k : ℕ) (p : Span) → nth (comments_of b) k ≡ Some p → k < be16 b 5
unfolding comments_of nth pairs_at
inside b k p e = go (be16 b 5) 7 k e
  where
    go : (n at k : ℕ) → nth (pairs_at b n at) k ≡ Some p → k < n
    go zero at k e = let z : ◌≡◌ {A = ℕ} 0 1 = cc in absurd (omega arith)
    go (suc n) at zero e = omega arith
    go (suc n) at (suc k) e = omega (arith, go n (at + 8) k e)

-- a comment of an accepted list
pub record Good (s : List ℕ) (p : Span) : Type 0 where
  pub order : p.start < p.end
  pub range : is_range s p.start p.end ≡ true

pub good : {s b : List ℕ} → Listed s b → (k : ℕ) (p : Span) → nth (comments_of b) k ≡ Some p → Good s p
good {s} {b} l k p e =
    let h = inside b k p e in
    let same : pair_at b (7 + 8 * k) ≡ p = cc (at_front b k h) in
    let here : Good s (pair_at b (7 + 8 * k)) = record { order = l.order k h; range = l.range k h } in
    rw same at here

-- what `front` answered is what waits there
pub is_none : {r : Option Waiting} (o : Option Span) → r ≡ pending_of o → r ≡ None → o ≡ None
is_none None e f = refl
is_none (Some p) e f = cc

pub is_some_lem : {r : Option Waiting} {w : Waiting} (o : Option Span) → r ≡ pending_of o → r ≡ Some w → o ≡ Some (span w.start w.end)
is_some_lem None e f = cc
is_some_lem {r} {w} (Some p) e f =
    let same : record { start = p.start; end = p.end } ≡ w = cc in
    rw (← same) refl
