-- One row after another, as the code goes.
-- Assumes nothing.
use mathlib.Core.Path.{◌≡◌, sym, ◌∙◌}
use Prim.Native.Nat.{ℕ, zero, suc, ◌-◌, ◌≤◌, ◌<◌}
use native.Mathlib.Omega.{arith}
use mathlib.Core.Bool.{true, false}
use mathlib.Core.List.{List}
use borrow.Author.Tests.{lt-ltb, le-ltb, le-leb, lt-leb, eq-eqb, ne_eqb}
use Rattle.rows.specs.Places.{KIND, AFTER}
use Rattle.rows.specs.View.{View, cell, view_of}
use Rattle.std.specs.Prelude.{None}
use Rattle.rows.specs.Kinds.{kind_of}
use Rattle.rows.proofs.KindOf.{no_case}
use Rattle.renderer_rules.specs.Check.{reaches, parts_fit}

-- One row after another.
reach_next : (l : ℕ) (v : View) (a b n : ℕ) → a < b → n ≡ v.after a → a < n → n ≤ b → reaches (suc l) v a b ≡ reaches l v n b
unfolding reaches
reach_next l v a b n h e k m = rw (ne_eqb a b (λ q. omega arith), ← e, lt-ltb a n k, le-leb n b m)

reach_low : (l : ℕ) (v : View) (a b n : ℕ) → a < b → n ≡ v.after a → n ≤ a → reaches (suc l) v a b ≡ false
unfolding reaches
reach_low l v a b n h e k = rw (ne_eqb a b (λ q. omega arith), ← e, le-ltb a n k)

reach_past : (l : ℕ) (v : View) (a b n : ℕ) → a < b → n ≡ v.after a → a < n → b < n → reaches (suc l) v a b ≡ false
unfolding reaches
reach_past l v a b n h e k m = rw (ne_eqb a b (λ q. omega arith), ← e, lt-ltb a n k, lt-leb n b m)

reach_here : (l : ℕ) (v : View) (a b : ℕ) → a ≡ b → reaches l v a b ≡ true
unfolding reaches
reach_here zero v a b e = eq-eqb a b e
reach_here (suc l) v a b e = rw (eq-eqb a b e)

pub record Reaching (s : List ℕ) (a b steps row : ℕ) : Type 0 where
  pub left : ℕ
  pub low : row ≤ b
  pub enough : b - row ≤ left
  pub same : reaches steps (view_of s) a b ≡ reaches left (view_of s) row b

module _ (s : List ℕ) (a b steps row : ℕ) (r : Reaching s a b steps row) where
  pub reach_end : b ≤ row → true ≡ reaches steps (view_of s) a b
  reach_end h = let l = r.low in sym (r.same ∙ reach_here r.left (view_of s) row b (omega arith))

  module _ (n : ℕ) (h : row < b) (e : n ≡ cell s row AFTER) where
    some_left : (A : Type 0) → ((l : ℕ) → reaches steps (view_of s) a b ≡ reaches (suc l) (view_of s) row b → b - row ≤ suc l → A) → A
    some_left A f = go r.left r.enough r.same
      where
        go : (l : ℕ) → b - row ≤ l → reaches steps (view_of s) a b ≡ reaches l (view_of s) row b → A
        go zero k q = absurd (omega arith)
        go (suc l) k q = f l q k

    pub reach_back : n ≤ row → false ≡ reaches steps (view_of s) a b
    unfolding view_of
    reach_back k = some_left (false ≡ reaches steps (view_of s) a b) (λ l q m. sym (q ∙ reach_low l (view_of s) row b n h e k))

    pub reach_over : row < n → b < n → false ≡ reaches steps (view_of s) a b
    unfolding view_of
    reach_over k m = some_left (false ≡ reaches steps (view_of s) a b) (λ l q z. sym (q ∙ reach_past l (view_of s) row b n h e k m))

    pub reach_on : row < n → n ≤ b → Reaching s a b steps n
    unfolding view_of
    reach_on k m =
        some_left (Reaching s a b steps n)
        (λ l q z. record { left = l; low = m; enough = omega arith; same = q ∙ reach_next l (view_of s) row b n h e k m })

-- a row that has no kind has no parts that are right
pub no_parts : (s : List ℕ) (i : ℕ) → kind_of (cell s i KIND) ≡ None → parts_fit (view_of s) i (cell s i KIND) ≡ false
unfolding parts_fit
no_parts s i e = no_case _ (cell s i KIND) e
