-- Rows in which each `Ascii` is a `Str` nest as before.
-- Assumes nothing.
use mathlib.Core.Path.{◌≡◌, refl, sym, ap, subst, subst₂, ◌∙◌}
use Prim.Native.Nat.{ℕ, suc, ◌≤◌, ◌<◌}
use native.Mathlib.Omega.{arith}
use mathlib.Core.Bool.{Bool, true, false}
use lib.Dec.{eqb}
use borrow.Author.Tests.{eqb-true, eqb-false}
use Rattle.rows.specs.Kinds.{ASCII, WRAP_PARENT, LINE_OR_SPACE}
use Rattle.rows.specs.Node.{Text}
use Rattle.rows.specs.View.{View}
use Rattle.rows.specs.Nesting.{RangeIn, Nests, over, leaf, block, two, pair}
use Rattle.node_widths.specs.Measured.{TurnedAt}

module _ (f : Text → ℕ) (v v2 : View) (lo hi : ℕ) (t : (i : ℕ) → lo ≤ i → i < hi → TurnedAt f v v2 i) where
  kind_low : (i : ℕ) → TurnedAt f v v2 i → WRAP_PARENT ≤ v.kind i → WRAP_PARENT ≤ v2.kind i
  kind_low i u h = go (eqb (v.kind i) ASCII) refl
    where
      go : (x : Bool) → eqb (v.kind i) ASCII ≡ x → WRAP_PARENT ≤ v2.kind i
      go true e = omega (arith, u.ascii_kind (eqb-true (v.kind i) ASCII e))
      go false e = omega (arith, u.kind (eqb-false (v.kind i) ASCII e))

  kind_high : (i : ℕ) → TurnedAt f v v2 i → v.kind i ≤ LINE_OR_SPACE → v2.kind i ≤ LINE_OR_SPACE
  kind_high i u h = go (eqb (v.kind i) ASCII) refl
    where
      go : (x : Bool) → eqb (v.kind i) ASCII ≡ x → v2.kind i ≤ LINE_OR_SPACE
      go true e = omega (arith, u.ascii_kind (eqb-true (v.kind i) ASCII e))
      go false e = omega (arith, u.kind (eqb-false (v.kind i) ASCII e))

  range_in : (i j : ℕ) → TurnedAt f v v2 i → RangeIn v i j → RangeIn v2 i j
  range_in i j u w = record { up = omega (arith, u.after, w.up); to = omega (arith, u.after, w.to) }

  pub turned_nests : {i j d : ℕ} → Nests v i j d → lo ≤ i → j ≤ hi → Nests v2 i j d
  turned_nests (over e) l h = over e
  turned_nests {i} {j} {d} (leaf a b e m q r) l h =
      let u = t i l (omega arith) in
      leaf {i = i} (kind_low i u a) (kind_high i u b) (u.after ∙ e) m q (turned_nests r (omega arith) h)
  turned_nests {i} {j} {d} (block k w q r n) l h =
      let up = w.up in
      let to = w.to in
      let u = t i l (omega arith) in
      block {i = i} (omega (arith, u.kind (λ z. omega arith))) (range_in i j u w) q
      (subst (λ (x : ℕ). Nests v2 (suc i) x (suc d)) (sym u.after) (turned_nests r (omega arith) (omega arith)))
      (subst (λ (x : ℕ). Nests v2 x j d) (sym u.after) (turned_nests n (omega arith) h))
  turned_nests {i} {j} {d} (two k w p q r n o) l h =
      let up = w.up in
      let to = w.to in
      let pu = p.up in
      let pt = p.to in
      let u = t i l (omega arith) in
      let u1 = t (suc i) (omega arith) (omega arith) in
      let u2 = t (v.second i) (omega arith) (omega arith) in
      two {i = i} (u.kind (λ z. omega arith) ∙ k) (range_in i j u w)
      (record {
        first = u1.after ∙ p.first ∙ sym u.second;
        second = ap (λ (x : ℕ). v2.after x) u.second ∙ u2.after ∙ p.second ∙ sym u.after;
        up = omega (arith, u.second, p.up);
        to = omega (arith, u.second, u.after, p.to);
      })
      q
      (subst (λ (x : ℕ). Nests v2 (suc i) x (suc d)) (sym u.second) (turned_nests r (omega arith) (omega arith)))
      (subst₂ (λ (x y : ℕ). Nests v2 x y (suc d)) (sym u.second) (sym u.after) (turned_nests n (omega arith) (omega arith)))
      (subst (λ (x : ℕ). Nests v2 x j d) (sym u.after) (turned_nests o (omega arith) h))
  turned_nests {i} {j} {d} (pair k w p q r n o) l h =
      let up = w.up in
      let to = w.to in
      let pu = p.up in
      let pt = p.to in
      let u = t i l (omega arith) in
      pair {i = i} (u.kind (λ z. omega arith) ∙ k) (range_in i j u w)
      (record { up = omega (arith, u.second, p.up); to = omega (arith, u.second, u.after, p.to) })
      q
      (subst (λ (x : ℕ). Nests v2 (suc i) x (suc d)) (sym u.second) (turned_nests r (omega arith) (omega arith)))
      (subst₂ (λ (x y : ℕ). Nests v2 x y (suc d)) (sym u.second) (sym u.after) (turned_nests n (omega arith) (omega arith)))
      (subst (λ (x : ℕ). Nests v2 x j d) (sym u.after) (turned_nests o (omega arith) h))
