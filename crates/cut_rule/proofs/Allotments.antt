-- However the allotments fall: by induction on them, each going on where the one before stopped.
-- Assumes nothing but the laws.
use mathlib.Core.Path.{◌≡◌, sym, ap, ◌∙◌}
use mathlib.Core.List.{List, [], ◌∷◌, append-nil, append_assoc}
use Prim.Native.Nat.{ℕ, ◌+◌, ◌-◌, ◌≤◌, min, max}
use native.Mathlib.Nat.{add-zero}
use native.Mathlib.Omega.{arith}
use Rattle.cut_rule.specs.Rules.{RenderTo, RenderResult, Rules}
use Rattle.cut_rule.specs.Plain.{total}
use Rattle.cut_rule.specs.Laws.{then_rendered, to_stop, RenderLaws}
use Rattle.cut_rule.specs.Allotments.{sum_of, by_allotments, OneRendering}

module _ (R : Rules) where
  then_nothing : (one : RenderResult R.RenderState) → then_rendered one (λ s ms. record { state = s; marks = ms; text = []; entered = 0 }) ≡ one
  then_nothing one = λ t. record { state = one.state; marks = one.marks; text = append-nil one.text t; entered = add-zero one.entered t }

  then_twice : (one : RenderResult R.RenderState) (f g : R.RenderState → List ℕ → RenderResult R.RenderState)
      → then_rendered (then_rendered one f) g ≡ then_rendered one (λ s ms. then_rendered (f s ms) g)
  then_twice one f g =
      let two = f one.state one.marks in
      let three = g two.state two.marks in
      let e : one.entered + two.entered + three.entered ≡ one.entered + (two.entered + three.entered) = omega arith in
      λ t. record { state = three.state; marks = three.marks; text = append_assoc one.text two.text three.text t; entered = e t }

module _ (R : Rules) (D : RenderLaws R) (rows : List ℕ) (to : RenderTo R.RenderChoice) (w : D.WholeRows to.choice rows to.stop) where
  abbrev one_go : ℕ → RenderResult R.RenderState
  one_go n = R.render R.render_fresh_of to n [] rows

  abbrev all : ℕ
  all = total R rows to

  goes_on : (n k : ℕ) → n ≤ all → one_go (n + min k (all - n)) ≡ then_rendered (one_go n) (λ s ms. R.render s to k ms rows)
  goes_on n k h =
      let e : to.stop ≡ max to.stop to.stop = omega arith in
      ap (λ (j : ℕ). R.render R.render_fresh_of (to_stop j to.choice) (n + min k (all - n)) [] rows) e
      ∙ D.goes_on to n to.stop k rows w w h (D.due_next to n rows w)

  -- after n rows, by these allotments
  then_by : (ks : List ℕ) (n : ℕ) → n ≤ all
      → then_rendered (one_go n) (λ s ms. by_allotments R to ks s ms rows) ≡ one_go (min (n + sum_of ks) all)
  then_by [] n h =
      let e : n ≡ min (n + 0) all = omega arith in
      then_nothing R (one_go n) ∙ ap one_go e
  then_by (k ∷ ks) n h =
      let m = n + min k (all - n) in
      let e : min (m + sum_of ks) all ≡ min (n + (k + sum_of ks)) all = omega arith in
      sym (then_twice R (one_go n) (λ s ms. R.render s to k ms rows) (λ s ms. by_allotments R to ks s ms rows))
      ∙ ap (λ (y : RenderResult R.RenderState). then_rendered y (λ s ms. by_allotments R to ks s ms rows)) (sym (goes_on n k h))
      ∙ then_by ks m (omega arith)
      ∙ ap one_go e

  by_all : (k : ℕ) (ks : List ℕ) → by_allotments R to (k ∷ ks) R.render_fresh_of [] rows ≡ one_go (min (k + sum_of ks) all)
  by_all k ks =
      let e : min (min k all + sum_of ks) all ≡ min (k + sum_of ks) all = omega arith in
      ap (λ (y : RenderResult R.RenderState). then_rendered y (λ s ms. by_allotments R to ks s ms rows)) (D.runs_out to k rows w)
      ∙ then_by ks (min k all) (omega arith)
      ∙ ap one_go e

  pub one_rendering : OneRendering R rows to
  one_rendering = record {
    joined = λ k ks. by_all k ks ∙ sym (D.runs_out to (k + sum_of ks) rows w);
    single =
        λ k ks n h g.
        let e : min (k + sum_of ks) all ≡ min n all = omega arith in
        by_all k ks ∙ ap one_go e ∙ sym (D.runs_out to n rows w);
  }
