-- "From fresh to one stop, all handed on untouched, however the allotments fall, joined text, marks and end state are those of a single rendering"
-- (document 02, 12), over the rules left open in Rules.antt.
use Rattle.std.specs.Prelude.{◌≡◌, List, [], ◌∷◌, ℕ, ◌+◌, ◌≤◌}
use Rattle.cut_rule.specs.Rules.{RenderTo, RenderResult, Rules}
use Rattle.cut_rule.specs.Plain.{total}
use Rattle.cut_rule.specs.Laws.{then_rendered}

abbrev pub sum_of : List ℕ → ℕ
sum_of [] = 0
sum_of (k ∷ ks) = k + sum_of ks

module _ (R : Rules) where
  -- rendering to a stop by these allotments, one after the other, each with the state and the marks that the one before handed on
  abbrev pub by_allotments : RenderTo R.RenderChoice → List ℕ → R.RenderState → List ℕ → List ℕ → RenderResult R.RenderState
  by_allotments to [] s marks rows = record { state = s; marks = marks; text = []; entered = 0 }
  by_allotments to (k ∷ ks) s marks rows = then_rendered (R.render s to k marks rows) (λ t ms. by_allotments to ks t ms rows)

  -- of rows that are whole up to the stop: the count too, and where the allotments are enough, it is a single rendering with any that is
  pub record OneRendering (rows : List ℕ) (to : RenderTo R.RenderChoice) : Type 0 where
    pub joined : (k : ℕ) (ks : List ℕ) → by_allotments to (k ∷ ks) R.render_fresh_of [] rows ≡ R.render R.render_fresh_of to (k + sum_of ks) [] rows
    pub single : (k : ℕ) (ks : List ℕ) (n : ℕ) → total R rows to ≤ k + sum_of ks → total R rows to ≤ n
        → by_allotments to (k ∷ ks) R.render_fresh_of [] rows ≡ R.render R.render_fresh_of to n [] rows
