-- Layout goes its way whatever is rendered between: a list of calls leaves store, layout state and comments left as its layout calls alone do.
-- Assumes nothing.
use mathlib.Core.Path.{◌≡◌, ap, ap₂, subst}
use Rattle.std.specs.Prelude.{Option, None, Some}
use mathlib.Core.List.{List, [], ◌∷◌}
use Prim.Native.Nat.{ℕ, ◌*◌}
use Rattle.rows.specs.Places.{PLACES}
use Rattle.refusals.specs.Refusals.{Refusal, unless}
use Rattle.cut_rule.specs.Rules.{LayoutArgs, RenderArgs, Rules}
use Rattle.cut_rule.specs.Run.{write_at, Call, layout_call, render_call, Carried, refusal, accepted, call, run}
use Rattle.cut_rule.specs.Plain.{AllReadLaid}

module _ (R : Rules) where
  -- the layout calls of a list
  abbrev pub layouts : List (Call R) → List (Call R)
  layouts [] = []
  layouts (layout_call q ∷ cs) = layout_call q ∷ layouts cs
  layouts (render_call q ∷ cs) = layouts cs

  -- the same, as far as layout goes
  pub record SameLayout (w v : Carried R) : Type 0 where
    pub store : w.store ≡ v.store
    pub state : w.layout_state_of ≡ v.layout_state_of
    pub left : w.left ≡ v.left

  after_layout : (w v : Carried R) (q : LayoutArgs R.LayoutChoice) → SameLayout w v → SameLayout (call R w (layout_call q)) (call R v (layout_call q))
  after_layout w v q h =
      subst (λ (o : Option Refusal). SameLayout (call R w (layout_call q)) (unless o v (accepted R v (layout_call q))))
      (ap₂ (λ (s : R.LayoutState) (m : List ℕ). R.layout_refusal q s m) h.state h.store)
      (go (refusal R w (layout_call q)))
    where
      go : (o : Option Refusal) → SameLayout (unless o w (accepted R w (layout_call q))) (unless o v (accepted R v (layout_call q)))
      go (Some r) = h
      go None = record {
        store = ap₂ (λ (s : R.LayoutState) (m : List ℕ). write_at (PLACES * R.next_row s) (R.layout s q).rows m) h.state h.store;
        state = ap (λ (s : R.LayoutState). (R.layout s q).state) h.state;
        left = ap (λ (s : R.LayoutState). Some (R.layout s q).left) h.state;
      }

  after_rendering : (w v : Carried R) (q : RenderArgs R.RenderChoice) → SameLayout w v → SameLayout (call R w (render_call q)) v
  after_rendering w v q h = go (refusal R w (render_call q))
    where
      go : (o : Option Refusal) → SameLayout (unless o w (accepted R w (render_call q))) v
      go (Some r) = h
      go None = record { store = h.store; state = h.state; left = h.left }

  pub layout_only : (calls : List (Call R)) (w v : Carried R) → SameLayout w v → SameLayout (run R w calls) (run R v (layouts calls))
  layout_only [] w v h = h
  layout_only (layout_call q ∷ cs) w v h = layout_only cs (call R w (layout_call q)) (call R v (layout_call q)) (after_layout w v q h)
  layout_only (render_call q ∷ cs) w v h = layout_only cs (call R w (render_call q)) v (after_rendering w v q h)

  -- layout calls read no rows
  pub none_read : (calls : List (Call R)) (w : Carried R) → AllReadLaid R w (layouts calls)
  none_read [] w = tt
  none_read (layout_call q ∷ cs) w = ((λ a. tt), none_read cs (call R w (layout_call q)))
  none_read (render_call q ∷ cs) w = none_read cs w
