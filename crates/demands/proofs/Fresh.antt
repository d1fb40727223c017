-- A fresh state lists no row, whatever the list that is lent with it holds.
-- Assumes nothing.
use mathlib.Core.Path.{◌≡◌, refl, ap}
use mathlib.Core.List.{List}
use Prim.Native.Nat.{ℕ}
use Rattle.renderer_rules.specs.Stops.{OpenRow}
use Rattle.cut_rule.specs.States as states
use Rattle.render_call.specs.Calls as render
use Rattle.render_call.proofs.Opening.{listed_none}
use Rattle.demands.specs.Fresh.{fresh_render}

pub fresh_state : (listed : List ℕ) → render.to_state fresh_render listed ≡ states.render_fresh
fresh_state listed =
    ap (λ (l : List OpenRow). record {
      pen = record { indent = 0; next_indent = 0; column = record { 0 = 0 } };
      in_use = 0;
      row = 0;
      width = 0;
      rule = 0;
      listed = l;
    })
    (listed_none listed 0 refl)
