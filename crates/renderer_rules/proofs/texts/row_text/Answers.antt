use native.Mathlib.Omega.{arith}
use mathlib.Core.Path.{ap, ◌∙◌}
use Prim.Native.Nat.{ℕ}
use lib.ListN.{length, length-take}
use Rattle.renderer_rules.proofs.RowText.{part_text}
use Rattle.renderer_rules.specs.Page.{text_bytes}
use Rattle.renderer_rules.proofs.texts.row_text.Goals as goal

pub returns : goal.returns
unfolding text_bytes
returns c =
    let e =
    part_text c.origin_text-text.result.now c.place-2.result c.place-3.result c.min-start.result c.min-end.result c.min-start.ensures
    c.min-end.ensures
    in
    record {
      text = e
          ∙ rw (c.origin_text-text.ensures, c.place.ensures.0, c.place-2.ensures.0, c.place-3.ensures.0);
      small = omega (arith, length-take {A = ℕ}, c.place-3.ensures.1, ap length e);
    }
