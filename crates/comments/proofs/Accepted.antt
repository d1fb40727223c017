-- The comment list of an accepted image is good: what `Listed` says is what the reader tested.
-- Assumes nothing.
use mathlib.Core.List.{List}
use Prim.Native.Nat.{ℕ}
use Rattle.image.specs.Read.{Accepts}
use Rattle.image.specs.declared.Document.{Document}
use Rattle.image.proofs.Accepted.{accepted}
use Rattle.comments.specs.Listed.{Listed}

pub accepted_listed : (s b : List ℕ) (d : Document) → Accepts s b d → Listed s b
accepted_listed s b d h =
    let r = (accepted s b d h).root in
    record {
      few = r.list.few;
      within = r.list.within;
      order = λ k h. (r.list.list.each k h).order;
      range = λ k h. (r.list.list.each k h).range;
    }
