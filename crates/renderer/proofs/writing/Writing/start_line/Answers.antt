use mathlib.Core.Path.{ap, ◌∙◌}
use Prim.Native.Nat.{ℕ}
use Rattle.renderer.specs.Writing.{moved_to}
use Rattle.renderer.proofs.Writes.{margin_writes}
use Rattle.renderer.proofs.writing.Writing.start_line.Goals as goal

pub returns : goal.returns
returns c =
    margin_writes _ _ _ _ _ c.margin_bytes-margin.result.0 c.margin_columns.result.0
    c.margin_bytes-margin.ensures c.margin_columns.ensures
    (c.move_to.ensures ∙ ap (λ (n : ℕ). moved_to c.margin_columns.result.0 n c.args.self.now) c.add.ensures) c.spaces.ensures
