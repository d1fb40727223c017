use mathlib.Core.Path.{ap, ◌∙◌}
use mathlib.Core.List.{List}
use Prim.Native.Nat.{ℕ, ◌*◌}
use native.Mathlib.Omega.{arith}
use Rattle.std.proofs.lemmas.List.Edits.{sets}
use Rattle.rows.proofs.Part.{part_sets}
use Rattle.acts.proofs.store.write_row.Goals as goal

pub returns-then-i-store : goal.returns-then-i-store
returns-then-i-store c =
    let same = c.copy_from_slice.ensures.after ∙ c.cells-cells.ensures in
    part_sets _ c.args.store.now (9 * c.args.row) _ (omega (arith, c.copy_from_slice.ensures.len)) (omega (arith, c.if-i-store.true))
    ∙ ap (λ (vs : List ℕ). sets c.args.store.now (9 * c.args.row) vs) same
