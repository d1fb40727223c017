-- A product of two counts doesn't wrap.
use mathlib.Core.Path.{ap₂}
use Prim.Native.Nat.{ℕ, ◌*◌, ◌-◌}
use native.Mathlib.Omega.{arith}
use Rattle.formula_images.proofs.Counted.{few_pairs}
use Rattle.formula_images.proofs.shapes.pairs.Goals as goal

pub overflow_mul-result : goal.overflow_mul-result
overflow_mul-result c =
    omega (
      arith,
      few_pairs c.args.k (c.args.size - 1 - c.args.k) (omega arith) (omega arith),
      ap₂ (λ (x y : ℕ). x * y) c.count.ensures c.count-2.ensures,
    )
