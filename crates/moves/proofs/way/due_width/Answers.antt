-- The shebang's end is where trimming ends, within the text.
use mathlib.Core.Path.{ap, ◌∙◌}
use Prim.Native.Nat.{ℕ}
use native.Mathlib.Omega.{arith}
use lib.ListN.{length, take}
use lib.Seq.{length-take-le}
use Rattle.text.proofs.Trims.{trim_before}
use Rattle.widths.specs.Widths.{text_width}
use Rattle.widths.specs.Editions.{rule_width}
use Rattle.widths.specs.declared.Edition.TheVariants.{Unicode160}
use Rattle.moves.specs.Moves.{due_width}
use Rattle.moves.proofs.way.due_width.Goals as goal

pub slice_bounds-text_columns-end : goal.slice_bounds-text_columns-end
slice_bounds-text_columns-end c =
    let h = trim_before c.args.text.now 0 (length c.args.text.now) in
    omega (arith, c.trim_end-end.ensures, h, length-take-le c.trim_end-end.result c.args.text.now (omega (arith, c.trim_end-end.ensures, h)))

pub returns-then-shebang : goal.returns-then-shebang
unfolding due_width
returns-then-shebang c =
    let h = trim_before c.args.text.now 0 (length c.args.text.now) in
    let n = length-take-le c.trim_end-end.result c.args.text.now (omega (arith, c.trim_end-end.ensures, h)) in (
      rw c.if-shebang.true
          (c.text_columns.ensures.0 ∙ ap (λ (k : ℕ). text_width (rule_width Unicode160) (take k c.args.text.now)) c.trim_end-end.ensures),
      omega (arith, c.text_columns.ensures.1, n, h, c.trim_end-end.ensures),
    )

pub returns : goal.returns
unfolding due_width
returns c = (rw c.if-shebang.false c.text_columns-2.ensures.0, c.text_columns-2.ensures.1)
