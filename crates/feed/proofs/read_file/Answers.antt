-- The lengths, the source and the image: each came whole, or the file is cut.
-- Assumes nothing.
use mathlib.Core.Path.{sym, ◌∙◌}
use native.Mathlib.Omega.{arith}
use Rattle.feed.proofs.Arrivals.{whole_after, cut_after, reads_cut, cut_passed}
use Rattle.feed.proofs.read_file.Goals as goal

pub returns-in-Err-2 : goal.returns-in-Err-2
returns-in-Err-2 g c = reads_cut _ _ (omega (arith, c.if-cut-eq0.false)) (omega (arith, c.in-Err.ensures))

pub returns-in_err-before : goal.returns-in_err-before
returns-in_err-before g c =
    let k = cut_after _ _ _ _ c.read_part.ensures (sym c.after.ensures ∙ c.in_err-before.was) in
    cut_passed _ _ _ c.from_residual.ensures.1 (omega (arith, k.0, c.in-Ok.ensures)) (omega (arith, k.1, c.in-Ok.ensures, c.num32.ensures.same))

pub returns-in_err-all : goal.returns-in_err-all
returns-in_err-all g c =
    let source = whole_after _ _ _ _ c.read_part.ensures (sym c.after.ensures ∙ c.in_ok-before.was) in
    let k = cut_after _ _ _ _ c.read_part-2.ensures (sym c.after-2.ensures ∙ c.in_err-all.was) in
    cut_passed _ _ _ c.from_residual-in_err-all.ensures.1 (omega (arith, k.0, source, c.in-Ok.ensures))
    (omega (arith, k.1, source, c.in-Ok.ensures, c.num32.ensures.same, c.num32-2.ensures.same))
