-- A right header says version 1, whose texts have two bytes of width; then the comments' answer decides.
-- Assumes nothing.
use mathlib.Core.Path.{sym, ◌∙◌, ap}
use Prim.Native.Nat.{ℕ}
use native.Mathlib.Omega.{arith}
use Rattle.refusals.specs.Reasons.{answer_of}
use Rattle.image.specs.Read.{outcome}
use Rattle.refusals.proofs.Passed.{passed}
use Rattle.image.proofs.Whole.{image_bad, image_next}
use Rattle.image.proofs.CommentList.{listed}
use Rattle.image.proofs.read_image.Goals as goal

pub returns-in_err-at : goal.returns-in_err-at
returns-in_err-at c =
    passed _ _ _ c.from_residual.ensures.1
    ∙ sym (image_bad _ _ _ _ _ (sym c.header_fits.ensures ∙ c.if-not-header_fits.false)
    (sym c.read_comments.ensures ∙ ap (answer_of (λ (n : ℕ). n)) c.in_err-at.was))

pub read_tree-requires : goal.read_tree-requires
read_tree-requires c =
    let w = listed _ _ _ _ (sym c.read_comments.ensures ∙ ap (answer_of (λ (n : ℕ). n)) c.in_ok-at.was) in
    omega (arith, w.within, w.list.stop)

pub returns : goal.returns
returns c =
    c.read_tree.ensures
    ∙ sym (ap outcome (image_next _ _ _ _ _ (sym c.header_fits.ensures ∙ c.if-not-header_fits.false)
    (sym c.read_comments.ensures ∙ ap (answer_of (λ (n : ℕ). n)) c.in_ok-at.was)))
