-- The image's bytes are counted over an output without room, and put.
use mathlib.Core.Path.{sym, ap, ◌∙◌}
use Prim.Native.Nat.{ℕ}
use Rattle.refusals.specs.Reasons.{answer_of}
use Rattle.moves.proofs.Entries.{forward_long, forward_whole}
use Rattle.moves.proofs.forward.Goals as goal

pub returns-then-out-bytes : goal.returns-then-out-bytes
returns-then-out-bytes c =
    let checked = ap (answer_of (λ (n : ℕ). n)) (sym c.in_ok-tree.was) ∙ c.check_move.ensures in
    rw c.at.ensures
    (forward_long c.args.source.now c.args.image.now c.args.out.now _ checked _ _ _ c.move_image-bytes.ensures c.if-out-bytes.true)

pub returns : goal.returns
returns c =
    let checked = ap (answer_of (λ (n : ℕ). n)) (sym c.in_ok-tree.was) ∙ c.check_move.ensures in
    forward_whole c.args.source.now c.args.image.now c.args.out.now _ checked _ _ _ c.move_image-bytes.ensures _ _ c.if-out-bytes.false
    c.move_image.ensures
