-- The image's bytes are counted over an output without room, and put.
use mathlib.Core.Path.{sym, ap, ◌∙◌}
use Prim.Native.Nat.{ℕ}
use Rattle.refusals.specs.Reasons.{answer_of}
use Rattle.moves.proofs.Entries.{back_long, back_whole, no_body, no_room}
use Rattle.moves.proofs.back.Goals as goal
use Rattle.moves.proofs.back.Goals.{then-bytes-via-then-bytes, then-bytes-via-else-bytes+then-out-bytes}

pub returns-then-bytes : goal.returns-then-bytes
returns-then-bytes c =
    let checked = ap (answer_of (λ (n : ℕ). n)) (sym c.in_ok-tree.was) ∙ c.check_move.ensures in
    rw c.at.ensures
    (back_long c.args.source.now c.args.image.now c.args.out.now _ checked _ _ _ c.move_image-bytes.ensures
    (elim c.then-bytes.branch [
      | then-bytes-via-then-bytes w ↦ no_body _ _ w.if-bytes.true
      | then-bytes-via-else-bytes+then-out-bytes w ↦ no_room _ _ w.if-bytes.false w.if-out-bytes.true
    ]))

pub returns : goal.returns
returns c =
    let checked = ap (answer_of (λ (n : ℕ). n)) (sym c.in_ok-tree.was) ∙ c.check_move.ensures in
    back_whole c.args.source.now c.args.image.now c.args.out.now _ checked _ _ _ c.move_image-bytes.ensures _ _ c.if-bytes.false c.if-out-bytes.false
    c.move_image.ensures
