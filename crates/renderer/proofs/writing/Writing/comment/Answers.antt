use native.Mathlib.Omega.{arith}
use mathlib.Core.Path.{◌≡◌, refl, ap, subst, ◌∙◌}
use mathlib.Core.List.{[], ◌∷◌}
use Prim.Native.Nat.{ℕ, ◌+◌}
use lib.ListN.{length}
use Rattle.renderer.specs.Output.{written_over}
use Rattle.renderer.specs.Writing.{moved_to}
use Rattle.renderer.proofs.Written.{over_length}
use Rattle.renderer.proofs.Writes.{comment_writes, ended, room_before, then_over}
use Rattle.renderer.proofs.writing.Writing.comment.Goals as goal

pub add-at-requires : goal.add-at-requires
add-at-requires c = omega (arith, (room_before _ _ _ _ _ _ c.requires.room c.start_comment.ensures).at, c.requires.small)

pub add-requires : goal.add-requires
add-requires c =
    omega (arith, (room_before _ _ _ _ _ _ c.requires.room c.start_comment.ensures).at, c.requires.small, c.add-at.ensures)

pub returns : goal.returns
returns c =
    let over = c.copy.new.out in
    let size = ap length c.copy.ensures ∙ over_length (length c.start_comment.new.out) c.start_comment.new.out c.start_comment.new.self.at.0 c.args.s.now in
    let at = c.start_comment.new.self.at.0 + length c.args.s.now in
    comment_writes _ _ _ _ _ _ _ _ _ refl c.start_comment.ensures
    (then_over c.start_comment.ensures
    (ended _ _ _ _ _ _ _ _ refl
    (c.move_to.ensures ∙ ap (λ (x : ℕ). moved_to 0 x c.start_comment.new.self) (c.add.ensures ∙ ap (λ (x : ℕ). x + 1) c.add-at.ensures))
    c.copy.ensures
    (subst (λ (n : ℕ). c.emit.new.out ≡ written_over n over at (0x0A ∷ [])) size
    (c.emit.ensures ∙ ap (λ (x : ℕ). written_over (length over) over x (0x0A ∷ [])) c.add-at.ensures))))
