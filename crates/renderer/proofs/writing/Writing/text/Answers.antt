use native.Mathlib.Omega.{arith}
use mathlib.Core.Path.{refl, ap₂, ◌∙◌}
use Prim.Native.Nat.{ℕ}
use Rattle.renderer.specs.Writing.{moved_to}
use Rattle.renderer.proofs.Writes.{text_writes, put_writes, room_before, then_over}
use Rattle.renderer.proofs.writing.Writing.text.Goals as goal

pub add-requires : goal.add-requires
add-requires c = omega (arith, (room_before _ _ _ _ _ _ c.requires.room c.start_text.ensures).column, c.requires.small.1)

pub add-requires-2 : goal.add-requires-2
add-requires-2 c = omega (arith, (room_before _ _ _ _ _ _ c.requires.room c.start_text.ensures).at, c.requires.small.0)

pub returns : goal.returns
returns c =
    text_writes _ _ _ _ _ _ _ _ _ _ refl c.start_text.ensures
    (then_over c.start_text.ensures
    (put_writes _ _ _ _ _ _ _ _ refl
    (c.move_to.ensures ∙ ap₂ (λ (x y : ℕ). moved_to x y c.start_text.new.self) c.add.ensures c.add-2.ensures) c.copy.ensures))
