use native.Mathlib.Omega.{arith}
use mathlib.Core.Path.{◌≡◌, ap, ◌∙◌}
use Rattle.renderer_rules.specs.Renderer.{on_new_line}
use Rattle.renderer.specs.declared.writing.Writing.{Writing}
use Rattle.renderer.specs.Writing.{set_pen}
use Rattle.renderer.proofs.Writes.{line_writes, none_writes, push_pen}
use Rattle.renderer.proofs.writing.Writing.new_line.Goals.{Joined-self-gt0, then-self-gt0, else-self-gt0}
use Rattle.renderer.proofs.writing.Writing.new_line.Goals as goal

-- the line's end leaves the pen as it was
same_pen : (c : Joined-self-gt0) → c.if-self-gt0.self.pen ≡ c.args.self.now.pen
same_pen c =
    elim c.if-self-gt0.branch [
      | then-self-gt0 w ↦ ap (λ (x : Writing). x.pen) w.self-is ∙ push_pen _ _ _ _ _ _ w.push.ensures
      | else-self-gt0 w ↦ ap (λ (x : Writing). x.pen) w.self-is
    ]

pub break_line-requires : goal.break_line-requires
break_line-requires c =
    let e = same_pen (goal.at.break_line-requires c).Joined-self-gt0 in
    let l = c.requires.indent in
    rw e (omega arith)

pub returns : goal.returns
returns c =
    let pen = c.break_line.ensures ∙ ap on_new_line (same_pen (goal.at.returns c).Joined-self-gt0) in
    elim c.if-self-gt0.branch [
      | then-self-gt0 w ↦ rw w.out-is
          (line_writes _ _ _ c.break_line.new.self _ w.push.new.self _ pen w.if-self-gt0.true w.push.ensures
          (ap (set_pen c.break_line.new.self) w.self-is))
      | else-self-gt0 w ↦ rw w.out-is
          (none_writes _ _ _ c.break_line.new.self _ pen (ap (set_pen c.break_line.new.self) w.self-is) w.if-self-gt0.false)
    ]
