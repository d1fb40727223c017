use Prim.Native.Nat.{◌-◌}
use Rattle.renderer.proofs.Walking.{Walking}
use Rattle.renderer.proofs.run.Renderer.leaves.Given as goal

abbrev pub invariant-loop-self : goal.invariant-loop-self
invariant-loop-self l = Walking l.rows l.wrap l.end l.initial.self l.self

abbrev pub decreases-loop-self : goal.decreases-loop-self
decreases-loop-self l = l.end - l.self.next
