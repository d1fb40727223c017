use Prim.Native.Nat.{◌+◌, ◌*◌, ◌-◌, ◌≤◌, min}
use Rattle.renderer_rules.proofs.Machine.{weight}
use Rattle.renderer.proofs.Halting.{MOST, Halting}
use Rattle.renderer.proofs.run.Renderer.render.Given as goal

abbrev pub invariant-loop-kind : goal.invariant-loop-kind
invariant-loop-kind l =
    Halting l.store l.source l.image l.stop (min l.allotment MOST) l.fn.self l.self (l.self.mark - l.self.next) × (l.self.next ≤ l.self.mark)

abbrev pub decreases-loop-kind : goal.decreases-loop-kind
decreases-loop-kind l = (l.stop - l.self.next) * 3 + weight l.self.frames.items l.self.frames.depth
