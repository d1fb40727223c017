-- Steps of the code's `Renderer`: what writes nothing turns the machine as the lists that it leaves.
-- Assumes nothing.
use lib.ListN.{length}
use Rattle.renderer_rules.specs.Machine.{Machine}
use Rattle.renderer.specs.declared.run.Renderer.{Renderer}
use Rattle.renderer.specs.Run.{run_of, Follows, Unwritten, Unmarked, Turns}

module _ {f : Machine → Machine} {r q : Renderer} where
  pub turned : Unwritten r q → Follows (length r.out.now) f r.marks.now r.out.now (run_of r) q.marks.now r.out.now (run_of q) → Turns f r q
  turned u g = record { follows = rw u.out g; lent = u.lent; mark = u.mark }

  pub turned_unmarked : Unmarked r q → Follows (length r.out.now) f r.marks.now r.out.now (run_of r) r.marks.now r.out.now (run_of q) → Turns f r q
  turned_unmarked u g = turned u.unwritten (rw u.marks g)
