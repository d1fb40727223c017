-- The whole run ends as the run from here on does.
use mathlib.Core.Path.{◌≡◌}
use Prim.Native.Nat.{◌-◌}
use lib.ListN.{length}
use Rattle.image.specs.Limits.{MAX_COMMENTS}
use Rattle.tree.specs.Contents.{pair_bytes}
use Rattle.steps.specs.Writer.{comments_from}
use Rattle.writer.specs.Put.{Same, put_by}
use Rattle.writer.proofs.Commented.{Listing}
use Rattle.writer.proofs.pairs.put_comments.Given as goal

abbrev pub invariant-loop-here : goal.invariant-loop-here
invariant-loop-here l = record {
  list : l.here.steps.now ≡ l.steps;
  listing : Listing l.steps (put_by pair_bytes l.fn.out.pos l.fn.out.bytes.now (comments_from l.steps MAX_COMMENTS 0 0)) l.left l.least l.here.at l.out.pos
      l.out.bytes.now;
  same : Same l.fn.out l.out;
}

abbrev pub decreases-loop-here : goal.decreases-loop-here
decreases-loop-here l = length l.steps - l.here.at
