use mathlib.Core.Path.{ap, ◌∙◌}
use Rattle.laws.proofs.Numbers.{lt_of}
use Rattle.batch.specs.declared.frames.Frames.{Frames}
use Rattle.batch.proofs.Buffer.{passed_none, starts, passed_more, passed_end}
use Rattle.batch.proofs.frames.count_frames.Goals as goal

pub loop-frame-init : goal.loop-frame-init
loop-frame-init c =
    let k = c.into_iter-frame-iterator.ensures.into_iter_gives in
    record {
      buffer = ap (λ (x : Frames). x.frames.now) k ∙ c.new-frame-items.ensures.0;
      here = ap (λ (x : Frames). x.at) k ∙ c.new-frame-items.ensures.1;
      passed = passed_none _;
    }

pub returns-then-at-frames : goal.returns-then-at-frames
returns-then-at-frames c =
    let h = c.loop-frame.invariant in
    rw c.at-then-at-frames.ensures (passed_end _ _ _ h.passed c.if-at-frames.true (rw (h.buffer, h.here) at c.in-None.ensures.steps.frame))

pub loop-frame-preserved : goal.loop-frame-preserved
loop-frame-preserved c =
    let h = c.loop-frame.invariant in
    let w = rw (h.buffer, h.here) at c.in-Some.ensures.steps.frame in
    record {
      buffer = c.in-Some.ensures.steps.buffer ∙ h.buffer;
      here = w.1;
      passed = rw w.0.end (passed_more _ _ _ h.passed (starts _ _ _ w.0) (lt_of _ _ h.passed.few c.if-files-eq-MAX_SAVES.false) w.0.inside);
    }
