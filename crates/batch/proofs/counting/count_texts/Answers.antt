use mathlib.Core.Path.{ap, ◌∙◌}
use native.Mathlib.Omega.{arith}
use Rattle.file.specs.Whole.{to_choice}
use Rattle.batch.specs.declared.frames.Frames.{Frames}
use Rattle.batch.proofs.Texts.{adding_none, frame_within, frame_added, adding_all, all_limited}
use Rattle.batch.proofs.counting.count_texts.Goals as goal

pub loop-frame-init : goal.loop-frame-init
loop-frame-init c =
    let k = c.into_iter-frame-iterator.ensures.into_iter_gives in
    record {
      buffer = ap (λ (x : Frames). x.frames.now) k ∙ c.new-frame-items.ensures.0;
      adding = rw (ap (λ (x : Frames). x.at) k ∙ c.new-frame-items.ensures.1) (adding_none _ _ c.requires);
    }

pub overflow_add-bytes : goal.overflow_add-bytes
overflow_add-bytes c =
    let h = c.loop-frame.invariant in
    let w = rw h.buffer at c.in-Some.ensures.steps.frame in
    omega (
      arith,
      frame_within _ _ _ _ h.adding _ w.0 _ c.text_size-bytes.ensures,
      all_limited (to_choice c.args.choice) c.args.frames.now c.requires,
    )

pub loop-frame-preserved : goal.loop-frame-preserved
loop-frame-preserved c =
    let h = c.loop-frame.invariant in
    let w = rw h.buffer at c.in-Some.ensures.steps.frame in
    record {
      buffer = c.in-Some.ensures.steps.buffer ∙ h.buffer;
      adding = rw w.1 (frame_added _ _ _ _ h.adding _ w.0 _ c.text_size-bytes.ensures);
    }

pub returns : goal.returns
returns c =
    let h = c.loop-frame.invariant in
    adding_all _ _ _ _ h.adding (rw h.buffer at c.in-None.ensures.steps.frame)
