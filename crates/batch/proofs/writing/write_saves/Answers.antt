use mathlib.Core.Path.{ap, ◌∙◌}
use Rattle.file.specs.Whole.{to_choice}
use Rattle.batch.specs.Whole.{saved}
use Rattle.batch.specs.declared.frames.Frames.{Frames}
use Rattle.batch.proofs.Bounds.{row_small}
use Rattle.batch.proofs.Texts.{putting_none, frame_text, frame_row, frame_put, putting_all}
use Rattle.batch.proofs.writing.write_saves.Goals as goal

pub loop-frame-init : goal.loop-frame-init
loop-frame-init c =
    let k = c.into_iter-frame-iterator.ensures.into_iter_gives in
    record {
      buffer = ap (λ (x : Frames). x.frames.now) k ∙ c.new-frame-items.ensures.0;
      putting = rw (ap (λ (x : Frames). x.at) k ∙ c.new-frame-items.ensures.1) (putting_none _ _ _ _ c.requires);
    }

pub write_text-row-requires : goal.write_text-row-requires
write_text-row-requires c =
    let h = c.loop-frame.invariant in
    let w = rw h.buffer at c.in-Some.ensures.steps.frame in
    frame_text _ _ _ _ _ _ _ _ _ h.putting _ w.0

pub write_row-requires : goal.write_row-requires
write_row-requires c =
    let h = c.loop-frame.invariant in
    let w = rw h.buffer at c.in-Some.ensures.steps.frame in (
      frame_row _ _ _ _ _ _ _ _ _ h.putting _ w.0,
      row_small (to_choice c.args.choice) (saved c.in-Some.frame) _ c.write_text-row.ensures.row,
    )

pub loop-frame-preserved : goal.loop-frame-preserved
loop-frame-preserved c =
    let h = c.loop-frame.invariant in
    let w = rw h.buffer at c.in-Some.ensures.steps.frame in
    record {
      buffer = c.in-Some.ensures.steps.buffer ∙ h.buffer;
      putting = rw w.1 (frame_put _ _ _ _ _ _ _ _ _ h.putting _ w.0 _ _ _ c.write_text-row.ensures c.write_row.ensures);
    }

pub returns : goal.returns
returns c =
    let h = c.loop-frame.invariant in
    putting_all _ _ _ _ _ _ _ _ _ h.putting (rw h.buffer at c.in-None.ensures.steps.frame)
