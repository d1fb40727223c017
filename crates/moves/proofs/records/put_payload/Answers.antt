-- A text without its width, or with the one due; any other payload as it stands.
use native.Mathlib.Omega.{arith}
use Rattle.moves.proofs.Payloads.{head_end, text_end, due_low, puts_narrow}
use Rattle.moves.proofs.records.put_payload.Goals as goal

pub slice_bounds-copy-count : goal.slice_bounds-copy-count
slice_bounds-copy-count c = omega (arith, head_end _ _ _ _ _ _ c.requires.there c.requires.ends)

pub slice_bounds-copy-start : goal.slice_bounds-copy-start
slice_bounds-copy-start c = omega (arith, head_end _ _ _ _ _ _ c.requires.there c.requires.ends)

pub slice_bounds-copy-count-in-Forward : goal.slice_bounds-copy-count-in-Forward
slice_bounds-copy-count-in-Forward c =
    let t = text_end _ _ _ _ _ _ c.requires.there c.requires.ends c.if-image-at.false in
    rw c.in-Forward.is at t.after

pub slice_bounds-copy-start-in-Forward : goal.slice_bounds-copy-start-in-Forward
slice_bounds-copy-start-in-Forward c =
    let t = text_end _ _ _ _ _ _ c.requires.there c.requires.ends c.if-image-at.false in
    let far = rw c.in-Forward.is at t.after in
    omega (arith, t.inside, far)

pub slice_bounds-due_width-count : goal.slice_bounds-due_width-count
slice_bounds-due_width-count c = omega (arith, head_end _ _ _ _ _ _ c.requires.there c.requires.ends)

pub slice_bounds-due_width-start : goal.slice_bounds-due_width-start
slice_bounds-due_width-start c = omega (arith, head_end _ _ _ _ _ _ c.requires.there c.requires.ends)

pub put16-requires : goal.put16-requires
put16-requires c = (
  omega (arith, c.requires.there.below, c.requires.there.short, head_end _ _ _ _ _ _ c.requires.there c.requires.ends),
  due_low _ _ _ _ _ _ c.requires.there c.requires.ends _ c.in-Back.is c.if-image-at.false c.due_width.ensures.0,
)

pub slice_bounds-copy-count-in-Back : goal.slice_bounds-copy-count-in-Back
slice_bounds-copy-count-in-Back c = omega (arith, head_end _ _ _ _ _ _ c.requires.there c.requires.ends)

pub slice_bounds-copy-start-in-Back : goal.slice_bounds-copy-start-in-Back
slice_bounds-copy-start-in-Back c = omega (arith, head_end _ _ _ _ _ _ c.requires.there c.requires.ends)

pub returns-in-Forward-clause-put : goal.returns-in-Forward-clause-put
returns-in-Forward-clause-put c =
    puts_narrow _ _ _ _ _ _ c.requires.there c.requires.ends _ _ _ c.in-Forward.is c.if-image-at.false c.copy-in-Forward.ensures.place
    c.copy-in-Forward.ensures.bytes
