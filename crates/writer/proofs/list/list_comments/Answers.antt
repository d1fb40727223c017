use mathlib.Core.Path.{◌≡◌, refl, ap, ◌∙◌}
use Prim.Native.Nat.{◌+◌, ◌*◌}
use native.Mathlib.Omega.{arith}
use Rattle.std.specs.Slice.Iter.{chunks_rest, chunks_size}
use Rattle.writer.proofs.Listed.{pairs_none, pairs_one, pairs_end, next_pair, no_pair}
use Rattle.writer.proofs.list.list_comments.Goals as goal

pub loop-pair-init : goal.loop-pair-init
loop-pair-init c =
    let k = c.into_iter-pair-iterator.ensures.into_iter_gives in
    record {
      done = 0;
      eight = ap chunks_size k ∙ c.chunks-pair-items.ensures.size;
      rest = ap chunks_rest k ∙ c.chunks-pair-items.ensures.rest;
      pairs = rw c.requires.fresh (pairs_none _ _ _);
      same = refl;
    }

pub put-requires : goal.put-requires
put-requires c = omega (arith, c.loop-pair.invariant.pairs.far, c.loop-pair.invariant.pairs.some, c.requires.there.1)

pub copy-requires : goal.copy-requires
copy-requires c =
    let h = c.loop-pair.invariant in
    let n = c.in-Some.ensures.steps.1 in
    let w = next_pair _ _ _ _ _ _ _ c.requires.there.0 h.pairs.some h.eight h.rest n.0 n.1 n.2 in
    omega (arith, w.3, c.put.ensures.place, h.pairs.far, h.pairs.some, c.requires.there.1)

pub loop-pair-preserved : goal.loop-pair-preserved
loop-pair-preserved c =
    let h = c.loop-pair.invariant in
    let n = c.in-Some.ensures.steps.1 in
    let w = next_pair _ _ _ _ _ _ _ c.requires.there.0 h.pairs.some h.eight h.rest n.0 n.1 n.2 in
    let at : 7 + 8 * (h.done + 1) ≡ 7 + 8 * h.done + 8 = omega arith in
    let pos : c.copy.new.self.pos ≡ c.loop-pair.out.pos + 9 = omega (arith, c.copy.ensures.place, c.put.ensures.place, w.3) in
    record {
      done = h.done + 1;
      eight = c.in-Some.ensures.steps.0 ∙ h.eight;
      rest = w.2;
      pairs = rw (at, pos) (pairs_one _ _ _ _ _ _ _ _ _ (λ i. omega (arith, c.type_inv.image i)) c.requires.there.0
          h.pairs w.0 c.put.ensures.bytes (rw (c.put.ensures.place, w.1) at c.copy.ensures.bytes));
      same = c.copy.ensures.name ∙ c.put.ensures.name ∙ h.same;
    }

pub returns-clause-put : goal.returns-clause-put
returns-clause-put c =
    let h = c.loop-pair.invariant in
    pairs_end _ _ _ _ _ _ _ h.pairs (no_pair _ _ _ _ c.requires.there.0 h.pairs.some h.rest c.in-None.ensures.steps.1.0)
