use mathlib.Core.Path.{◌≡◌, refl, sym, ap, ◌∙◌}
use Prim.Native.Nat.{ℕ, ◌+◌}
use native.Mathlib.Omega.{arith}
use lib.ListN.{length}
use Rattle.image.specs.Bytes.{be32, part}
use Rattle.image.proofs.Exact.{part_length}
use Rattle.writer.proofs.Commented.{pair_fits, lists_on, lists_end, lists_wrong, from_many, from_wrong}
use Rattle.writer.proofs.pairs.put_comments.Goals as goal

pub loop-here-init : goal.loop-here-init
loop-here-init c =
    record { list = refl; listing = record { inside = omega arith; low = omega (arith, c.requires); same = refl }; same = refl }

pub returns-then-left-eq0-clause-put : goal.returns-then-left-eq0-clause-put
returns-then-left-eq0-clause-put c =
    let h = c.loop-here.invariant in
    rw c.at.ensures (lists_wrong h.listing (from_many _ _ _ _ c.if-left-eq0.true (sym (rw h.list at c.stands.ensures) ∙ c.loop-here-test.true)))

pub returns-then-not-pair_fits-clause-put : goal.returns-then-not-pair_fits-clause-put
returns-then-not-pair_fits-clause-put c =
    let h = c.loop-here.invariant in
    rw c.at-then-not-pair_fits.ensures (lists_wrong h.listing
    (from_wrong _ _ _ _ (sym (rw h.list at c.stands.ensures) ∙ c.loop-here-test.true) (sym (rw h.list at c.pair_fits.ensures) ∙ c.if-not-pair_fits.true)))

pub num32-least-requires : goal.num32-least-requires
num32-least-requires c =
    let h = c.loop-here.invariant in
    omega (arith, pair_fits c.args.steps.now c.loop-here.least c.loop-here.here.at (sym (rw h.list at c.pair_fits.ensures) ∙ c.if-not-pair_fits.false))

pub slice_bounds-copy-end : goal.slice_bounds-copy-end
slice_bounds-copy-end c =
    let h = c.loop-here.invariant in
    omega (arith, pair_fits c.args.steps.now c.loop-here.least c.loop-here.here.at (sym (rw h.list at c.pair_fits.ensures) ∙ c.if-not-pair_fits.false))

pub loop-here-preserved : goal.loop-here-preserved
loop-here-preserved c =
    let l = c.args.steps.now in
    let h = c.loop-here.invariant in
    let at = c.loop-here.here.at in
    let pair = sym (rw h.list at c.pair_fits.ensures) ∙ c.if-not-pair_fits.false in
    let fits = pair_fits l c.loop-here.least at pair in
    let eight : length (part (at + 1) (at + 9) l) ≡ 8 = part_length l (at + 1) (at + 9) (omega arith) fits ∙ omega arith in
    let next = c.copy.ensures.place ∙ ap (λ (n : ℕ). c.loop-here.out.pos + n) eight in
    let end : c.num32-least.result ≡ be32 l (at + 5) = c.num32-least.ensures.same in
    record {
      list = c.go_to.ensures.0 ∙ h.list;
      listing = rw (c.go_to.ensures.1, next, end) (lists_on h.listing c.copy.new.self.bytes.now (λ i. omega (arith, c.type_inv.steps i))
          c.if-left-eq0.false (sym (rw h.list at c.stands.ensures) ∙ c.loop-here-test.true) pair c.copy.ensures.bytes);
      same = c.copy.ensures.name ∙ h.same;
    }

pub returns-clause-put : goal.returns-clause-put
returns-clause-put c =
    let h = c.loop-here.invariant in
    lists_end h.listing _ refl (sym (rw h.list at c.stands.ensures) ∙ c.loop-here-test.false)
