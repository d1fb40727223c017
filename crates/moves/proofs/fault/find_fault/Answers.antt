-- The next place is behind an absent child, or the first child's.
use mathlib.Core.Path.{sym, ◌∙◌}
use mathlib.Core.Bool.{true, false}
use native.Mathlib.Omega.{arith}
use Rattle.image.proofs.Standing.{first_behind}
use Rattle.moves.proofs.Seeks.{seek_first, place_of, whole_of, seek_gap, seek_found, seek_on, seek_last, at_fault, no_text, leads_tree, leads_none}
use Rattle.moves.proofs.fault.find_fault.Goals as goal
use Rattle.moves.proofs.fault.find_fault.Goals.{else-kind-via-then-kind+else-is_faulty, else-kind-via-else-kind}

pub loop-at-init : goal.loop-at-init
loop-at-init c = seek_first _ _ _

pub num32-n-requires : goal.num32-n-requires
num32-n-requires c =
    let p = place_of _ _ _ _ _ c.requires c.loop-at.invariant c.loop-at-test.true in
    omega (arith, p.after, p.inside)

pub loop-at-preserved-then-n-eq0 : goal.loop-at-preserved-then-n-eq0
loop-at-preserved-then-n-eq0 c = seek_gap _ _ _ _ _ c.loop-at.invariant c.loop-at-test.true (sym c.num32-n.ensures.same ∙ c.if-n-eq0.true)

pub bounds-image-at : goal.bounds-image-at
bounds-image-at c =
    let w = whole_of _ _ _ _ _ c.requires c.loop-at.invariant c.loop-at-test.true (λ z. c.if-n-eq0.false (c.num32-n.ensures.same ∙ z)) in
    omega (arith, w.long, w.inside)

pub is_faulty-requires : goal.is_faulty-requires
is_faulty-requires c =
    let w = whole_of _ _ _ _ _ c.requires c.loop-at.invariant c.loop-at-test.true (λ z. c.if-n-eq0.false (c.num32-n.ensures.same ∙ z)) in
    let t = w.width c.if-kind.true in
    (omega (arith, t, c.num32-n.ensures.same), omega (arith, w.inside, c.num32-n.ensures.same))

pub returns-then-is_faulty : goal.returns-then-is_faulty
returns-then-is_faulty c =
    seek_found _ _ _ _ _ c.loop-at.invariant c.loop-at-test.true (λ z. c.if-n-eq0.false (c.num32-n.ensures.same ∙ z))
    (at_fault _ _ _ _ _ _ true c.if-kind.true c.num32-n.ensures.same c.is_faulty.ensures c.if-is_faulty.true)

pub payload_end-at-requires : goal.payload_end-at-requires
payload_end-at-requires c =
    record {
      bytes = _;
      whole = whole_of _ _ _ _ _ c.requires c.loop-at.invariant c.loop-at-test.true (λ z. c.if-n-eq0.false (c.num32-n.ensures.same ∙ z));
      short = c.requires.short;
    }

pub loop-at-smaller-then-kind-2 : goal.loop-at-smaller-then-kind-2
loop-at-smaller-then-kind-2 c =
    let w = whole_of _ _ _ _ _ c.requires c.loop-at.invariant c.loop-at-test.true (λ z. c.if-n-eq0.false (c.num32-n.ensures.same ∙ z)) in
    omega (arith, c.payload_end-at.ensures, first_behind c.args.image.now _ _ w, w.payload, w.inside, c.loop-at-test.true)

pub loop-at-smaller : goal.loop-at-smaller
loop-at-smaller c =
    let w = whole_of _ _ _ _ _ c.requires c.loop-at.invariant c.loop-at-test.true (λ z. c.if-n-eq0.false (c.num32-n.ensures.same ∙ z)) in
    omega (arith, c.payload_end-at.ensures, first_behind c.args.image.now _ _ w, w.payload, w.inside, c.loop-at-test.true)

pub loop-at-preserved-then-kind-2 : goal.loop-at-preserved-then-kind-2
loop-at-preserved-then-kind-2 c =
    seek_on _ _ _ _ _ c.loop-at.invariant c.loop-at-test.true (λ z. c.if-n-eq0.false (c.num32-n.ensures.same ∙ z)) _ _
    (elim c.else-kind.branch [
      | else-kind-via-then-kind+else-is_faulty w ↦ at_fault c.args.way c.args.image.now c.loop-at.shebang c.loop-at.at _ _ false w.if-kind.true
          c.num32-n.ensures.same w.is_faulty.ensures w.if-is_faulty.false
      | else-kind-via-else-kind w ↦ no_text c.args.way c.args.image.now c.loop-at.shebang c.loop-at.at w.if-kind.false
    ])
    c.payload_end-at.ensures
    (leads_tree _ _ _ _ c.if-kind-2.true c.num32-n.ensures.same c.payload_end-at.ensures)

pub loop-at-preserved : goal.loop-at-preserved
loop-at-preserved c =
    seek_on _ _ _ _ _ c.loop-at.invariant c.loop-at-test.true (λ z. c.if-n-eq0.false (c.num32-n.ensures.same ∙ z)) _ _
    (elim c.else-kind.branch [
      | else-kind-via-then-kind+else-is_faulty w ↦ at_fault c.args.way c.args.image.now c.loop-at.shebang c.loop-at.at _ _ false w.if-kind.true
          c.num32-n.ensures.same w.is_faulty.ensures w.if-is_faulty.false
      | else-kind-via-else-kind w ↦ no_text c.args.way c.args.image.now c.loop-at.shebang c.loop-at.at w.if-kind.false
    ])
    c.payload_end-at.ensures
    (leads_none c.args.image.now c.loop-at.at c.if-kind-2.false)

pub returns : goal.returns
returns c = seek_last _ _ _ _ _ c.loop-at.invariant c.loop-at-test.false
