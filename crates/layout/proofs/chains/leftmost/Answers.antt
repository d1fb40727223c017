use native.Mathlib.Omega.{arith}
use Prim.Native.Nat.{◌+◌, ◌*◌}
use mathlib.Core.Path.{◌≡◌, refl, sym, ◌∙◌}
use lib.ListN.{length, length-set}
use Rattle.tree.specs.At.{ExprAt}
use Rattle.layout.specs.declared.kinds.Expr.TheVariants as exprs
use Rattle.layout.proofs.KindTests.{undiffering_expr, differing_expr}
use Rattle.layout.specs.Chains.{top, up}
use Rattle.layout.proofs.Places.{expr_whole}
use Rattle.layout.proofs.ExprForms.{expr_has_kind}
use Rattle.layout.proofs.Ranks.{rank_same, rank_apart}
use Rattle.layout.proofs.Operands.{down, stop_kind, stop_op, symbol_of, filled_more, room_left}
use Rattle.layout.proofs.chains.leftmost.Goals as goal

pub overflow_add-p : goal.overflow_add-p
overflow_add-p c = let w = expr_whole _ _ _ _ c.requires.has_chain.held in omega (arith, w.long, w.fits)

pub loop-q-init : goal.loop-q-init
unfolding ExprAt
loop-q-init c = let h : length c.args.ops.now ≡ 64 = c.requires.ops_len in
    let z : c.args.at ≡ c.args.at + 13 * 0 = omega arith in (
      length-set c.args.ops.now 0 c.args.at ∙ h,
      omega arith,
      omega arith,
      omega arith,
      filled_more c.args.ops.now c.args.at 0 c.args.at (omega (arith, h)) z (λ i l. absurd (omega arith)),
      λ s t a e. (t.1.0, up refl e a top, a.1.0),
    )

pub read-requires : goal.read-requires
read-requires c =
    let z =
    c.loop-q.invariant.5 c.requires.has_chain.source c.requires.has_chain.tree c.requires.has_chain.held c.requires.has_chain.same
    in
    expr_has_kind _ _ _ z.0 z.2

pub precedence-requires : goal.precedence-requires
precedence-requires c =
    let z = c.loop-q.invariant.5 c.requires.has_chain.source c.requires.has_chain.tree c.requires.has_chain.held c.requires.has_chain.same in
    let w = symbol_of _ _ _ (undiffering_expr _ exprs.BinOp c.read.ensures c.ne.ensures c.if-ne.false) z.0 z.2 in
    record { in_image = w.operand; in_bounds = w.byte; known = w.known }

pub offset_bounds-ops-n : goal.offset_bounds-ops-n
offset_bounds-ops-n c = omega (arith, c.loop-q.invariant.3)

pub bounds-ops-n : goal.bounds-ops-n
bounds-ops-n c =
    let z = c.loop-q.invariant.5 c.requires.has_chain.source c.requires.has_chain.tree c.requires.has_chain.held c.requires.has_chain.same in
    let f =
    room_left _ _ c.requires.has_chain.tree _ _ _ _ z.0 c.requires.has_chain.held z.1 z.2
    (undiffering_expr _ exprs.BinOp c.read.ensures c.ne.ensures c.if-ne.false) c.loop-q.invariant.1
    in
    omega (arith, f, c.loop-q.invariant.0)

pub loop-q-smaller : goal.loop-q-smaller
loop-q-smaller c =
    let z = c.loop-q.invariant.5 c.requires.has_chain.source c.requires.has_chain.tree c.requires.has_chain.held c.requires.has_chain.same in
    let w = expr_whole _ _ _ z.0 z.2 in
    omega (arith, w.long, w.fits)

pub loop-q-preserved : goal.loop-q-preserved
loop-q-preserved c =
    let z = c.loop-q.invariant.5 c.requires.has_chain.source c.requires.has_chain.tree c.requires.has_chain.held c.requires.has_chain.same in
    let f =
    room_left _ _ c.requires.has_chain.tree _ _ _ _ z.0 c.requires.has_chain.held z.1 z.2
    (undiffering_expr _ exprs.BinOp c.read.ensures c.ne.ensures c.if-ne.false) c.loop-q.invariant.1
    in (
      length-set c.loop-q.ops c.loop-q.n c.loop-q.p ∙ c.loop-q.invariant.0,
      omega (arith, c.loop-q.invariant.1),
      omega arith,
      omega (arith, f),
      filled_more c.loop-q.ops _ _ _ (omega (arith, f, c.loop-q.invariant.0)) c.loop-q.invariant.1 c.loop-q.invariant.4,
      λ s t a h.
          let y = c.loop-q.invariant.5 s t a h in
          down s _ _ _ _ (undiffering_expr _ exprs.BinOp c.read.ensures c.ne.ensures c.if-ne.false) c.precedence.ensures
          (rank_same _ _ (sym c.ne-in-loop-q.ensures ∙ c.if-ne-2.false)) y.1 y.2,
    )

pub returns-then-ne : goal.returns-then-ne
returns-then-ne c = record {
  filled = record {
    count = c.loop-q.n;
    far = c.loop-q.invariant.1;
    few = c.loop-q.invariant.3;
    each = c.loop-q.invariant.4;
  };
  further = omega (arith, c.loop-q.invariant.1, c.loop-q.invariant.2);
  of =
      λ s t a h.
      let z = c.loop-q.invariant.5 s t a h in
      record { tree = z.0; above = z.1; held = z.2; stop = stop_kind s _ _ _ z.0 z.2 (differing_expr _ exprs.BinOp c.read.ensures c.ne.ensures c.if-ne.true) };
}

pub returns-then-ne-2 : goal.returns-then-ne-2
returns-then-ne-2 c =
    record {
      filled = record { count = c.loop-q.n; far = c.loop-q.invariant.1; few = c.loop-q.invariant.3; each = c.loop-q.invariant.4 };
      further = omega (arith, c.loop-q.invariant.1, c.loop-q.invariant.2);
      of =
          λ s t a h.
          let z = c.loop-q.invariant.5 s t a h in
          record {
            tree = z.0;
            above = z.1;
            held = z.2;
            stop =
                stop_op s _ _ _ _ (undiffering_expr _ exprs.BinOp c.read.ensures c.ne.ensures c.if-ne.false) c.precedence.ensures z.0
                (rank_apart _ _ (sym c.ne-in-loop-q.ensures ∙ c.if-ne-2.true)) z.2;
          };
    }
