use native.Mathlib.Omega.{arith}
use Prim.Native.Nat.{ℕ, ◌≤◌}
use mathlib.Core.Path.{refl, sym, subst, ◌∙◌}
use Rattle.renderer.specs.Run.{run_of}
use Rattle.renderer.specs.Halts.{PassedTo}
use Rattle.renderer.proofs.Followed.{leaf_follows}
use Rattle.renderer.proofs.Stepped.{enters, kind_low, pen_room, turns, without_parts}
use Rattle.renderer.proofs.Walking.{walking_start, walks, walking_on}
use Rattle.renderer.proofs.run.Renderer.leaves.Goals as goal

pub loop-self-init : goal.loop-self-init
loop-self-init c = walking_start c.args.rows c.args.wrap c.args.end c.args.self.now c.requires

pub kind-kind-requires : goal.kind-kind-requires
kind-kind-requires c =
    let n = walks _ _ _ _ _ c.loop-self.invariant c.loop-self-test.true in
    let e = enters _ _ _ _ _ _ _ _ _ n in
    let r = e.row in
    (omega arith, kind_low _ _ _ _ _ _ _ _ _ n)

pub returns-then-has_parts : goal.returns-then-has_parts
unfolding PassedTo
returns-then-has_parts c =
    let g = c.loop-self.invariant in
    record {
      count = g.count;
      turns = record { follows = g.follows; lent = g.lent; mark = g.mark };
      frames = g.frames;
      next = g.next;
      leaves = g.leaves;
      ends = (let f = g.from in omega (arith, c.loop-self-test.true), (c.kind-kind.ensures, sym c.has_parts.ensures ∙ c.if-has_parts.true));
    }

pub leaf-requires-clause-room : goal.leaf-requires-clause-room
leaf-requires-clause-room c =
    let g = c.loop-self.invariant in
    rw g.size (pen_room _ _ _ _ _ _ _ _ _ g.ready)

pub loop-self-preserved : goal.loop-self-preserved
loop-self-preserved c =
    let g = c.loop-self.invariant in
    let n = walks _ _ _ _ _ g c.loop-self-test.true in
    let k = without_parts _ _ c.has_parts.ensures c.if-has_parts.false in
    let low = subst (λ (k : ℕ). 3 ≤ k) (sym c.kind-kind.ensures) k.0 in
    let high = subst (λ (k : ℕ). k ≤ 9) (sym c.kind-kind.ensures) k.1 in
    walking_on _ _ _ _ _ g c.loop-self-test.true _ (low, high)
    (turns _ _ _ _ _ _ _ _ _ _ _ _ n
    (leaf_follows _ _ _ _ _ _ _ (run_of c.loop-self.self) _ _ _ low high g.wraps (rw g.size at c.leaf.ensures _)))
    (record { max = refl; marks = refl; out = refl })
    refl refl refl

pub returns : goal.returns
unfolding PassedTo
returns c =
    let g = c.loop-self.invariant in
    record {
      count = g.count;
      turns = record { follows = g.follows; lent = g.lent; mark = g.mark };
      frames = g.frames;
      next = g.next;
      leaves = g.leaves;
      ends = c.loop-self-test.false;
    }
