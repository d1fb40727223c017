use mathlib.Core.Path.{sym, ap, ◌∙◌}
use Prim.Native.Nat.{◌+◌, max}
use native.Mathlib.Omega.{arith}
use Rattle.rowcheck.specs.Needs.{row_most}
use Rattle.rowcheck.proofs.needs.Needs.with_node.Goals as goal

pub returns : goal.returns
returns c m =
    let most = c.node_most.ensures.0 m c.args.store.now c.args.row ∙ ap (row_most m c.args.store.now c.args.row) (sym c.requires.kind) in
    record {
      marks = c.max.ensures ∙ ap (max c.args.self.marks) c.row_marks.ensures.0;
      bytes = c.add.ensures ∙ ap (λ n. c.args.self.bytes.0 + n) most;
      few = let e = c.add.ensures in let l = c.node_most.ensures.1 in omega arith;
    }
