-- A record is put behind four bytes, which its length fills last.
use mathlib.Core.Path.{◌≡◌, refl, sym, ◌∙◌}
use mathlib.Core.List.{List}
use Prim.Native.Nat.{ℕ, ◌+◌, ◌≤◌}
use native.Mathlib.Omega.{arith}
use lib.ListN.{length}
use Rattle.image.specs.Bytes.{be32, part}
use Rattle.image.proofs.Exact.{part_length}
use Rattle.image.proofs.Standing.{first_behind}
use Rattle.moves.proofs.Turned.{puts_absent, puts_record}
use Rattle.moves.proofs.Rows.{rows_none, rows_one, rows_end, row_tree, tree_within, opened, tree_room, head_there, row_there, row_last, row_at}
use Rattle.moves.proofs.records.+moving.Goals as goal

pub put_tree-num32-n-requires : goal.put_tree-num32-n-requires
put_tree-num32-n-requires t c = omega (arith, (tree_within _ _ c.args.image.now _ _ c.requires))

pub put_tree-put32-requires : goal.put_tree-put32-requires
put_tree-put32-requires t c = omega (arith, (tree_within _ _ c.args.image.now _ _ c.requires), c.requires.below, c.requires.short)

pub put_tree-returns-then-n-eq0-clause-put : goal.put_tree-returns-then-n-eq0-clause-put
put_tree-returns-then-n-eq0-clause-put t c =
    puts_absent _ _ c.args.image.now _ _ _ _ _ (sym c.num32-n.ensures.same ∙ c.if-n-eq0.true) c.put32.ensures.place c.put32.ensures.bytes

pub put_tree-payload_end-end-requires : goal.put_tree-payload_end-end-requires
put_tree-payload_end-end-requires t c =
    record {
      bytes = _;
      whole = (opened _ _ c.args.image.now _ _ c.requires (λ z. c.if-n-eq0.false (c.num32-n.ensures.same ∙ z))).whole;
      short = c.requires.short;
    }

pub put_tree-overflow_add-out : goal.put_tree-overflow_add-out
put_tree-overflow_add-out t c = omega (arith, (tree_within _ _ c.args.image.now _ _ c.requires), c.requires.below, c.requires.short)

pub put_tree-overflow_add-at : goal.put_tree-overflow_add-at
put_tree-overflow_add-at t c = omega (arith, (tree_within _ _ c.args.image.now _ _ c.requires), c.requires.short)

pub put_tree-overflow_add-at-2 : goal.put_tree-overflow_add-at-2
put_tree-overflow_add-at-2 t c = omega (arith, (tree_within _ _ c.args.image.now _ _ c.requires), c.requires.short)

pub put_tree-slice_bounds-copy-end : goal.put_tree-slice_bounds-copy-end
put_tree-slice_bounds-copy-end t c =
    omega (
      arith,
      c.num32-n.ensures.same,
      (tree_room _ _ c.args.image.now _ _ c.requires (λ z. c.if-n-eq0.false (c.num32-n.ensures.same ∙ z))),
    )

-- where the payload goes: behind a head of thirteen bytes
behind_head : (b : List ℕ) (at pos q : ℕ) → at + 13 ≤ length b → q ≡ pos + 4 + length (part (at + 4) (at + 13) b) → q ≡ pos + 13
behind_head b at pos q fits e =
    let nine : length (part (at + 4) (at + 13) b) ≡ 9 = part_length b (at + 4) (at + 13) (omega arith) fits ∙ omega arith in
    omega (arith, e)

pub put_tree-put_payload-requires-clause-there : goal.put_tree-put_payload-requires-clause-there
put_tree-put_payload-requires-clause-there t c =
    let no : ¬ (be32 c.args.image.now c.args.at ≡ 0) = λ z. c.if-n-eq0.false (c.num32-n.ensures.same ∙ z) in
    let r = tree_room _ _ c.args.image.now _ _ c.requires no in
    head_there _ _ c.args.image.now _ _ _ c.requires no
    (behind_head c.args.image.now c.args.at c.args.out.now.pos c.copy.new.self.pos (omega (arith, r)) c.copy.ensures.place)

pub put_tree-put_trees-requires : goal.put_tree-put_trees-requires
put_tree-put_trees-requires t c =
    let no : ¬ (be32 c.args.image.now c.args.at ≡ 0) = λ z. c.if-n-eq0.false (c.num32-n.ensures.same ∙ z) in
    let h = (opened _ _ c.args.image.now _ _ c.requires no).whole in
    let r = tree_room _ _ c.args.image.now _ _ c.requires no in
    let q = behind_head c.args.image.now c.args.at c.args.out.now.pos c.copy.new.self.pos (omega (arith, r)) c.copy.ensures.place in (
      omega (arith, c.decreases, r, c.payload_end-end.ensures, first_behind c.args.image.now _ _ h),
      row_there c.args.way c.args.shebang c.args.image.now c.args.at _ _ _ _ c.copy.new.self.bytes.now c.put_payload.new.out.bytes.now c.requires
          no c.num32-n.ensures.same c.payload_end-end.ensures (rw q at c.put_payload.ensures.put),
    )

pub put_tree-overflow_sub-out : goal.put_tree-overflow_sub-out
put_tree-overflow_sub-out t c =
    let no : ¬ (be32 c.args.image.now c.args.at ≡ 0) = λ z. c.if-n-eq0.false (c.num32-n.ensures.same ∙ z) in
    let r = tree_room _ _ c.args.image.now _ _ c.requires no in
    let q = behind_head c.args.image.now c.args.at c.args.out.now.pos c.copy.new.self.pos (omega (arith, r)) c.copy.ensures.place in
    let row = row_there c.args.way c.args.shebang c.args.image.now c.args.at _ _ _ _ c.copy.new.self.bytes.now c.put_payload.new.out.bytes.now c.requires
    no c.num32-n.ensures.same c.payload_end-end.ensures (rw q at c.put_payload.ensures.put) in
    omega (arith, q, c.put_payload.ensures.put.place, (row_last _ _ c.args.image.now _ _ _ _ _ _ row c.put_trees.ensures.put).0)

pub put_tree-overflow_sub-out-2 : goal.put_tree-overflow_sub-out-2
put_tree-overflow_sub-out-2 t c =
    let no : ¬ (be32 c.args.image.now c.args.at ≡ 0) = λ z. c.if-n-eq0.false (c.num32-n.ensures.same ∙ z) in
    let r = tree_room _ _ c.args.image.now _ _ c.requires no in
    let q = behind_head c.args.image.now c.args.at c.args.out.now.pos c.copy.new.self.pos (omega (arith, r)) c.copy.ensures.place in
    let row = row_there c.args.way c.args.shebang c.args.image.now c.args.at _ _ _ _ c.copy.new.self.bytes.now c.put_payload.new.out.bytes.now c.requires
    no c.num32-n.ensures.same c.payload_end-end.ensures (rw q at c.put_payload.ensures.put) in
    omega (arith, q, c.put_payload.ensures.put.place, (row_last _ _ c.args.image.now _ _ _ _ _ _ row c.put_trees.ensures.put).0)

pub put_tree-returns-clause-put : goal.put_tree-returns-clause-put
put_tree-returns-clause-put t c =
    let no : ¬ (be32 c.args.image.now c.args.at ≡ 0) = λ z. c.if-n-eq0.false (c.num32-n.ensures.same ∙ z) in
    let r = tree_room _ _ c.args.image.now _ _ c.requires no in
    let q = behind_head c.args.image.now c.args.at c.args.out.now.pos c.copy.new.self.pos (omega (arith, r)) c.copy.ensures.place in
    let pay = rw q at c.put_payload.ensures.put in
    let row = row_there c.args.way c.args.shebang c.args.image.now c.args.at _ _ _ _ c.copy.new.self.bytes.now c.put_payload.new.out.bytes.now c.requires
    no c.num32-n.ensures.same c.payload_end-end.ensures pay in
    let last = row_last _ _ c.args.image.now _ _ _ _ _ _ row c.put_trees.ensures.put in
    rw c.set32.ensures.place
    (puts_record c.args.way c.args.shebang c.args.image.now c.args.at _ _ _ _ _ _ _ _ (λ i. omega (arith, c.type_inv.image i)) no
    c.copy.ensures.bytes pay
    (row_at _ _ c.args.image.now c.args.at _ _ _ _ _ _ c.num32-n.ensures.same c.payload_end-end.ensures c.put_trees.ensures.put)
    (omega (arith, last.1, r, c.num32-n.ensures.same)) c.set32.ensures.bytes)

pub put_trees-loop-at-init : goal.put_trees-loop-at-init
put_trees-loop-at-init t c = record { rows = rows_none _ _ _ _ _ _ _ c.requires; same = refl }

pub put_trees-put_tree-requires : goal.put_trees-put_tree-requires
put_trees-put_tree-requires t c = (
  omega (arith, c.decreases, c.loop-at.invariant.rows.from),
  row_tree _ _ c.args.image.now _ _ _ _ _ _ _ _ c.requires c.loop-at.invariant.rows c.loop-at-test.true,
)

pub put_trees-num32-requires : goal.put_trees-num32-requires
put_trees-num32-requires t c =
    let w = tree_within _ _ c.args.image.now _ _ (row_tree _ _ c.args.image.now _ _ _ _ _ _ _ _ c.requires c.loop-at.invariant.rows c.loop-at-test.true) in
    omega (arith, w)

pub put_trees-overflow_add-at : goal.put_trees-overflow_add-at
put_trees-overflow_add-at t c = omega (arith, c.num32.ensures.small)

pub put_trees-overflow_add-at-in-loop-at : goal.put_trees-overflow_add-at-in-loop-at
put_trees-overflow_add-at-in-loop-at t c =
    let w = tree_within _ _ c.args.image.now _ _ (row_tree _ _ c.args.image.now _ _ _ _ _ _ _ _ c.requires c.loop-at.invariant.rows c.loop-at-test.true) in
    omega (arith, w, c.num32.ensures.same, c.requires.short)

pub put_trees-loop-at-smaller : goal.put_trees-loop-at-smaller
put_trees-loop-at-smaller t c =
    let w = tree_within _ _ c.args.image.now _ _ (row_tree _ _ c.args.image.now _ _ _ _ _ _ _ _ c.requires c.loop-at.invariant.rows c.loop-at-test.true) in
    omega (arith, w, c.num32.ensures.same, c.loop-at-test.true)

pub put_trees-loop-at-preserved : goal.put_trees-loop-at-preserved
put_trees-loop-at-preserved t c =
    record {
      rows = rows_one _ _ c.args.image.now _ _ _ _ _ _ _ _ _ _ _ c.requires c.loop-at.invariant.rows c.loop-at-test.true
          (omega (arith, c.num32.ensures.same)) c.put_tree.ensures.put;
      same = c.put_tree.ensures.same ∙ c.loop-at.invariant.same;
    }

pub put_trees-returns-clause-put : goal.put_trees-returns-clause-put
put_trees-returns-clause-put t c = rows_end _ _ c.args.image.now _ _ _ _ _ _ _ _ c.loop-at.invariant.rows c.loop-at-test.false
