use mathlib.Core.Path.{◌≡◌, refl, sym, ◌∙◌}
use mathlib.Core.List.{List}
use Prim.Native.Nat.{ℕ, ◌+◌, ◌≤◌}
use native.Mathlib.Omega.{arith}
use lib.ListN.{length}
use Rattle.image.specs.Bytes.{be32, part}
use Rattle.image.proofs.Exact.{part_length}
use Rattle.writer.proofs.Standing.{puts_absent, puts_record}
use Rattle.image.proofs.Standing.{first_behind}
use Rattle.writer.proofs.Listed.{rows_none, rows_one, rows_end, row_tree, tree_within, tree_head, tree_room, row_there, row_last, row_at}
use Rattle.writer.proofs.list.+listing.Goals as goal

-- where the payload's steps go: behind the step that opens the record
opened : (b : List ℕ) (at pos q : ℕ) → at + 13 ≤ length b → q ≡ pos + 1 + length (part (at + 4) (at + 13) b) → q ≡ pos + 10
opened b at pos q fits e =
    let nine : length (part (at + 4) (at + 13) b) ≡ 9 = part_length b (at + 4) (at + 13) (omega arith) fits ∙ omega arith in
    omega (arith, e)

pub list_tree-num32-n-requires : goal.list_tree-num32-n-requires
list_tree-num32-n-requires t c = omega (arith, (tree_within c.args.image.now _ _ c.requires), c.requires.below, c.requires.short)

pub list_tree-put-requires : goal.list_tree-put-requires
list_tree-put-requires t c = omega (arith, (tree_within c.args.image.now _ _ c.requires), c.requires.below, c.requires.short)

pub list_tree-returns-then-n-eq0-clause-put : goal.list_tree-returns-then-n-eq0-clause-put
list_tree-returns-then-n-eq0-clause-put t c =
    rw c.put.ensures.place (puts_absent c.args.image.now _ _ _ _ (sym c.num32-n.ensures.same ∙ c.if-n-eq0.true) c.put.ensures.bytes)

pub list_tree-put-requires-2 : goal.list_tree-put-requires-2
list_tree-put-requires-2 t c = omega (arith, (tree_within c.args.image.now _ _ c.requires), c.requires.below, c.requires.short)

pub list_tree-slice_bounds-copy-end : goal.list_tree-slice_bounds-copy-end
list_tree-slice_bounds-copy-end t c = omega (
  arith,
  c.num32-n.ensures.same,
  (tree_room c.args.image.now _ _ c.requires (λ z. c.if-n-eq0.false (c.num32-n.ensures.same ∙ z))),
)

pub list_tree-overflow_add-at : goal.list_tree-overflow_add-at
list_tree-overflow_add-at t c = omega (
  arith,
  c.num32-n.ensures.same,
  (tree_room c.args.image.now _ _ c.requires (λ z. c.if-n-eq0.false (c.num32-n.ensures.same ∙ z))),
)

pub list_tree-overflow_add-at-2 : goal.list_tree-overflow_add-at-2
list_tree-overflow_add-at-2 t c = omega (
  arith,
  c.num32-n.ensures.same,
  (tree_room c.args.image.now _ _ c.requires (λ z. c.if-n-eq0.false (c.num32-n.ensures.same ∙ z))),
)

pub list_tree-copy-requires : goal.list_tree-copy-requires
list_tree-copy-requires t c =
    let r = tree_room c.args.image.now _ _ c.requires (λ z. c.if-n-eq0.false (c.num32-n.ensures.same ∙ z)) in
    let nine = part_length c.args.image.now (c.args.at + 4) (c.args.at + 13) (omega arith) (omega (arith, r)) in
    omega (arith, nine, c.put-2.ensures.place, r)

pub list_tree-list_payload-first-requires : goal.list_tree-list_payload-first-requires
list_tree-list_payload-first-requires t c =
    let r = tree_room c.args.image.now _ _ c.requires (λ z. c.if-n-eq0.false (c.num32-n.ensures.same ∙ z)) in
    let ten = opened c.args.image.now c.args.at c.args.out.now.pos c.copy.new.self.pos (omega (arith, r)) (rw c.put-2.ensures.place at c.copy.ensures.place) in
    record {
      whole = (tree_head c.args.image.now _ _ c.requires (λ z. c.if-n-eq0.false (c.num32-n.ensures.same ∙ z))).0;
      below = omega (arith, ten, c.requires.below);
      short = c.requires.short;
    }

pub list_tree-list_trees-requires : goal.list_tree-list_trees-requires
list_tree-list_trees-requires t c =
    let no : ¬ (be32 c.args.image.now c.args.at ≡ 0) = λ z. c.if-n-eq0.false (c.num32-n.ensures.same ∙ z) in
    let h = (tree_head c.args.image.now _ _ c.requires no).0 in
    let r = tree_room c.args.image.now _ _ c.requires no in
    let ten = opened c.args.image.now c.args.at c.args.out.now.pos c.copy.new.self.pos (omega (arith, r))
    (rw c.put-2.ensures.place at c.copy.ensures.place) in (
      omega (arith, c.decreases, r, c.list_payload-first.ensures.first, first_behind c.args.image.now 2 _ h),
      row_there c.args.image.now _ _ _ _ _ c.copy.new.self.bytes.now c.list_payload-first.new.out.bytes.now c.requires
          no c.num32-n.ensures.same c.list_payload-first.ensures.first (rw ten at c.list_payload-first.ensures.put),
    )

pub list_tree-put-requires-3 : goal.list_tree-put-requires-3
list_tree-put-requires-3 t c =
    let no : ¬ (be32 c.args.image.now c.args.at ≡ 0) = λ z. c.if-n-eq0.false (c.num32-n.ensures.same ∙ z) in
    let r = tree_room c.args.image.now _ _ c.requires no in
    let ten = opened c.args.image.now c.args.at c.args.out.now.pos c.copy.new.self.pos (omega (arith, r)) (rw c.put-2.ensures.place at c.copy.ensures.place) in
    omega (
      arith,
      row_last c.args.image.now _ _ _ _ _ _ (row_there c.args.image.now _ _ _ _ _ c.copy.new.self.bytes.now c.list_payload-first.new.out.bytes.now c.requires
          no c.num32-n.ensures.same c.list_payload-first.ensures.first (rw ten at c.list_payload-first.ensures.put)) c.list_trees.ensures.put,
      r,
      c.num32-n.ensures.same,
    )

pub list_tree-returns-clause-put : goal.list_tree-returns-clause-put
list_tree-returns-clause-put t c =
    let no : ¬ (be32 c.args.image.now c.args.at ≡ 0) = λ z. c.if-n-eq0.false (c.num32-n.ensures.same ∙ z) in
    let r = tree_room c.args.image.now _ _ c.requires no in
    let ten = opened c.args.image.now c.args.at c.args.out.now.pos c.copy.new.self.pos (omega (arith, r)) (rw c.put-2.ensures.place at c.copy.ensures.place) in
    rw c.put-3.ensures.place (puts_record c.args.image.now _ _ _ _ _ _ _ _ _ _ (λ i. omega (arith, c.type_inv.image i))
    no c.put-2.ensures.bytes (rw c.put-2.ensures.place at c.copy.ensures.bytes)
    (rw ten at c.list_payload-first.ensures.put) (row_at c.args.image.now _ _ _ _ _ _ _ c.num32-n.ensures.same
    c.list_payload-first.ensures.first c.list_trees.ensures.put)
    c.put-3.ensures.bytes)

pub list_trees-loop-at-init : goal.list_trees-loop-at-init
list_trees-loop-at-init t c = record { rows = rows_none _ _ _ _ _ c.requires; same = refl }

pub list_trees-list_tree-requires : goal.list_trees-list_tree-requires
list_trees-list_tree-requires t c = (
  omega (arith, c.decreases, c.loop-at.invariant.rows.from),
  row_tree c.args.image.now _ _ _ _ _ _ _ c.requires c.loop-at.invariant.rows c.loop-at-test.true,
)

pub list_trees-num32-requires : goal.list_trees-num32-requires
list_trees-num32-requires t c =
    let w = tree_within c.args.image.now _ _ (row_tree c.args.image.now _ _ _ _ _ _ _ c.requires c.loop-at.invariant.rows c.loop-at-test.true) in
    omega (arith, w)

pub list_trees-overflow_add-at : goal.list_trees-overflow_add-at
list_trees-overflow_add-at t c = omega (arith, c.num32.ensures.small)

pub list_trees-overflow_add-at-in-loop-at : goal.list_trees-overflow_add-at-in-loop-at
list_trees-overflow_add-at-in-loop-at t c =
    let w = tree_within c.args.image.now _ _ (row_tree c.args.image.now _ _ _ _ _ _ _ c.requires c.loop-at.invariant.rows c.loop-at-test.true) in
    omega (arith, w, c.num32.ensures.same, c.requires.short)

pub list_trees-loop-at-smaller : goal.list_trees-loop-at-smaller
list_trees-loop-at-smaller t c =
    let w = tree_within c.args.image.now _ _ (row_tree c.args.image.now _ _ _ _ _ _ _ c.requires c.loop-at.invariant.rows c.loop-at-test.true) in
    omega (arith, w, c.num32.ensures.same, c.loop-at-test.true)

pub list_trees-loop-at-preserved : goal.list_trees-loop-at-preserved
list_trees-loop-at-preserved t c =
    record {
      rows = rows_one c.args.image.now _ _ _ _ _ _ _ _ _ _ c.requires c.loop-at.invariant.rows c.loop-at-test.true
          (omega (arith, c.num32.ensures.same)) c.list_tree.ensures.put;
      same = c.list_tree.ensures.same ∙ c.loop-at.invariant.same;
    }

pub list_trees-returns-clause-put : goal.list_trees-returns-clause-put
list_trees-returns-clause-put t c = rows_end c.args.image.now _ _ _ _ _ _ _ c.loop-at.invariant.rows c.loop-at-test.false
