-- The version, the comments with their number, the tree, and the length last.
use mathlib.Core.Path.{◌≡◌, sym, ◌∙◌}
use mathlib.Core.List.{List}
use Prim.Native.Nat.{ℕ, ◌+◌, ◌≤◌}
use native.Mathlib.Omega.{arith}
use lib.ListN.{length}
use Rattle.image.specs.Bytes.{part}
use Rattle.image.proofs.Exact.{part_length}
use Rattle.moves.proofs.Imaged.{image_room, tree_there, tree_last, image_puts}
use Rattle.moves.proofs.records.move_image.Goals as goal

-- where the tree goes: as far behind the start as it stands
behind_pairs : (b : List ℕ) (at p q : ℕ) → (7 ≤ at) × (at ≤ length b) → p ≡ 0 + 1 → q ≡ p + 4 + length (part 5 at b) → q ≡ at
behind_pairs b at p q room e f =
    let n = part_length b 5 at (omega (arith, room)) room.1 in
    omega (arith, e, f, n, room)

pub slice_bounds-copy-count : goal.slice_bounds-copy-count
slice_bounds-copy-count c = omega (arith, image_room _ _ _ c.requires)

pub slice_bounds-copy-start : goal.slice_bounds-copy-start
slice_bounds-copy-start c = omega (arith, image_room _ _ _ c.requires)

pub slice_bounds-copy-end : goal.slice_bounds-copy-end
slice_bounds-copy-end c = omega (arith, image_room _ _ _ c.requires)

pub put_tree-requires : goal.put_tree-requires
put_tree-requires c =
    tree_there _ _ _ c.requires _ (behind_pairs c.args.image.now c.args.tree _ _ (image_room _ _ _ c.requires) c.put.ensures.place c.copy.ensures.place)

pub overflow_sub-end : goal.overflow_sub-end
overflow_sub-end c =
    let room = image_room _ _ _ c.requires in
    let q = behind_pairs c.args.image.now c.args.tree _ _ room c.put.ensures.place c.copy.ensures.place in
    let last = tree_last _ _ _ c.requires _ _ _ _ q c.put_tree.ensures.put in
    omega (arith, q, last.0, room)

pub returns : goal.returns
returns c =
    let room = image_room _ _ _ c.requires in
    let q = behind_pairs c.args.image.now c.args.tree _ _ room c.put.ensures.place c.copy.ensures.place in
    let name = c.set32.ensures.name ∙ c.put_tree.ensures.same ∙ c.copy.ensures.name ∙ c.put.ensures.name in
    rw (c.bytes-1.given.1.1 (sym name))
    (image_puts _ c.args.image.now _ c.requires _ _ _ _ _ _ (λ i. omega (arith, c.type_inv.image i))
    (rw c.version_to.ensures at c.put.ensures.bytes) (rw c.put.ensures.place at c.copy.ensures.bytes) (rw q at c.put_tree.ensures.put)
    c.set32.ensures.bytes)
