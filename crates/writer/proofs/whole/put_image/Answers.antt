-- The parts of the image, one after the other; the tree goes to the rest of the output, which is lent.
use mathlib.Core.Path.{refl}
use Prim.Native.Nat.{◌+◌, ◌*◌, ◌/◌}
use native.Mathlib.Omega.{arith}
use Rattle.image.specs.Write.{written}
use Rattle.tree.proofs.WholeFits.{pairs_size}
use Rattle.writer.proofs.Imaged.{parts, lent_part, whole_put}
use Rattle.writer.proofs.whole.put_image.Goals as goal

pub put_front-requires : goal.put_front-requires
put_front-requires c =
    let k = parts c.args.steps.now _ _ c.requires.is in
    (omega (arith, k.size), omega (arith, k.count, k.few))

pub slice_bounds-put_tree-count : goal.slice_bounds-put_tree-count
slice_bounds-put_tree-count c =
    let k = parts c.args.steps.now _ _ c.requires.is in
    omega (arith, k.size, k.count, c.requires.fits, c.put_front.auto.bytes)

pub slice_bounds-put_tree-start : goal.slice_bounds-put_tree-start
slice_bounds-put_tree-start c =
    let k = parts c.args.steps.now _ _ c.requires.is in
    omega (arith, k.size, k.count, c.requires.fits, c.put_front.auto.bytes)

pub put_tree-requires : goal.put_tree-requires
put_tree-requires c =
    let k = parts c.args.steps.now _ _ c.requires.is in
    k.inside

pub returns : goal.returns
returns c =
    let k = parts c.args.steps.now _ _ c.requires.is in
    whole_put c.args.steps.now _ _ k _ _ _ _ c.put_front.new.bytes _ c.requires.small refl refl refl
    (c.put_front.ensures k.comments _ k.pairs (omega (arith, k.size, pairs_size k.comments, c.requires.small)))
    (lent_part (7 + 8 * (c.args.at / 9)) c.put_front.new.bytes c.put_tree.new.bytes
    (written k.tree) (omega (arith, k.size, k.count, c.requires.fits, c.put_front.auto.bytes))
    (c.put_tree.ensures k.tree _ k.reads (omega (arith, k.size, c.requires.small))))
