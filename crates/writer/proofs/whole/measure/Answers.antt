-- The comments, then the tree, over an output of one byte.
use mathlib.Core.Path.{◌≡◌, refl, sym, ap, ◌∙◌}
use Prim.Native.Nat.{◌+◌}
use native.Mathlib.Omega.{arith}
use lib.ListN.{length}
use Rattle.image.specs.Write.{written}
use Rattle.image.specs.Kinds.{TREE}
use Rattle.image.specs.Limits.{MAX_COMMENTS, MAX_RECORDS_DEEP}
use Rattle.tree.specs.Contents.{pair_bytes}
use Rattle.steps.specs.Writer.{comments_from, record_from}
use Rattle.tree.proofs.WholeFits.{pairs_size}
use Rattle.writer.specs.Wrote.{measured}
use Rattle.writer.proofs.Commented.{comments_got}
use Rattle.refusals.proofs.Passed.{passed}
use Rattle.writer.proofs.Runs.{read_next, read_fault}
use Rattle.writer.proofs.Imaged.{tree_size, contents_pairs, contents_tree, contents_spare, is_measured}
use Rattle.writer.proofs.whole.measure.Goals as goal

pub returns-in_err-tree : goal.returns-in_err-tree
returns-in_err-tree c =
    passed _ _ _ c.from_residual.ensures.1
    ∙ sym (ap measured (contents_pairs c.args.steps.now _ _
    (read_fault pair_bytes 0 _ (comments_from c.args.steps.now MAX_COMMENTS 0 0) _ _ _ c.put_comments.ensures.put c.in_err-tree.was)))

pub invariant_of-root : goal.invariant_of-root
invariant_of-root c =
    let a = read_next pair_bytes 0 _ (comments_from c.args.steps.now MAX_COMMENTS 0 0) _ _ _ c.put_comments.ensures.put c.in_ok-tree.was in
    record {
      inside = (comments_got c.args.steps.now MAX_COMMENTS 0 0 a.what _ (omega arith) a.reads).within;
      bytes = λ i. omega (arith, c.type_inv.steps i);
    }

pub put_record-requires : goal.put_record-requires
put_record-requires c =
    let a = read_next pair_bytes 0 _ (comments_from c.args.steps.now MAX_COMMENTS 0 0) _ _ _ c.put_comments.ensures.put c.in_ok-tree.was in
    let k = comments_got c.args.steps.now MAX_COMMENTS 0 0 a.what _ (omega arith) a.reads in
    omega (arith, a.place, pairs_size a.what, k.ends)

pub returns-in_err-end : goal.returns-in_err-end
returns-in_err-end c =
    let a = read_next pair_bytes 0 _ (comments_from c.args.steps.now MAX_COMMENTS 0 0) _ _ _ c.put_comments.ensures.put c.in_ok-tree.was in
    passed _ _ _ c.from_residual-in_err-end.ensures.1
    ∙ sym (ap measured (contents_tree c.args.steps.now a.what _ _ _ a.reads (read_fault written _ _
    (record_from c.args.steps.now MAX_RECORDS_DEEP TREE c.in_ok-tree.tree) _ _ _ c.put_record.ensures.put c.in_err-end.was)))

pub returns-then-end-steps : goal.returns-then-end-steps
returns-then-end-steps c =
    let a = read_next pair_bytes 0 _ (comments_from c.args.steps.now MAX_COMMENTS 0 0) _ _ _ c.put_comments.ensures.put c.in_ok-tree.was in
    let b = read_next written _ _ (record_from c.args.steps.now MAX_RECORDS_DEEP TREE c.in_ok-tree.tree) _ _ _ c.put_record.ensures.put c.in_ok-end.was in
    rw c.at.ensures (sym (ap measured (contents_spare c.args.steps.now a.what _ b.what _ a.reads b.reads c.if-end-steps.true)))

pub overflow_add-result : goal.overflow_add-result
overflow_add-result c =
    let a = read_next pair_bytes 0 _ (comments_from c.args.steps.now MAX_COMMENTS 0 0) _ _ _ c.put_comments.ensures.put c.in_ok-tree.was in
    let k = comments_got c.args.steps.now MAX_COMMENTS 0 0 a.what _ (omega arith) a.reads in
    let b = read_next written _ _ (record_from c.args.steps.now MAX_RECORDS_DEEP TREE c.in_ok-tree.tree) _ _ _ c.put_record.ensures.put c.in_ok-end.was in
    let s = tree_size c.args.steps.now _ b.what _ b.reads in
    omega (arith, k.ends, k.within, pairs_size a.what, a.place, b.place, s.0, s.1.0, s.1.1)

pub returns : goal.returns
returns c =
    let a = read_next pair_bytes 0 _ (comments_from c.args.steps.now MAX_COMMENTS 0 0) _ _ _ c.put_comments.ensures.put c.in_ok-tree.was in
    let b = read_next written _ _ (record_from c.args.steps.now MAX_RECORDS_DEEP TREE c.in_ok-tree.tree) _ _ _ c.put_record.ensures.put c.in_ok-end.was in
    let all : 7 + c.put_record.new.out.pos ≡ 7 + length (pair_bytes a.what) + length (written b.what) = omega (arith, a.place, b.place) in
    rw all (is_measured c.args.steps.now a.what _ b.what _ _ _ a.reads b.reads c.if-end-steps.false refl refl)
