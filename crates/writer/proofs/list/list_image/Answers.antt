-- The comments, then the tree.
use mathlib.Core.Path.{sym, ◌∙◌}
use Rattle.writer.proofs.Listed.{comments_there, tree_there, image_puts}
use Rattle.writer.proofs.list.list_image.Goals as goal

pub list_comments-requires-clause-there : goal.list_comments-requires-clause-there
list_comments-requires-clause-there c = comments_there c.args.image.now _ _ c.requires

pub list_tree-requires : goal.list_tree-requires
list_tree-requires c = tree_there c.args.image.now _ _ _ _ _ c.requires c.list_comments.ensures.put

pub returns : goal.returns
returns c =
    rw (c.bytes-1.given.1.1 (sym (c.list_tree.ensures.same ∙ c.list_comments.ensures.same)))
    (image_puts c.args.image.now _ _ _ _ _ _ _ c.requires c.list_comments.ensures.put c.list_tree.ensures.put)
