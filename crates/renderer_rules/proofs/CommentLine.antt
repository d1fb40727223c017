-- Where `comment` puts a text.
-- Assumes nothing.
use borrow.Author.Tests.{lt-ltb, le-ltb}
use Rattle.renderer_rules.specs.Renderer.{push_str, at_column, margin, comment}
use Rattle.renderer_rules.specs.CommentLine.{CommentLine}

pub comment_line : CommentLine
unfolding comment margin push_str at_column
comment_line =
    record {
      at_start = λ t marks p h. rw (le-ltb 0 p.column.0 h);
      behind = λ t marks p h. rw (lt-ltb 0 p.column.0 h);
    }
