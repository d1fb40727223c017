-- The greatest value that `column` was set to.
-- Assumes nothing.
use mathlib.Core.Path.{◌≡◌, refl}
use Prim.Native.Nat.{ℕ, max}
use native.Mathlib.Omega.{arith}
use Rattle.renderer_rules.specs.Renderer.{push_str, at_column, new_line, margin, comment, indent_more, indent_less, render_node}
use Rattle.renderer_rules.specs.Widest.{CommentCounts}

-- of three numbers the greatest, however they are compared
pub max_of_three : (a b c : ℕ) → max (max a b) c ≡ max a (max b c)
max_of_three a b c = omega arith

pub comment_counts : CommentCounts
unfolding render_node indent_more indent_less new_line comment margin at_column push_str
comment_counts p t marks = refl
