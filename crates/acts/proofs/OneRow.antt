-- A leaf has one row.
-- Assumes nothing.
use mathlib.Core.Path.{◌≡◌, refl}
use Rattle.rows.specs.Rows.{size}
use Rattle.acts.specs.Does.{node_of}
use Rattle.acts.specs.declared.leaves.Leaf.{Leaf}
use Rattle.acts.specs.declared.leaves.Leaf.TheVariants as leaves

pub one_row : (leaf : Leaf) → size (node_of leaf) ≡ 1
unfolding size
one_row leaves.WrapParent = refl
one_row (leaves.Comment start n) = refl
one_row (leaves.Str start n width) = refl
one_row (leaves.Ascii start n) = refl
one_row (leaves.Word w) = refl
one_row leaves.Line = refl
one_row leaves.EmptyLine = refl
one_row leaves.LineOrSpace = refl
