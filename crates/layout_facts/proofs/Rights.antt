-- The rows of nodes whose texts lie inside their origins are right, apart from how they nest.
-- Assumes nothing.
use Prim.Native.Nat.{ℕ, ◌+◌}
use mathlib.Core.Path.{◌≡◌, refl}
use mathlib.Core.List.{List, ◌++◌, append-nil, append_assoc}
use lib.ListN.{length}
use Rattle.rows.specs.Node as node
use Rattle.rows.specs.Node.{Text, Node, Nodes}
use Rattle.rows.specs.Rows.{size, sizes, rows_of, rows}
use Rattle.node_widths.specs.Summed.{summed, summed_all}
use Rattle.acts.specs.Act.{Given}
use Rattle.layout_facts.specs.Sound.{TextsOf, TextsIn}
use Rattle.layout_facts.specs.Right.{RightRow, group, indent, indent_next, wrap_parent, comment, str, ascii, line, empty_line, line_or_space, if_wrap, call}
use Rattle.layout_facts.specs.Right.{RightRows, none, more}

right_append : {g : Given} {xs ys : List ℕ} → RightRows g xs → RightRows g ys → RightRows g (xs ++ ys)
right_append none q = q
right_append {ys = ys} (more {x} {xs} p ps) q = rw (append_assoc x xs ys) (more p (right_append ps q))

right_one : {g : Given} {x : List ℕ} → RightRow g x → RightRows g x
right_one {x = x} p = rw append-nil at (more p none)

-- whatever their `Str`s measure
module _ (f : ℕ → Text → ℕ) where
  mutual
    unfolding rows_of TextsOf summed

    right_node : (n : Node) (g : Given) (r : ℕ) → TextsOf g n → RightRows g (rows_of (summed f n) r)
    right_node (node.group k ns) g r t = more (group k _) (right_rows ns g (r + 1) t)
    right_node (node.indent ns) g r t = more (indent _) (right_rows ns g (r + 1) t)
    right_node (node.indent_next ns) g r t = more (indent_next _) (right_rows ns g (r + 1) t)
    right_node node.wrap_parent g r t = right_one (wrap_parent (r + 1))
    right_node (node.comment x) g r t = right_one (comment (r + 1) x t)
    right_node (node.str w x) g r t = right_one (str (r + 1) x (f w x) t.0)
    right_node (node.ascii x) g r t = right_one (ascii (r + 1) x t)
    right_node node.line g r t = right_one (line (r + 1))
    right_node node.empty_line g r t = right_one (empty_line (r + 1))
    right_node node.line_or_space g r t = right_one (line_or_space (r + 1))
    right_node (node.if_wrap n a b) g r t =
        more (if_wrap n _ _) (right_append (right_node a g (r + 1) t.0) (right_node b g (r + (1 + size (summed f a))) t.1))
    right_node (node.call n e k a) g r t =
        more (call n k _ _) (right_append (right_rows e g (r + 1) t.0) (right_rows a g (r + (1 + sizes (summed_all f e))) t.1))

    pub right_rows : (ns : Nodes) (g : Given) (r : ℕ) → TextsIn g ns → RightRows g (rows (summed_all f ns) r)
    right_rows node.none g r t = none
    right_rows (node.◌then◌ n ns) g r t = right_append (right_node n g r t.0) (right_rows ns g (r + size (summed f n)) t.1)

-- ---- one of them
pub right_long : {g : Given} {x : List ℕ} → RightRow g x → length x ≡ 9
right_long (group n after) = refl
right_long (indent after) = refl
right_long (indent_next after) = refl
right_long (wrap_parent after) = refl
right_long (comment after t i) = refl
right_long (str after t w i) = refl
right_long (ascii after t i) = refl
right_long (line after) = refl
right_long (empty_line after) = refl
right_long (line_or_space after) = refl
right_long (if_wrap n second after) = refl
right_long (call n k second after) = refl
