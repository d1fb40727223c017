-- Sums in `Str`s: as many rows as before, as deep, and the same where each keeps its width; a sum fits where the width and the bytes fit.
-- Assumes nothing.
use mathlib.Core.Path.{◌≡◌, refl, ap, ap₂}
use Prim.Native.Nat.{ℕ, ◌+◌, ◌-◌, ◌<◌, max}
use native.Mathlib.Omega.{arith}
use mathlib.Core.List.{List}
use lib.ListN.{length-take}
use Rattle.rows.specs.Node.{Text, Node, Nodes, group, indent, indent_next, wrap_parent, comment, str, ascii, line, empty_line, line_or_space, if_wrap, call}
use Rattle.rows.specs.Node.{none, ◌then◌}
use Rattle.rows.specs.Limits.{CELL_LIMIT}
use Rattle.rows.specs.Rows.{size, sizes, depth, depths}
use Rattle.renderer_rules.specs.Page.{text_bytes}
use Rattle.widths.specs.Rules.{columns_by, edition_of}
use Rattle.widths.proofs.ByRule.{by_fits}
use Rattle.node_widths.specs.Summed.{summed, summed_all, str_columns, SuppliedStay}

mutual
  unfolding summed size

  pub size_same : (f : ℕ → Text → ℕ) (n : Node) → size (summed f n) ≡ size n
  size_same f (group n ns) = ap (λ (k : ℕ). 1 + k) (sizes_same f ns)
  size_same f (indent ns) = ap (λ (k : ℕ). 1 + k) (sizes_same f ns)
  size_same f (indent_next ns) = ap (λ (k : ℕ). 1 + k) (sizes_same f ns)
  size_same f wrap_parent = refl
  size_same f (comment t) = refl
  size_same f (str w t) = refl
  size_same f (ascii t) = refl
  size_same f line = refl
  size_same f empty_line = refl
  size_same f line_or_space = refl
  size_same f (if_wrap n a b) = ap₂ (λ (x y : ℕ). 1 + (x + y)) (size_same f a) (size_same f b)
  size_same f (call n e k a) = ap₂ (λ (x y : ℕ). 1 + (x + y)) (sizes_same f e) (sizes_same f a)

  pub sizes_same : (f : ℕ → Text → ℕ) (ns : Nodes) → sizes (summed_all f ns) ≡ sizes ns
  sizes_same f none = refl
  sizes_same f (n then ns) = ap₂ ◌+◌ (size_same f n) (sizes_same f ns)

mutual
  unfolding summed depth

  depth_same : (f : ℕ → Text → ℕ) (n : Node) → depth (summed f n) ≡ depth n
  depth_same f (group n ns) = ap (λ (k : ℕ). 1 + k) (depths_same f ns)
  depth_same f (indent ns) = ap (λ (k : ℕ). 1 + k) (depths_same f ns)
  depth_same f (indent_next ns) = ap (λ (k : ℕ). 1 + k) (depths_same f ns)
  depth_same f wrap_parent = refl
  depth_same f (comment t) = refl
  depth_same f (str w t) = refl
  depth_same f (ascii t) = refl
  depth_same f line = refl
  depth_same f empty_line = refl
  depth_same f line_or_space = refl
  depth_same f (if_wrap n a b) = ap₂ (λ (x y : ℕ). 1 + max x y) (depth_same f a) (depth_same f b)
  depth_same f (call n e k a) = ap₂ (λ (x y : ℕ). 1 + max x y) (depths_same f e) (depths_same f a)

  pub depths_same : (f : ℕ → Text → ℕ) (ns : Nodes) → depths (summed_all f ns) ≡ depths ns
  depths_same f none = refl
  depths_same f (n then ns) = ap₂ max (depth_same f n) (depths_same f ns)

abbrev pub kept : ℕ → Text → ℕ
kept w t = w

mutual
  unfolding summed

  keeps : (n : Node) → summed kept n ≡ n
  keeps (group n ns) = ap (group n) (keeps_all ns)
  keeps (indent ns) = ap indent (keeps_all ns)
  keeps (indent_next ns) = ap indent_next (keeps_all ns)
  keeps wrap_parent = refl
  keeps (comment t) = refl
  keeps (str w t) = refl
  keeps (ascii t) = refl
  keeps line = refl
  keeps empty_line = refl
  keeps line_or_space = refl
  keeps (if_wrap n a b) = ap₂ (if_wrap n) (keeps a) (keeps b)
  keeps (call n e k a) = ap₂ (λ (x y : Nodes). call n x k y) (keeps_all e) (keeps_all a)

  pub keeps_all : (ns : Nodes) → summed_all kept ns ≡ ns
  keeps_all none = refl
  keeps_all (n then ns) = ap₂ ◌then◌ (keeps n) (keeps_all ns)

pub supplied_stay : SuppliedStay
unfolding str_columns columns_by edition_of
supplied_stay source image ns = keeps_all ns

-- ---- a sum fits a row's place
pub sum_fits : (rule : ℕ) (source image : List ℕ) (w : ℕ) (t : Text) → w < CELL_LIMIT → t.size < CELL_LIMIT → str_columns rule source image w t < CELL_LIMIT
unfolding str_columns text_bytes
sum_fits rule source image w t a b =
    let most = by_fits rule w (text_bytes source image t) (CELL_LIMIT - 1) (omega arith) (simp length-take (omega arith)) in
    omega arith
