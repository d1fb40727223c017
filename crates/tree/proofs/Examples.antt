-- Images as syntax trees: antt computes each from its bytes.
-- Assumes nothing.
use mathlib.Core.Path.{◌≡◌, refl}
use mathlib.Core.List.{List, [], ◌∷◌}
use Rattle.std.specs.Prelude.{Option, None, Some}
use Prim.Native.Nat.{ℕ, ◌+◌}
use Rattle.text.specs.Utf8.{within, row_in, followed, sequence, run, prefix, well_formed, boundary}
use Rattle.text.specs.Newlines.{is_range}
use Rattle.image.specs.Bytes.{be16, be32}
use Rattle.image.specs.Grammar.{row_of, row_under_of, kind_fits_of, payload_fits, first_child}
use Rattle.image.specs.Read.{Read, got, bad, Image, header, comment_fits, comments_from, comments, shape, opens, children_at, skips, record_at, tree_at}
use Rattle.image.specs.Read.{read_tree, read_image, source_fits, read_with, width_bytes, stored_width, read_all}
use Rattle.ast.specs.Syntax.{Span, Ident, TypeExpr, type, type_path, no_args, Expr, expr, literal, const, SyntaxTree}
use Rattle.tree.specs.Records.{views, syntax_tree}

-- what is read of a source and an image: the number of comments, the tree's offset, the tree
abbrev Found : Type 0
Found = ℕ × ℕ × SyntaxTree

abbrev found : List ℕ → Read Image → Option Found
found b (got i q) = Some (i.comments, i.at, syntax_tree b i.tree)
found b (bad n p) = None

-- ---- the parts of the trees below
span : ℕ → ℕ → Span
span start end = record { start = start; end = end }

-- a name of n letters at `at` in the source, whose bytes start at `start` in the image
name : ℕ → ℕ → ℕ → Ident
name n at start = record { span = span at (at + n); width = n; start = start; size = n }

-- `u32` at `at`
u32 : ℕ → ℕ → TypeExpr
u32 at start = type (span at (at + 3)) (type_path (record { first = name 3 at start; more = [] }) no_args)

-- a literal of one digit at `at`
digit : ℕ → Expr
digit at = expr (span at (at + 1)) (literal (span at (at + 1)) 0)

-- ---- `const A: u32 = 1;`
one_source : List ℕ
one_source =
    99 ∷ 111 ∷ 110 ∷ 115 ∷ 116 ∷ 32 ∷ 65 ∷ 58 ∷ 32 ∷ 117 ∷ 51 ∷ 50 ∷ 32 ∷ 61 ∷ 32 ∷ 49 ∷ 59 ∷ []

one_image : List ℕ
one_image =
    1 ∷ 0 ∷ 0 ∷ 0 ∷ 123 ∷ 0 ∷ 0 ∷ 0 ∷ 0 ∷ 0 ∷ 117 ∷ 1 ∷ 0 ∷ 0 ∷ 0 ∷ 0 ∷ 0 ∷ 0 ∷ 0 ∷ 0 ∷ 0 ∷ 0 ∷ 0 ∷ 0 ∷ 0 ∷ 0 ∷ 0 ∷ 100 ∷ 11 ∷ 0 ∷ 0 ∷ 0 ∷
    0 ∷ 0 ∷ 0 ∷ 0 ∷ 0 ∷ 0 ∷ 0 ∷ 0 ∷ 12 ∷ 2 ∷ 0 ∷ 0 ∷ 0 ∷ 6 ∷ 0 ∷ 0 ∷ 0 ∷ 7 ∷ 0 ∷ 1 ∷ 65 ∷ 0 ∷ 0 ∷ 0 ∷ 44 ∷ 41 ∷ 0 ∷ 0 ∷ 0 ∷ 9 ∷ 0 ∷ 0 ∷ 0 ∷
    12 ∷ 0 ∷ 0 ∷ 0 ∷ 27 ∷ 4 ∷ 0 ∷ 0 ∷ 0 ∷ 9 ∷ 0 ∷ 0 ∷ 0 ∷ 12 ∷ 0 ∷ 0 ∷ 0 ∷ 14 ∷ 2 ∷ 0 ∷ 0 ∷ 0 ∷ 9 ∷ 0 ∷ 0 ∷ 0 ∷ 12 ∷ 0 ∷ 3 ∷ 117 ∷ 51 ∷
    50 ∷ 0 ∷ 0 ∷ 0 ∷ 0 ∷ 0 ∷ 0 ∷ 0 ∷ 23 ∷ 51 ∷ 0 ∷ 0 ∷ 0 ∷ 15 ∷ 0 ∷ 0 ∷ 0 ∷ 16 ∷ 0 ∷ 0 ∷ 0 ∷ 10 ∷ 87 ∷ 0 ∷ 0 ∷ 0 ∷ 15 ∷ 0 ∷ 0 ∷ 0 ∷ 16 ∷
    0 ∷ []

-- ---- `const A: u32 = 1; # ok`, a newline, and `const B: u32 = 2;`: two declarations and a comment
two_source : List ℕ
two_source =
    99 ∷ 111 ∷ 110 ∷ 115 ∷ 116 ∷ 32 ∷ 65 ∷ 58 ∷ 32 ∷ 117 ∷ 51 ∷ 50 ∷ 32 ∷ 61 ∷ 32 ∷ 49 ∷ 59 ∷ 32 ∷ 35 ∷ 32 ∷ 111 ∷ 107 ∷ 10 ∷ 99 ∷ 111 ∷
    110 ∷ 115 ∷ 116 ∷ 32 ∷ 66 ∷ 58 ∷ 32 ∷ 117 ∷ 51 ∷ 50 ∷ 32 ∷ 61 ∷ 32 ∷ 50 ∷ 59 ∷ []

two_image : List ℕ
two_image =
    1 ∷ 0 ∷ 0 ∷ 0 ∷ 235 ∷ 0 ∷ 1 ∷ 0 ∷ 0 ∷ 0 ∷ 18 ∷ 0 ∷ 0 ∷ 0 ∷ 22 ∷ 0 ∷ 0 ∷ 0 ∷ 221 ∷ 1 ∷ 0 ∷ 0 ∷ 0 ∷ 0 ∷ 0 ∷ 0 ∷ 0 ∷ 0 ∷ 0 ∷ 0 ∷ 0 ∷ 0 ∷
    0 ∷ 0 ∷ 0 ∷ 100 ∷ 11 ∷ 0 ∷ 0 ∷ 0 ∷ 0 ∷ 0 ∷ 0 ∷ 0 ∷ 0 ∷ 0 ∷ 0 ∷ 0 ∷ 12 ∷ 2 ∷ 0 ∷ 0 ∷ 0 ∷ 6 ∷ 0 ∷ 0 ∷ 0 ∷ 7 ∷ 0 ∷ 1 ∷ 65 ∷ 0 ∷ 0 ∷ 0 ∷
    44 ∷ 41 ∷ 0 ∷ 0 ∷ 0 ∷ 9 ∷ 0 ∷ 0 ∷ 0 ∷ 12 ∷ 0 ∷ 0 ∷ 0 ∷ 27 ∷ 4 ∷ 0 ∷ 0 ∷ 0 ∷ 9 ∷ 0 ∷ 0 ∷ 0 ∷ 12 ∷ 0 ∷ 0 ∷ 0 ∷ 14 ∷ 2 ∷ 0 ∷ 0 ∷ 0 ∷ 9 ∷
    0 ∷ 0 ∷ 0 ∷ 12 ∷ 0 ∷ 3 ∷ 117 ∷ 51 ∷ 50 ∷ 0 ∷ 0 ∷ 0 ∷ 0 ∷ 0 ∷ 0 ∷ 0 ∷ 23 ∷ 51 ∷ 0 ∷ 0 ∷ 0 ∷ 15 ∷ 0 ∷ 0 ∷ 0 ∷ 16 ∷ 0 ∷ 0 ∷ 0 ∷ 10 ∷ 87 ∷
    0 ∷ 0 ∷ 0 ∷ 15 ∷ 0 ∷ 0 ∷ 0 ∷ 16 ∷ 0 ∷ 0 ∷ 0 ∷ 0 ∷ 100 ∷ 11 ∷ 0 ∷ 0 ∷ 0 ∷ 0 ∷ 0 ∷ 0 ∷ 0 ∷ 0 ∷ 0 ∷ 0 ∷ 0 ∷ 12 ∷ 2 ∷ 0 ∷ 0 ∷ 0 ∷ 29 ∷ 0 ∷
    0 ∷ 0 ∷ 30 ∷ 0 ∷ 1 ∷ 66 ∷ 0 ∷ 0 ∷ 0 ∷ 44 ∷ 41 ∷ 0 ∷ 0 ∷ 0 ∷ 32 ∷ 0 ∷ 0 ∷ 0 ∷ 35 ∷ 0 ∷ 0 ∷ 0 ∷ 27 ∷ 4 ∷ 0 ∷ 0 ∷ 0 ∷ 32 ∷ 0 ∷ 0 ∷ 0 ∷
    35 ∷ 0 ∷ 0 ∷ 0 ∷ 14 ∷ 2 ∷ 0 ∷ 0 ∷ 0 ∷ 32 ∷ 0 ∷ 0 ∷ 0 ∷ 35 ∷ 0 ∷ 3 ∷ 117 ∷ 51 ∷ 50 ∷ 0 ∷ 0 ∷ 0 ∷ 0 ∷ 0 ∷ 0 ∷ 0 ∷ 23 ∷ 51 ∷ 0 ∷ 0 ∷ 0 ∷
    38 ∷ 0 ∷ 0 ∷ 0 ∷ 39 ∷ 0 ∷ 0 ∷ 0 ∷ 10 ∷ 87 ∷ 0 ∷ 0 ∷ 0 ∷ 38 ∷ 0 ∷ 0 ∷ 0 ∷ 39 ∷ 0 ∷ []

one_found : found one_image (read_all one_source one_image)
    ≡ Some (0, 7, record { shebang = None; declarations = const (name 1 6 52) (u32 9 94) (digit 15) ∷ [] })
unfolding one_source one_image span name u32 digit syntax_tree views
    read_with width_bytes stored_width source_fits well_formed prefix run
    read_image header comments comments_from comment_fits read_tree tree_at record_at opens
    shape kind_fits_of payload_fits
    first_child row_under_of row_of children_at skips be16 be32 is_range boundary within sequence followed row_in
one_found = refl

two_found : found two_image (read_all two_source two_image)
    ≡ Some (
      1,
      15,
      record { shebang = None; declarations = const (name 1 6 60) (u32 9 102) (digit 15) ∷ const (name 1 29 164) (u32 32 206) (digit 38) ∷ [] },
    )
unfolding two_source two_image span name u32 digit syntax_tree views
    read_with width_bytes stored_width source_fits well_formed prefix run
    read_image header comments comments_from comment_fits read_tree tree_at record_at opens
    shape kind_fits_of payload_fits
    first_child row_under_of row_of children_at skips be16 be32 is_range boundary within sequence followed row_in
two_found = refl
