-- Request 10 in the ticket's words: which comment lists the strict rule accepts. proofs/Ordered.antt proves the claim.
use Rattle.std.specs.Prelude.{◌≡◌, true, false, Bool, List, ℕ, suc, ◌≤◌, ◌<◌, length, get_or}
use Rattle.image.specs.Read.{Image, got, read_with}
use Rattle.ast.specs.Syntax.{Span}
use Rattle.tree.specs.CommentList.{span, comments_of}

-- comment i of a list
abbrev pub comment_at : List Span → ℕ → Span
comment_at cs i = get_or cs i (span 0 0)

-- "a comment must start at or after the end of the one before"
abbrev pub InOrder : List Span → Type 0
InOrder cs = (i : ℕ) → suc i < length cs → (comment_at cs i).end ≤ (comment_at cs (suc i)).start

-- The strict rule accepts what the earlier one accepts, with the same tree, where the comments are in order, and nothing else; whichever versions
-- may be read.
pub record Strictly (may : ℕ → Bool) (s b : List ℕ) (i : Image) (end : ℕ) : Type 0 where
  pub earlier : read_with may true s b ≡ got i end → read_with may false s b ≡ got i end
  pub in_order : read_with may true s b ≡ got i end → InOrder (comments_of b)
  pub strict : read_with may false s b ≡ got i end → InOrder (comments_of b) → read_with may true s b ≡ got i end

abbrev pub StrictIsInOrder : Type 0
StrictIsInOrder = (may : ℕ → Bool) (s b : List ℕ) (i : Image) (end : ℕ) → Strictly may s b i end
