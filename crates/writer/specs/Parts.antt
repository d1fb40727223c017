-- The parts of the image of a list that was measured.
use Rattle.std.specs.Prelude.{◌≡◌, List, [], ◌∷◌, ℕ, ◌+◌, ◌-◌, ◌%◌, ◌<◌, length}
use Rattle.std.proofs.lemmas.List.Edits.{sets}
use Rattle.image.specs.Kinds.{TREE}
use Rattle.image.specs.Limits.{MAX_COMMENTS, MAX_RECORDS_DEEP}
use Rattle.image.specs.Read.{got}
use Rattle.image.specs.Write.{Plain, bytes4, written, bytes2}
use Rattle.ast.specs.Syntax.{Span}
use Rattle.tree.specs.Contents.{pair_bytes}
use Rattle.steps.specs.Writer.{comments_from, record_from}

-- the tree, whose steps start at `at`
abbrev pub TreePut : List ℕ → ℕ → List ℕ → List ℕ → Type 0
TreePut l at out o =
    (t : Plain) (end : ℕ) → record_from l MAX_RECORDS_DEEP TREE at ≡ got t end → length (written t) < 4294967296 → o ≡ sets out 0 (written t)

-- version 1, the length of what follows it, the number of comments and the comments
abbrev pub FrontPut : List ℕ → ℕ → ℕ → List ℕ → List ℕ → Type 0
FrontPut l n bytes out o =
    (cs : List Span) (end : ℕ) → comments_from l MAX_COMMENTS 0 0 ≡ got cs end → 7 + length (pair_bytes cs) < 4294967296
    → o ≡ sets (sets (sets (sets out 0 (1 ∷ [])) 1 (bytes4 ((bytes - 5) % 4294967296))) 5 (bytes2 n)) 7 (pair_bytes cs)
