-- What the code sees of a list of steps.
use Rattle.std.specs.Prelude.{Bool, true, false, cond, ◌&&◌, List, ℕ, ◌+◌, leb, eqb, length, get_or, Option, None, Some}
use Rattle.image.specs.Grammar.{is_optional, bare, place, complete}
use Rattle.image.specs.Read.{Read, got, bad, bind}
use Rattle.image.specs.Write.{Plain, without}
use Rattle.steps.specs.Writer.{step_from, at_child}

-- n bytes are left at `at`, and the first of them is k
unfoldable pub stands : List ℕ → ℕ → ℕ → ℕ → Bool
stands l at k n = leb (at + n) (length l) && eqb (get_or l at 0) k

-- it was read, and not refused
abbrev pub taken : {A : Type 0} → Read A → Bool
taken (got a end) = true
taken (bad n p) = false

-- one turn of `children_from`: the child at the row's first place, or none where the record is closed
unfoldable pub child_from : (ℕ → ℕ → Read Plain) → List ℕ → ℕ → ℕ → Read (Option Plain)
child_from one l row at =
    bind (step_from l at)
    (λ x past.
    at_child
    (cond (complete row) (got None past) (bad 16 at))
    (cond (is_optional (place row)) (got (Some without) past) (bad 16 at))
    (cond (eqb row 0) (bad 16 at) (bind (one (bare (place row)) at) (λ y behind. got (Some y) behind)))
    (bad 16 at)
    x)
