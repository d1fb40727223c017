-- An output of which the first `limit` bytes may be written: with limit 0 nothing is, and the text is only counted.
use Rattle.std.specs.Prelude.{ℕ, ◌+◌, cond, List, [], ◌∷◌, set, ltb}

-- the output with a text written from `at` on
unfoldable pub written_over : ℕ → List ℕ → ℕ → List ℕ → List ℕ
written_over limit out at [] = out
written_over limit out at (b ∷ t) = written_over limit (cond (ltb at limit) (set out at b) out) (at + 1) t
