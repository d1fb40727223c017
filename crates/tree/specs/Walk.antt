-- Where each declaration of an image starts.
use Rattle.std.specs.Prelude.{ℕ, zero, suc, List, [], ◌∷◌}
use Rattle.image.specs.Read.{stop_at}
use Rattle.ast.specs.Syntax.{Declaration}

-- where declaration k of those from `at` on starts; past the last, where they end
unfoldable pub walked : List ℕ → List Declaration → ℕ → ℕ → ℕ
walked b ds zero at = at
walked b [] (suc k) at = at
walked b (d ∷ ds) (suc k) at = walked b ds k (stop_at b at)
