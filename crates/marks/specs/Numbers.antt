-- The numbers of a row as a list.
use Rattle.std.specs.Prelude.{ℕ, List, [], ◌∷◌}
use Rattle.marks.specs.declared.numbers.Numbers.{Numbers}
use Rattle.marks.specs.declared.numbers.Numbers.TheVariants as numbers

abbrev pub listed : Numbers → List ℕ
listed numbers.None = []
listed (numbers.One n) = n ∷ []
listed (numbers.Two n k) = n ∷ k ∷ []
