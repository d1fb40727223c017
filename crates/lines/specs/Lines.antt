-- Numbers in decimal, and the line that the program writes for a refusal: "one line `refused N at P`, both decimal."
use Rattle.std.specs.Prelude.{cond, List, [], ◌∷◌, ◌++◌, ℕ, zero, suc, ◌+◌, ◌/◌, ◌%◌, ltb}
use Rattle.refusals.specs.Refusals.{Refusal}
use Rattle.rows.specs.Ascii.{bytes}

-- a digit as a byte
abbrev pub digit : ℕ → ℕ
digit d = 0x30 + d

-- a number in decimal, where it has k digits at most
unfoldable pub decimal_in : ℕ → ℕ → List ℕ
decimal_in zero n = []
decimal_in (suc k) n = cond (ltb n 10) (digit n ∷ []) (decimal_in k (n / 10) ++ (digit (n % 10) ∷ []))

-- a number of 64 bits has 20 digits at most
abbrev pub decimal : ℕ → List ℕ
decimal n = decimal_in 20 n

-- "one line `refused N at P`, both decimal"
abbrev pub refused_line : Refusal → List ℕ
refused_line r = bytes "refused " ++ decimal r.number ++ bytes " at " ++ decimal r.place ++ bytes "\n"
