-- Places in the answers, and big-endian numbers there. Past the end each byte is 0.
use Rattle.std.specs.Prelude.{ℕ, zero, suc, ◌+◌, ◌*◌, min, Bool, true, cond, ◌&&◌, List, [], ◌∷◌, eqb, ltb, get_or}

-- the place n bytes on, or the last number of 64 bits
unfoldable pub onward : ℕ → ℕ → ℕ
onward at n = min (at + n) 18446744073709551615

-- where to go on from `at`: at `next`, or past all answers if that is no step forward
abbrev pub forward_from : ℕ → ℕ → ℕ
forward_from at next = cond (ltb at next) next 18446744073709551615

-- two bytes
unfoldable pub short : List ℕ → ℕ → ℕ
short d at = get_or d at 0 * 256 + get_or d (onward at 1) 0

-- four bytes
unfoldable pub long : List ℕ → ℕ → ℕ
long d at = short d at * 65536 + short d (onward at 2)

-- eight bytes
unfoldable pub eight : List ℕ → ℕ → ℕ
eight d at = long d at * 4294967296 + long d (onward at 4)

-- n values, one every w bytes from `at` on
unfoldable pub listed : {A : Type 0} → (ℕ → A) → ℕ → ℕ → ℕ → List A
listed f w zero at = []
listed f w (suc n) at = f at ∷ listed f w n (onward at w)

-- whether the values from `at` on, one every w bytes, are these
unfoldable pub agree : {A : Type 0} → (A → A → Bool) → (ℕ → A) → ℕ → List A → ℕ → Bool
agree same f w [] at = true
agree same f w (x ∷ xs) at = same x (f at) && agree same f w xs (onward at w)

-- whether the bytes from `at` on are these
abbrev pub has_bytes : List ℕ → List ℕ → ℕ → Bool
has_bytes b d at = agree eqb (λ p. get_or d p 0) 1 b at
