-- Bytes of an image: its numbers, all big-endian, and its parts.
use Rattle.std.specs.Prelude.{◌≡◌, List, ℕ, ◌+◌, ◌*◌, ◌-◌, ◌^◌, ◌<◌, get_or, take, drop}

-- the number in the two bytes at `at`
unfoldable pub be16 : List ℕ → ℕ → ℕ
be16 b at = get_or b at 0 * 256 + get_or b (at + 1) 0

-- the number in the four bytes at `at`
unfoldable pub be32 : List ℕ → ℕ → ℕ
be32 b at = get_or b at 0 * 16777216 + get_or b (at + 1) 0 * 65536 + get_or b (at + 2) 0 * 256 + get_or b (at + 3) 0

-- the bytes from x up to y
abbrev pub part : ℕ → ℕ → List ℕ → List ℕ
part x y b = take (y - x) (drop x b)

-- what `num16` and `num32` promise of r: it is the number at `at`, and no larger than its bytes can say
pub record Is16 (b : List ℕ) (at r : ℕ) : Type 0 where
  pub same : r ≡ be16 b at
  pub small : r < 2 ^ 16

pub record Is32 (b : List ℕ) (at r : ℕ) : Type 0 where
  pub same : r ≡ be32 b at
  pub small : r < 2 ^ 32
