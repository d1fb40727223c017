-- The bytes that a tree is written as.
use Rattle.std.specs.Prelude.{List, [], ◌∷◌, ◌++◌, ℕ, ◌+◌, ◌/◌, ◌%◌, ◌<◌, length, get_or}
use Rattle.image.specs.Bytes.{part}
use Rattle.image.specs.Read.{Tree, Trees, absent, node, nil, ◌▸◌}

-- a record by what it says, without offsets: kind, span start and end, payload, children
mutual
  pub data Plain : Type 0 where
    without : Plain
    plainly : ℕ → ℕ → ℕ → List ℕ → Plains → Plain

  pub data Plains : Type 0 where
    done : Plains
    ◌next◌ : Plain → Plains → Plains

infixr 40 ◌next◌
-- the elements are bytes
abbrev pub Bytes : List ℕ → Type 0
Bytes l = (i : ℕ) → get_or l i 0 < 256

-- a number below 2^16 in two bytes, big-endian
abbrev pub bytes2 : ℕ → List ℕ
bytes2 n = (n / 256) ∷ (n % 256) ∷ []

-- a number below 2^32 in four bytes, big-endian
abbrev pub bytes4 : ℕ → List ℕ
bytes4 n = (n / 16777216) ∷ (n / 65536 % 256) ∷ (n / 256 % 256) ∷ (n % 256) ∷ []

-- what follows a record's length
abbrev pub content : ℕ → ℕ → ℕ → List ℕ → List ℕ → List ℕ
content kind from to payload children = (kind ∷ []) ++ bytes4 from ++ bytes4 to ++ payload ++ children

-- its length, then it
abbrev pub framed : List ℕ → List ℕ
framed x = bytes4 (length x) ++ x

-- a record, and records one after the other; length 0 alone for an absent child
unfoldable mutual
  pub written : Plain → List ℕ
  written without = bytes4 0
  written (plainly k from to payload xs) = framed (content k from to payload (writtens xs))

  pub writtens : Plains → List ℕ
  writtens done = []
  writtens (x next xs) = written x ++ writtens xs

-- a tree of the image b, without its offsets
unfoldable mutual
  pub plain : List ℕ → Tree → Plain
  plain b absent = without
  plain b (node h ts) = plainly h.kind h.from h.to (part (h.at + 13) h.first b) (plains b ts)

  pub plains : List ℕ → Trees → Plains
  plains b nil = done
  plains b (t ▸ ts) = plain b t next plains b ts
