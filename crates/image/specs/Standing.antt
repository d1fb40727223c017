-- A tree that stands at an offset of an image.
use Rattle.std.specs.Prelude.{◌≡◌, List, ℕ, ◌+◌, ◌≤◌, length}
use Rattle.image.specs.Bytes.{be32}
use Rattle.image.specs.Kinds.{TEXT}
use Rattle.image.specs.Read.{Head, head_at, stop_at, kind_at, Tree, Trees, absent, node, nil, ◌▸◌}

-- length 0 alone
pub record Gap (b : List ℕ) (at end : ℕ) : Type 0 where
  pub empty : be32 b at ≡ 0
  pub inside : at + 4 ≤ length b
  pub ends : end ≡ stop_at b at

-- a record with its payload; a text's width has v bytes
pub record Whole (b : List ℕ) (v at : ℕ) : Type 0 where
  pub long : 9 ≤ be32 b at
  pub inside : stop_at b at ≤ length b
  pub payload : (head_at b at).first ≤ stop_at b at
  pub width : kind_at b at ≡ TEXT → at + 13 + v ≤ stop_at b at

pub record Stood (b : List ℕ) (v : ℕ) (h : Head) (at end : ℕ) : Type 0 where
  pub is : h ≡ head_at b at
  pub whole : Whole b v at
  pub ends : end ≡ stop_at b at

-- the tree, and trees one after the other
unfoldable mutual
  pub Stands : List ℕ → ℕ → Tree → ℕ → ℕ → Type 0
  Stands b v absent at end = Gap b at end
  Stands b v (node h ts) at end = Stood b v h at end × Row b v ts (head_at b at).first (stop_at b at)

  pub Row : List ℕ → ℕ → Trees → ℕ → ℕ → Type 0
  Row b v nil at stop = at ≡ stop
  Row b v (t ▸ ts) at stop = Stands b v t at (stop_at b at) × Row b v ts (stop_at b at) stop
