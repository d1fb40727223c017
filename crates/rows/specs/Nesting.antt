-- Rows that nest: what "nested", "a leaf with parts", "exactly two" and "starting at a part" of refusal 11 ask of a range of rows.
use Rattle.std.specs.Prelude.{ℕ, suc, ◌*◌, ◌≤◌, ◌<◌, ◌≡◌, List, length}
use Rattle.rows.specs.Kinds.{INDENT_NEXT, WRAP_PARENT, LINE_OR_SPACE, IF_WRAP, CALL}
use Rattle.rows.specs.Places.{PLACES}
use Rattle.rows.specs.Limits.{MAX_ROWS, MAX_DEPTH}
use Rattle.rows.specs.View.{View, view_of}

-- row i ends past itself and not past j
pub record RangeIn (v : View) (i j : ℕ) : Type 0 where
  pub up : i < v.after i
  pub to : v.after i ≤ j

-- an `IfWrap` has two parts, and its second part is the second of them
pub record TwoParts (v : View) (i : ℕ) : Type 0 where
  pub first : v.after (suc i) ≡ v.second i
  pub second : v.after (v.second i) ≡ v.after i
  pub up : suc i < v.second i
  pub to : v.second i < v.after i

-- the second part starts past the row, and at its end at the latest
pub record Split (v : View) (i : ℕ) : Type 0 where
  pub up : i < v.second i
  pub to : v.second i ≤ v.after i

-- The rows from i up to j, which d rows enclose, nest. (Both parts of a `Call` nest, so its second part starts at a part or at the end.)
pub data Nests (v : View) : ℕ → ℕ → ℕ → Type 0 where
  over : {i j d : ℕ} → i ≡ j → Nests v i j d
  leaf : {i j d : ℕ} → WRAP_PARENT ≤ v.kind i → v.kind i ≤ LINE_OR_SPACE → v.after i ≡ suc i → i < j → d < MAX_DEPTH → Nests v (suc i) j d → Nests v i j d
  block : {i j d : ℕ} → v.kind i ≤ INDENT_NEXT → RangeIn v i j → d < MAX_DEPTH → Nests v (suc i) (v.after i) (suc d) → Nests v (v.after i) j d → Nests v i j d
  two :
      {i j d : ℕ}
      → v.kind i ≡ IF_WRAP
      → RangeIn v i j
      → TwoParts v i
      → d < MAX_DEPTH
      → Nests v (suc i) (v.second i) (suc d)
      → Nests v (v.second i) (v.after i) (suc d)
      → Nests v (v.after i) j d
      → Nests v i j d
  pair :
      {i j d : ℕ}
      → v.kind i ≡ CALL
      → RangeIn v i j
      → Split v i
      → d < MAX_DEPTH
      → Nests v (suc i) (v.second i) (suc d)
      → Nests v (v.second i) (v.after i) (suc d)
      → Nests v (v.after i) j d
      → Nests v i j d

-- the rows of a store from `from` up to `to` are there, are no more than are ever rendered, and nest
pub record Nested (store : List ℕ) (from to : ℕ) : Type 0 where
  pub room : to * PLACES ≤ length store
  pub few : to ≤ MAX_ROWS
  pub nests : Nests (view_of store) from to 0
