-- A listed row as a number: the row, the way and whether its parts wrap. Each number is one row with facts that are legal, so that none has to be
-- refused for itself.
use Rattle.std.specs.Prelude.{ℕ, ◌+◌, ◌*◌, ◌/◌, ◌%◌, ◌<◌, ◌≡◌, Bool, true, false, cond, List, length, get_or, eqb, Option}
use Rattle.rows.specs.Kinds.{kind_of}
use Rattle.rows.specs.declared.kinds.Kind.{Kind}
use Rattle.rows.specs.Places.{RowIn}
use Rattle.renderer_rules.specs.declared.Pen.{Pen}
use Rattle.renderer_rules.specs.Machine.{closes}
use Rattle.renderer_rules.specs.Stops.{Way, trailing, made_flat, made_wrapped, OpenRow, open_at}
use Rattle.renderer_rules.specs.Listed.{can_close}

-- the ways by number: "trailing", and of any other row than a `Call`; made up and flat; made up and wrapped
abbrev pub way_number : Way → ℕ
way_number trailing = 0
way_number made_flat = 1
way_number made_wrapped = 2

abbrev pub numbered_way : ℕ → Way
numbered_way n = cond (eqb n 2) made_wrapped (cond (eqb n 0) trailing made_flat)

abbrev pub flag_number : Bool → ℕ
flag_number true = 1
flag_number false = 0

-- a row as it is listed, and back
unfoldable pub row_number : OpenRow → ℕ
row_number l = l.row * 6 + way_number l.way * 2 + flag_number l.wraps

unfoldable pub open_row : ℕ → OpenRow
open_row n = open_at (n / 6) (eqb (n % 2) 1) (numbered_way (n / 2 % 3))

-- no row has two numbers, and no number two rows
abbrev pub NumbersRows : Type 0
NumbersRows = ((l : OpenRow) → open_row (row_number l) ≡ l) × ((n : ℕ) → row_number (open_row n) ≡ n)

-- the rows listed are rows of a store
pub record AllIn (store listed : List ℕ) : Type 0 where
  pub at : (k : ℕ) → k < length listed → RowIn store (open_row (get_or listed k 0)).row

-- a row of a kind is closed, or it can't be
pub record Closes (kind : Option Kind) (wraps deeper : Bool) (p : Pen) (can : Bool) (q : Pen) : Type 0 where
  pub is : (k : ℕ) → kind ≡ kind_of k → can ≡ can_close k wraps deeper p
  pub pen : (k : ℕ) → kind ≡ kind_of k → can ≡ true → q ≡ closes k wraps deeper p
