-- What a row measures by itself, and the places of a row as what the view reads.
-- Assumes nothing.
use mathlib.Core.Path.{◌≡◌, refl, sym}
use Prim.Native.Nat.{ℕ}
use mathlib.Core.Bool.{Bool, true, false, cond}
use mathlib.Core.List.{List}
use lib.Dec.{eqb}
use Rattle.rows.specs.Places.{KIND, NUMBER, SECOND, AFTER}
use Rattle.rows.specs.Node.{byte_columns}
use Rattle.rows.specs.View.{view_of, cell, own_width}
use Rattle.rows.proofs.Widths.{own_of}

-- the width of a `Str` is asked for once
cond_twice : (t : Bool) (x y z : ℕ) → cond t (cond t x y) z ≡ cond t x z
cond_twice true x y z = refl
cond_twice false x y z = refl

-- the places of a row are what the view reads
pub own_same : (s m : List ℕ) (i k : ℕ) → k ≡ cell s i KIND → own_of (view_of s) byte_columns m k i ≡ own_width s i k
unfolding view_of
own_same s m i k e = rw (sym e) (cond_twice (eqb k 5) _ _ _)

pub kind_cell : (s : List ℕ) (i : ℕ) → (view_of s).kind i ≡ cell s i KIND
unfolding view_of
kind_cell s i = refl

pub number_cell : (s : List ℕ) (i : ℕ) → (view_of s).number i ≡ cell s i NUMBER
unfolding view_of
number_cell s i = refl

pub second_cell : (s : List ℕ) (i : ℕ) → (view_of s).second i ≡ cell s i SECOND
unfolding view_of
second_cell s i = refl

pub after_cell : (s : List ℕ) (i : ℕ) → (view_of s).after i ≡ cell s i AFTER
unfolding view_of
after_cell s i = refl
