-- Ordered tables: what stands before a number has no range from there on.
-- Assumes nothing.
use mathlib.Core.Path.{◌≡◌, refl}
use mathlib.Core.Bool.{true, ◌&&◌}
use mathlib.Core.List.{List, [], ◌∷◌}
use Prim.Native.Nat.{ℕ, suc, ◌≤◌, ◌<◌}
use native.Mathlib.Omega.{arith}
use lib.Dec.{leb}
use borrow.Author.Tests.{leb-true}
use Rattle.laws.proofs.Booleans.{and_left, and_right}
use Rattle.text.proofs.Tests.{within_below}
use Rattle.widths.specs.Widths.{first, last, ascends, table_width}
use Rattle.widths.specs.declared.lookup.Entry.{Entry}

-- what the test says of the first range and of the others
pub record Ascends (n : ℕ) (e : Entry) (es : List Entry) : Type 0 where
  pub starts : n ≤ first e
  pub ends : first e ≤ last e
  pub others : ascends (suc (last e)) es ≡ true

pub ascending : (n : ℕ) (e : Entry) (es : List Entry) → ascends n (e ∷ es) ≡ true → Ascends n e es
unfolding ascends
ascending n e es h =
    let behind = leb n (first e) in
    let forward = leb (first e) (last e) in
    let rest = ascends (suc (last e)) es in
    let two = and_left (behind && forward) rest h in
    record {
      starts = leb-true n (first e) (and_left behind forward two);
      ends = leb-true (first e) (last e) (and_right behind forward two);
      others = and_right (behind && forward) rest h;
    }

pub one_before : (n : ℕ) (es : List Entry) (c : ℕ) → ascends n es ≡ true → c < n → table_width es c ≡ 1
unfolding table_width
one_before n [] c h b = refl
one_before n (e ∷ es) c h b =
    let a = ascending n e es h in
    rw (within_below (first e) (last e) c (omega arith)) (one_before (suc (last e)) es c (a.others) (omega arith))
