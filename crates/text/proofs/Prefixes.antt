-- `prefix` is the length of the longest well-formed prefix: it is at most the text's (`prefix_inside`), that prefix is well-formed, and no
-- longer one is.
-- Assumes nothing.
use mathlib.Core.Path.{◌≡◌}
use mathlib.Core.Bool.{true}
use mathlib.Core.List.{List}
use Prim.Native.Nat.{ℕ, ◌+◌, ◌-◌, ◌≤◌, ◌<◌}
use native.Mathlib.Omega.{arith}
use lib.ListN.{length, take}
use Rattle.text.specs.Utf8.{sequence, prefix, well_formed}
use Rattle.text.proofs.Parts.{part_length, reach_up, reach_down}
use Rattle.text.proofs.Reached.{here, well_formed_reached, prefix_reached, reached_before}
pub use Rattle.text.proofs.Reached.{prefix_inside}

module _ (s : List ℕ) where
  -- the prefix is well-formed
  pub prefix_well_formed : well_formed (take (prefix s) s) ≡ true
  prefix_well_formed =
      let inside : 0 + prefix s ≤ length s = omega (arith, prefix_inside s) in
      let same : prefix s - 0 ≡ length (take (prefix s) s) = omega (arith, part_length s 0 (prefix s) inside) in
      let none : (i : ℕ) → i < 0 → i + sequence s i ≤ 0 = λ i h. absurd (omega arith) in
      let reached = reach_down s 0 (prefix s) inside none (prefix s) (prefix_reached s) (omega arith) (omega arith) in
      (well_formed_reached (take (prefix s) s)).1 (rw same at reached)

  -- each well-formed prefix is at most as long
  pub prefix_longest : (n : ℕ) → n ≤ length s → well_formed (take n s) ≡ true → n ≤ prefix s
  prefix_longest n h e =
      let inside : 0 + n ≤ length s = omega arith in
      let reached = reach_up s 0 n inside (length (take n s)) here ((well_formed_reached (take n s)).0 e) in
      omega (arith, part_length s 0 n inside, reached_before s (0 + length (take n s)) reached)
