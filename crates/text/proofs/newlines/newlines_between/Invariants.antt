-- The loop's invariant: the range's newlines are those counted so far and those of the bytes from `at` on, and the place is the last so far.
use mathlib.Core.Path.{◌≡◌}
use mathlib.Core.List.{List}
use Prim.Native.Nat.{ℕ, ◌+◌, ◌-◌, ◌≤◌}
use lib.ListN.{length}
use Rattle.text.specs.Newlines.{newline_places, last_or}
use Rattle.text.proofs.newlines.newlines_between.Given as goal

pub record Going (s : List ℕ) (from to at count place : ℕ) : Type 0 where
  pub low : from ≤ at
  pub high : at ≤ to
  pub few : count ≤ at - from
  pub many : count + length (newline_places (to - at) s at) ≡ length (newline_places (to - from) s from)
  pub last : last_or place (newline_places (to - at) s at) ≡ last_or to (newline_places (to - from) s from)

abbrev pub invariant-loop-at : goal.invariant-loop-at
invariant-loop-at l = Going l.s l.from l.to l.at l.count l.place
