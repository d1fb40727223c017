-- Bytes that were asked for and came, or didn't.
-- Assumes nothing.
use mathlib.Core.Path.{◌≡◌, ap}
use mathlib.Core.List.{List}
use Prim.Native.Nat.{ℕ, ◌+◌, ◌≤◌, ◌<◌}
use native.Mathlib.Omega.{arith}
use borrow.Author.Tests.{lt-ltb, ne_eqb}
use Rattle.std.specs.Prelude.{Option, Result, Ok, Err, IsErrAnd}
use Rattle.feed.specs.Input.{frame_size, after, Arrives, ReadsFile}
use Rattle.feed.specs.declared.Cut.{Cut}

-- a part that came whole, with what came before it
pub whole_after : (before asked n : ℕ) (r : Result ℕ Cut) → Arrives asked r → after before r ≡ Ok n → n ≡ before + asked
whole_after before asked n (Ok k) a e = let same : before + k ≡ n = cc in omega arith
whole_after before asked n (Err d) a e = cc

-- where the input ends inside a part, it does so behind what came before
pub cut_after : (before asked : ℕ) (r : Result ℕ Cut) (c : Cut) → Arrives asked r → after before r ≡ Err c
    → (before ≤ c.bytes) × (c.bytes < before + asked)
cut_after before asked (Ok n) c a e = cc
cut_after before asked (Err d) c a e =
    let same : ◌≡◌ {A = Cut} (record { bytes = before + d.bytes }) c = cc in
    let is : before + d.bytes ≡ c.bytes = ap (λ (x : Cut). x.bytes) same in
    (omega arith, omega arith)

-- ---- a frame
module _ (lengths : List ℕ) where
  pub reads_cut : (c : Cut) → 0 < c.bytes → c.bytes < frame_size lengths → ReadsFile lengths (Err c)
  reads_cut c some short =
      record { bytes = c.bytes; within = omega arith; came = rw (ne_eqb c.bytes 0 (λ e. omega arith), lt-ltb c.bytes (frame_size lengths) short) }

  pub cut_passed : (r : Result (Option ℕ) Cut) (c : Cut) → IsErrAnd r (λ x. x ≡ c) → 0 < c.bytes → c.bytes < frame_size lengths
      → ReadsFile lengths r
  cut_passed (Ok x) c h some short = absurd h
  cut_passed (Err x) c h some short = rw h (reads_cut c some short)
