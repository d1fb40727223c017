-- Going from sequence to sequence: the places so reached are the boundaries of a well-formed text, and the furthest is the prefix's end.
-- Assumes nothing.
use mathlib.Core.Path.{◌≡◌, refl}
use mathlib.Core.Bool.{Bool, true, false, cond}
use mathlib.Core.List.{List}
use mathlib.Core.Logic.{◌↔◌}
use Prim.Native.Nat.{ℕ, zero, suc, ◌+◌, ◌≤◌, ◌<◌}
use native.Mathlib.Omega.{arith}
use lib.ListN.{length}
use lib.Dec.{ltb, eqb}
use borrow.Author.Tests.{ltb-true, ltb-false, eq-eqb, eqb-true, eqb-false}
use Rattle.text.specs.Utf8.{sequence, run, prefix, well_formed, boundary}
use Rattle.text.proofs.Boundaries.{boundary_inside, end_boundary, first_boundary, sequence_before}
use Rattle.text.proofs.Bytes.{led}
use Rattle.text.proofs.Runs.{Going, start, next, stop}
use Rattle.text.proofs.Sequences.{sequence_fits}

-- a place that is reached from the start by going from sequence to sequence
pub data Reach (s : List ℕ) : ℕ → Type 0 where
  here : Reach s 0
  on : {at : ℕ} → Reach s at → 0 < sequence s at → Reach s (at + sequence s at)

-- what holds at a place and goes on from sequence to sequence holds at the end of a run
pub run_keeps : (P : ℕ → Type 0) (s : List ℕ) → ((i : ℕ) → 0 < sequence s i → P i → P (i + sequence s i)) → (n at : ℕ) → P at
    → P (run n s at)
unfolding run
run_keeps P s more zero at h = h
run_keeps P s more (suc n) at h = go (run_keeps P s more n (at + sequence s at)) (eqb (sequence s at) 0) refl
  where
    go : (P (at + sequence s at) → P (run n s (at + sequence s at))) → (t : Bool) → eqb (sequence s at) 0 ≡ t
        → P (cond t at (run n s (at + sequence s at)))
    go rest true e = h
    go rest false e = rest (more at (omega (arith, eqb-false (sequence s at) 0 e)) h)

-- the prefix's end is reached, and lies in the text
pub prefix_reached : (s : List ℕ) → Reach s (prefix s)
unfolding prefix
prefix_reached s = run_keeps (Reach s) s (λ i h r. on r h) (length s) 0 here

pub prefix_inside : (s : List ℕ) → prefix s ≤ length s
unfolding prefix
prefix_inside s = run_keeps (λ i. i ≤ length s) s (λ i h r. sequence_fits s i r) (length s) 0 (omega arith)

going : (s : List ℕ) (at : ℕ) → Reach s at → Going s at
going s at here = start s
going s at (on {at = i} r h) = next s i (sequence s i) (led s i h).inside refl h (going s i r)

-- no place past the prefix is reached
pub reached_before : (s : List ℕ) (at : ℕ) → Reach s at → at ≤ prefix s
reached_before s at r =
    let g = going s at r in
    rw g.same (run_keeps (λ i. at ≤ i) s (λ i h k. omega arith) g.turns at (omega arith))

-- a text is well-formed if its end is reached
pub well_formed_reached : (s : List ℕ) → well_formed s ≡ true ↔ Reach s (length s)
unfolding well_formed
well_formed_reached s = (
  λ e. rw (eqb-true (prefix s) (length s) e) at (prefix_reached s),
  λ r. eq-eqb (prefix s) (length s) (omega (arith, prefix_inside s, reached_before s (length s) r)),
)

-- in a well-formed text a sequence starts at each place that is reached, but at the end
pub reached_starts : (s : List ℕ) (at : ℕ) → well_formed s ≡ true → Reach s at → at < length s → 0 < sequence s at
unfolding well_formed
reached_starts s at e r h = go (sequence s at) refl
  where
    go : (n : ℕ) → sequence s at ≡ n → 0 < sequence s at
    go zero p = absurd (omega (arith, stop s at p (going s at r), eqb-true (prefix s) (length s) e))
    go (suc n) p = omega arith

reached_boundary : (s : List ℕ) (at : ℕ) → well_formed s ≡ true → Reach s at → boundary s at ≡ true
reached_boundary s at e r = go (ltb at (length s)) refl
  where
    go : (t : Bool) → ltb at (length s) ≡ t → boundary s at ≡ true
    go true q = first_boundary s at (reached_starts s at e r (ltb-true at (length s) q))
    go false q =
        let same : at ≡ length s = omega (arith, ltb-false at (length s) q, reached_before s at r, prefix_inside s) in
        rw same (end_boundary s)

module _ (s : List ℕ) (e : well_formed s ≡ true) (at : ℕ) (b : boundary s at ≡ true) where
  -- a boundary is not passed: going on from a place before it, at most n bytes away, reaches it
  boundary_reached : (n i : ℕ) → Reach s i → i ≤ at → at ≤ i + n → Reach s at
  boundary_reached zero i r h k = let same : i ≡ at = omega arith in rw same at r
  boundary_reached (suc n) i r h k = go (boundary_reached n (i + sequence s i)) (ltb i at) refl
    where
      go : (Reach s (i + sequence s i) → i + sequence s i ≤ at → at ≤ i + sequence s i + n → Reach s at) → (t : Bool) → ltb i at ≡ t
          → Reach s at
      go more true q =
          let before = ltb-true i at q in
          let some = reached_starts s i e r (omega (arith, boundary_inside s at b)) in
          more (on r some) (sequence_before s i at b before) (omega arith)
      go more false q = let same : i ≡ at = omega (arith, ltb-false i at q) in rw same at r

-- the boundaries of a well-formed text are the places that are reached
pub boundary_iff : (s : List ℕ) (at : ℕ) → well_formed s ≡ true → boundary s at ≡ true ↔ Reach s at
boundary_iff s at e = (λ b. boundary_reached s e at b at 0 here (omega arith) (omega arith), reached_boundary s at e)
