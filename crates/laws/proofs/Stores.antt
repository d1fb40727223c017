-- Laws of runs of stores to a list. A store past the end changes nothing, so that none of them asks for room.
-- Assumes nothing.
use mathlib.Core.Path.{◌≡◌, refl, sym, ap, ◌∙◌}
use mathlib.Core.List.{List, [], ◌∷◌, ◌++◌}
use Prim.Native.Nat.{ℕ, zero, suc, ◌+◌, ◌<◌}
use native.Mathlib.Nat.{add-zero, suc-add, add-suc}
use native.Mathlib.Omega.{arith}
use lib.ListN.{length, set}
use lib.Seq.{sets, set_comm, set-set}

-- one run after the other
pub sets_append : (vs ws s : List ℕ) (i : ℕ) → sets s i (vs ++ ws) ≡ sets (sets s i vs) (i + length vs) ws
sets_append [] ws s i = ap (λ (k : ℕ). sets s k ws) (sym (add-zero i))
sets_append (v ∷ vs) ws s i =
    sets_append vs ws (set s i v) (suc i)
    ∙ ap (λ (k : ℕ). sets (sets (set s i v) (suc i) vs) k ws) (suc-add i (length vs) ∙ sym (add-suc i (length vs)))

-- a store below the run
set_below : (vs s : List ℕ) (i j v : ℕ) → j < i → set (sets s i vs) j v ≡ sets (set s j v) i vs
set_below [] s i j v h = refl
set_below (w ∷ vs) s i j v h =
    set_below vs (set s i w) (suc i) j v (omega arith)
    ∙ ap (λ (l : List ℕ). sets l (suc i) vs) (set_comm s i j w v (omega arith))

-- a store within the run
pub set_sets : (vs s : List ℕ) (i k v : ℕ) → k < length vs → set (sets s i vs) (i + k) v ≡ sets s i (set vs k v)
set_sets [] s i k v h = absurd (omega arith)
set_sets (w ∷ vs) s i zero v h =
    ap (λ (j : ℕ). set (sets (set s i w) (suc i) vs) j v) (add-zero i)
    ∙ set_below vs (set s i w) (suc i) i v (omega arith)
    ∙ ap (λ (l : List ℕ). sets l (suc i) vs) (set-set s i w v)
set_sets (w ∷ vs) s i (suc k) v h =
    ap (λ (j : ℕ). set (sets (set s i w) (suc i) vs) j v) (add-suc i k ∙ sym (suc-add i k))
    ∙ set_sets vs (set s i w) (suc i) k v (omega arith)
