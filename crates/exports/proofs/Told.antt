-- From a call's promise and the numbers that are put out to what an exported function leaves.
-- Assumes nothing.
use Rattle.std.proofs.Common.{◌≡◌, sym, List, [], ◌∷◌, ◌++◌, ℕ, ◌<◌, length, set, take, drop, arith}
use lib.Seq.{sets}
use Rattle.refusals.proofs.Answers.{sets_front}

-- 0, and numbers behind it, stand at the start of an array
pub put_front : (given part out : List ℕ) (k : ℕ) → part ≡ given → k ≡ length given → length given < length out
    → take 1 (set out 0 0) ++ (part ++ drop k (drop 1 (set out 0 0))) ≡ sets out 0 (0 ∷ given)
put_front given part [] k e f h = absurd (omega arith)
put_front given part (x ∷ rest) k e f h = rw (e, f) (sym (sets_front (0 ∷ given) (x ∷ rest) (omega arith)))
