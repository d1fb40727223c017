-- What a rendering leaves in the output: with limit 0 nothing; where the text fits, the text and behind it what was there.
-- Assumes nothing.
use mathlib.Core.Path.{◌≡◌, ap, sym, ◌∙◌}
use Prim.Native.Nat.{ℕ, suc, ◌+◌, ◌≤◌, ◌<◌}
use native.Mathlib.Omega.{arith}
use native.Mathlib.Numerals.{add-one}
use mathlib.Core.List.{List, [], ◌∷◌, ◌++◌, append_assoc}
use lib.ListN.{length, set, take, drop, length-set, take-append-drop}
use lib.Seq.{take-suc-set, drop-set-lt}
use borrow.Author.Tests.{lt-ltb}
use Rattle.renderer.specs.Output.{written_over}

stepped : (out : List ℕ) (at b : ℕ) (t : List ℕ) → at < length out
    → take (at + 1) (set out at b) ++ (t ++ drop (at + 1 + length t) (set out at b)) ≡ take at out ++ (b ∷ (t ++ drop (at + suc (length t)) out))
stepped out at b t h =
    rw (add-one at, take-suc-set out at b h, along at (length t), drop-set-lt (at + suc (length t)) out at b (omega arith))
    (append_assoc (take at out) (b ∷ []) (t ++ drop (at + suc (length t)) out))
  where
    along : (at n : ℕ) → suc at + n ≡ at + suc n
    along at n = omega arith

over_at : (limit : ℕ) (out : List ℕ) (at : ℕ) (t : List ℕ) → at + length t ≤ limit → limit ≤ length out
    → written_over limit out at t ≡ take at out ++ (t ++ drop (at + length t) out)
unfolding written_over
over_at limit out at [] h l = sym (rw (none at) (take-append-drop at out))
  where
    none : (at : ℕ) → at + 0 ≡ at
    none at = omega arith
over_at limit out at (b ∷ t) h l =
    rw (lt-ltb at limit (omega arith))
    (over_at limit (set out at b) (at + 1) t (omega arith) (let e = length-set out at b in omega arith)
    ∙ stepped out at b t (omega arith))

pub over_full : (limit : ℕ) (out t : List ℕ) → length t ≤ limit → limit ≤ length out → written_over limit out 0 t ≡ t ++ drop (length t) out
over_full limit out t h l = over_at limit out 0 t (omega arith) l ∙ ap (λ (n : ℕ). t ++ drop n out) (none (length t))
  where
    none : (n : ℕ) → 0 + n ≡ n
    none n = omega arith
