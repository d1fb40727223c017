-- A part of a slice that is written over by one call, as the writes of its elements one by one.
-- Assumes nothing.
use mathlib.Core.Path.{◌≡◌, sym, ap, ◌∙◌}
use mathlib.Core.List.{List, ◌++◌, append_assoc}
use Prim.Native.Nat.{ℕ, ◌+◌, ◌≤◌}
use native.Mathlib.Omega.{arith}
use lib.ListN.{length, take, drop}
use lib.Seq.{drop-drop, sets, sets-eq}
use borrow.Rule.Slice.PartMut.{put_mid}

pub part_sets : (vs l : List ℕ) (i n : ℕ) → length vs ≡ n → i + n ≤ length l → put_mid i n l vs ≡ sets l i vs
part_sets vs l i n e h =
    ap (λ (r : List ℕ). take i l ++ (vs ++ r)) (drop-drop n i l ∙ ap (λ (k : ℕ). drop (i + k) l) (sym e))
    ∙ sym (append_assoc (take i l) vs _)
    ∙ sym (sets-eq vs l i (omega arith))
