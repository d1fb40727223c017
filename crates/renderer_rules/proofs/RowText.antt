-- The part of a text that a row refers to.
-- Assumes nothing.
use mathlib.Core.Path.{◌≡◌, refl, sym}
use mathlib.Core.Bool.{Bool, true, false}
use mathlib.Core.List.{List}
use Prim.Native.Nat.{ℕ, ◌+◌, ◌-◌, ◌≤◌, min}
use native.Mathlib.Omega.{arith}
use lib.Dec.{leb}
use lib.ListN.{length, take, drop, length-drop, drop_of_length-le}
use lib.Seq.{take-nil}
use Rattle.std.proofs.lemmas.List.{take_min}
use borrow.Author.Tests.{leb-true, leb-false}

-- the part of a text from `start` on, as far as it goes
pub part_text : (t : List ℕ) (start size from end : ℕ) → from ≡ min start (length t) → end ≡ min (from + size) (length t)
    → take (end - from) (drop from t) ≡ take size (drop start t)
part_text t start size from end e f = go (leb start (length t)) refl
  where
    go : (b : Bool) → leb start (length t) ≡ b → take (end - from) (drop from t) ≡ take size (drop start t)
    go true h =
        let l = leb-true start (length t) h in
        let d = length-drop start t in
        let i : from ≡ start = omega arith in
        let k : end - start ≡ min size (length (drop start t)) = omega arith in
        rw (i, k) (take_min size (drop start t))
    go false h =
        let l = leb-false start (length t) h in
        let i : end - from ≡ 0 = omega arith in
        let m : length t ≤ start = omega arith in
        rw (i, drop_of_length-le t m) (sym (take-nil size))
