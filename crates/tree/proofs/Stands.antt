-- Bytes that stand somewhere in a list, and the numbers that they are read as.
-- Assumes nothing.
use mathlib.Core.Path.{◌≡◌, sym, ap, ◌∙◌}
use mathlib.Core.List.{List, [], ◌∷◌, ◌++◌, append_assoc, append-nil}
use Prim.Native.Nat.{ℕ, ◌+◌, ◌-◌, ◌/◌, ◌≤◌}
use native.Mathlib.Omega.{arith}
use lib.ListN.{length, get_or, take, drop, length-append, length-drop}
use lib.Seq.{drop-drop, drop-append_seam, take-append_seam, get_or-drop}
use Rattle.image.specs.Bytes.{be16, be32, part}
use Rattle.image.specs.Write.{bytes4, bytes2}

pub record Stands (b : List ℕ) (at : ℕ) (y : List ℕ) : Type 0 where
  pub low : at ≤ length b
  pub rest : List ℕ
  pub bytes : drop at b ≡ y ++ rest

pub stands_whole : (b : List ℕ) → Stands b 0 b
stands_whole b = record { low = omega arith; rest = []; bytes = sym (append-nil b) }

module _ {b : List ℕ} {at : ℕ} where
  -- it ends in the list
  pub stands_within : (y : List ℕ) → Stands b at y → at + length y ≤ length b
  stands_within y s = omega (arith, s.low, sym (length-drop at b) ∙ ap length s.bytes ∙ length-append y s.rest)

  -- two parts, one after the other
  pub stands_left : (y z : List ℕ) → Stands b at (y ++ z) → Stands b at y
  stands_left y z s = record { low = s.low; rest = z ++ s.rest; bytes = s.bytes ∙ append_assoc y z s.rest }

  pub stands_right : (y z : List ℕ) (m : ℕ) → m ≡ at + length y → Stands b at (y ++ z) → Stands b m z
  stands_right y z m e s =
      let w = stands_within y (stands_left y z s) in
      rw e
      (record {
        low = w;
        rest = s.rest;
        bytes =
            sym (drop-drop (length y) at b) ∙ ap (drop (length y)) (s.bytes ∙ append_assoc y z s.rest) ∙ drop-append_seam y (z ++ s.rest);
      })

  -- the part that it is
  pub stands_part : (y : List ℕ) (end : ℕ) → end ≡ at + length y → Stands b at y → part at end b ≡ y
  stands_part y end e s =
      let n : end - at ≡ length y = omega arith in
      ap (λ (k : ℕ). take k (drop at b)) n ∙ ap (take (length y)) s.bytes ∙ take-append_seam y s.rest

  -- the byte at its start and after it
  stands_at : (y : List ℕ) (i : ℕ) (s : Stands b at y) → get_or b (at + i) 0 ≡ get_or (y ++ s.rest) i 0
  stands_at y i s = sym (get_or-drop at b i 0) ∙ ap (λ (r : List ℕ). get_or r i 0) s.bytes

  pub stands_byte : (x : ℕ) (y : List ℕ) → Stands b at (x ∷ y) → get_or b at 0 ≡ x
  stands_byte x y s = let e : at ≡ at + 0 = omega arith in ap (λ (n : ℕ). get_or b n 0) e ∙ stands_at (x ∷ y) 0 s

  pub stands_be32 : (n : ℕ) (y : List ℕ) → Stands b at (bytes4 n ++ y) → be32 b at ≡ n
  unfolding be32
  stands_be32 n y s =
      let e : get_or b at 0 ≡ n / 16777216 = stands_byte _ _ s in
      rw (e, stands_at (bytes4 n ++ y) 1 s, stands_at (bytes4 n ++ y) 2 s, stands_at (bytes4 n ++ y) 3 s) (omega arith)

  pub stands_be16 : (n : ℕ) (y : List ℕ) → Stands b at (bytes2 n ++ y) → be16 b at ≡ n
  unfolding be16
  stands_be16 n y s =
      let e : get_or b at 0 ≡ n / 256 = stands_byte _ _ s in
      rw (e, stands_at (bytes2 n ++ y) 1 s) (omega arith)
