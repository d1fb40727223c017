-- A text's payload: its width, and the text behind it.
-- Assumes nothing.
use mathlib.Core.Path.{◌≡◌, refl, sym, ap, ap₂, ◌∙◌}
use mathlib.Core.Bool.{Bool, false}
use mathlib.Core.List.{List, [], ◌∷◌, ◌++◌}
use Prim.Native.Nat.{ℕ, zero, suc, ◌+◌, ◌-◌, ◌*◌, ◌≤◌, ◌<◌}
use native.Mathlib.Omega.{arith}
use lib.ListN.{length, get_or, take, drop}
use lib.Seq.{drop-drop, get_or-drop, sets}
use Rattle.std.proofs.lemmas.List.{drop-take}
use borrow.Author.Tests.{eq-eqb, ne_eqb, ltb-false}
use Rattle.image.specs.Bytes.{be16, part}
use Rattle.image.specs.Kinds.{TEXT}
use Rattle.image.specs.Read.{head_at, stop_at, kind_at}
use Rattle.image.specs.Write.{bytes2}
use Rattle.image.proofs.Standing.{first_behind}
use Rattle.writer.specs.Stands.{Puts}
use Rattle.writer.proofs.Standing.{puts_join, puts_is}
use Rattle.moves.specs.Moves.{due_width}
use Rattle.moves.specs.Ways.{stored_bytes, is_faulty, payload_due}
use Rattle.moves.specs.Standing.{HeadThere}
use Rattle.moves.specs.declared.way.Way.{Way}
use Rattle.moves.specs.declared.way.Way.TheVariants as way
use Rattle.moves.proofs.Rows.{text_first}

-- the bytes behind the width
pub part_drop : (b : List ℕ) (from to : ℕ) → from + 2 ≤ to → drop 2 (part from to b) ≡ part (from + 2) to b
part_drop b from to h =
    let n : to - from ≡ 2 + (to - (from + 2)) = omega arith in
    ap (λ (k : ℕ). drop 2 (take k (drop from b))) n
    ∙ drop-take 2 (to - (from + 2)) (drop from b)
    ∙ ap (take (to - (from + 2))) (drop-drop 2 from b)

-- a byte of a part
taken : (n i : ℕ) (l : List ℕ) → i < n → get_or (take n l) i 0 ≡ get_or l i 0
taken zero i l h = absurd (omega arith)
taken (suc n) i [] h = refl
taken (suc n) zero (x ∷ l) h = refl
taken (suc n) (suc i) (x ∷ l) h = taken n i l (omega arith)

part_byte : (b : List ℕ) (from to i : ℕ) → from + i < to → get_or (part from to b) i 0 ≡ get_or b (from + i) 0
part_byte b from to i h = taken (to - from) i (drop from b) (omega arith) ∙ get_or-drop from b i 0

-- the width
pub part_width : (b : List ℕ) (from to : ℕ) → from + 2 ≤ to → be16 (part from to b) 0 ≡ be16 b from
unfolding be16
part_width b from to h =
    let z : from + 0 ≡ from = omega arith in
    ap₂ (λ (x y : ℕ). x * 256 + y) (part_byte b from to 0 (omega arith) ∙ ap (λ (k : ℕ). get_or b k 0) z) (part_byte b from to 1 (omega arith))

-- ---- a payload that is put
-- the end of a text's
pub record TextEnd (w : Way) (b : List ℕ) (at end : ℕ) : Type 0 where
  pub is : end ≡ stop_at b at
  pub after : at + 13 + stored_bytes w ≤ end
  pub inside : end ≤ length b

module _ (w : Way) (u : Bool) (b : List ℕ) (at pos end : ℕ) (t : HeadThere w u b at pos) (e : end ≡ (head_at b at).first) where
  pub head_end : (at + 13 ≤ end) × (end ≤ length b)
  head_end =
      let f = first_behind b (stored_bytes w) at t.whole in
      (omega arith, omega (arith, t.whole.payload, t.whole.inside))

  pub text_end : kind_at b at ≡ TEXT → TextEnd w b at end
  text_end k =
      let is : end ≡ stop_at b at = e ∙ text_first (kind_at b at) (at + 13) (stop_at b at) (eq-eqb (kind_at b at) TEXT k) in
      record { is = is; after = omega (arith, is, t.whole.width k); inside = omega (arith, is, t.whole.inside) }

  -- a width that is not at fault has two bytes
  pub due_low : (d : ℕ) → w ≡ way.Back → kind_at b at ≡ TEXT → d ≡ due_width u (part (at + 13) end b) → d < 65536
  due_low d back k f =
      let c : is_faulty way.Back u (part (at + 13) (stop_at b at) b) ≡ false = rw back at (t.clear (eq-eqb (kind_at b at) TEXT k)) in
      let low = ltb-false 65535 (due_width u (part (at + 13) (stop_at b at) b)) c in
      let same : d ≡ due_width u (part (at + 13) (stop_at b at) b) = f ∙ ap (λ (m : ℕ). due_width u (part (at + 13) m b)) (text_end k).is in
      omega (arith, low, same)

  abbrev due : List ℕ
  due = payload_due w u (kind_at b at) (part (at + 13) (head_at b at).first b)

  other_due : (w : Way) (k : ℕ) (x : List ℕ) → ¬ (k ≡ TEXT) → payload_due w u k x ≡ x
  other_due way.Forward k x n = rw (ne_eqb k TEXT n)
  other_due way.Back k x n = rw (ne_eqb k TEXT n)

  pub puts_other : (r : ℕ) (out o : List ℕ) → ¬ (kind_at b at ≡ TEXT) → r ≡ pos + length (part (at + 13) end b)
      → o ≡ sets out pos (part (at + 13) end b) → Puts due pos out r o
  puts_other r out o k p q =
      puts_is
      (ap (λ (m : ℕ). part (at + 13) m b) e ∙ sym (other_due w (kind_at b at) (part (at + 13) (head_at b at).first b) k))
      (record { place = p; output = q })

  pub puts_narrow : (r : ℕ) (out o : List ℕ) → w ≡ way.Forward → kind_at b at ≡ TEXT → r ≡ pos + length (part (at + 13 + 2) end b)
      → o ≡ sets out pos (part (at + 13 + 2) end b) → Puts due pos out r o
  puts_narrow r out o forward k p q =
      let x = part (at + 13) (head_at b at).first b in
      let after : at + 13 + 2 ≤ end = rw forward at (text_end k).after in
      let is : payload_due way.Forward u (kind_at b at) x ≡ drop 2 x = rw (eq-eqb (kind_at b at) TEXT k) in
      let same : part (at + 13 + 2) end b ≡ drop 2 x = sym (part_drop b (at + 13) end after) ∙ ap (λ (m : ℕ). drop 2 (part (at + 13) m b)) e in
      puts_is (same ∙ sym is ∙ ap (λ (v : Way). payload_due v u (kind_at b at) x) (sym forward)) (record { place = p; output = q })

  pub puts_wide : (d m r : ℕ) (out o₁ o : List ℕ) → w ≡ way.Back → kind_at b at ≡ TEXT → d ≡ due_width u (part (at + 13) end b) → m ≡ pos + 2
      → o₁ ≡ sets out pos (bytes2 d) → r ≡ m + length (part (at + 13) end b)
      → o ≡ sets o₁ m (part (at + 13) end b) → Puts due pos out r o
  puts_wide d m r out o₁ o back k f n q₁ p q =
      let x = part (at + 13) (head_at b at).first b in
      let y = part (at + 13) end b in
      let is : payload_due way.Back u (kind_at b at) x ≡ bytes2 (due_width u x) ++ x = rw (eq-eqb (kind_at b at) TEXT k) in
      let first : Puts (bytes2 d) pos out m o₁ = record { place = n; output = q₁ } in
      let rest : Puts y m o₁ r o = record { place = p; output = q } in
      puts_is
      (ap (λ (v : ℕ). bytes2 v ++ y) f ∙ ap (λ (z : ℕ). bytes2 (due_width u (part (at + 13) z b)) ++ part (at + 13) z b) e
      ∙ sym is
      ∙ ap (λ (v : Way). payload_due v u (kind_at b at) x) (sym back))
      (puts_join first rest)
