-- A tree that stands in an image: where it ends, how many bytes its steps have, and its steps as they are put.
-- Assumes nothing.
use mathlib.Core.Path.{◌≡◌, refl, sym, ap, ap₂, ◌∙◌}
use mathlib.Core.Bool.{Bool, true, false}
use mathlib.Core.List.{List, [], ◌∷◌, ◌++◌, append-nil}
use Prim.Native.Nat.{ℕ, suc, ◌+◌, ◌-◌, ◌*◌, ◌%◌, ◌≤◌, ◌<◌}
use native.Mathlib.Omega.{arith}
use native.Mathlib.Nat.{mod-eq_of_lt}
use native.Mathlib.Numerals.{add-one}
use lib.Dec.{eqb}
use lib.ListN.{length, get_or, set, take, drop, length-append, length-drop}
use lib.Seq.{sets}
use borrow.Author.Tests.{eqb-true, eq-eqb, ne_eqb}
use Rattle.image.specs.Bytes.{be16, be32, part}
use Rattle.image.specs.Kinds.{TEXT}
use Rattle.image.specs.Grammar.{has_byte, first_child}
use Rattle.image.specs.Read.{head_at, stop_at, kind_at, Tree, Trees, absent, node, nil, ◌▸◌}
use Rattle.image.specs.Write.{bytes4, plain, plains, Bytes, bytes2}
use Rattle.image.proofs.Exact.{part_length}
use Rattle.steps.specs.Steps.{list_bytes, payload_steps, tree_steps, child_steps, close_step}
use Rattle.steps.proofs.Payloads.{text_steps, byte_steps, no_steps}
use Rattle.steps.proofs.Taken.{list_append}
use Rattle.tree.proofs.Took.{took_byte, took_two, took_four, took_part, took_join, took_is}
use Rattle.writer.specs.Stands.{Puts, PutsTree, PutsRow, tree_bytes, row_bytes}
use Rattle.image.specs.Standing.{Whole, Stands, Row}
use Rattle.image.proofs.Standing.{row_order, first_behind, tree_ends}
use Rattle.writer.proofs.Stores.{sets_behind}

-- ---- how many bytes its steps have
pub payload_bytes : (b : List ℕ) (at : ℕ) → Whole b 2 at
    → length (list_bytes (payload_steps (kind_at b at) (part (at + 13) (head_at b at).first b))) ≤ (head_at b at).first - (at + 13) + 5
unfolding first_child
payload_bytes b at w = go (kind_at b at) refl
  where
    stop : ℕ
    stop = stop_at b at

    go : (k : ℕ) → kind_at b at ≡ k
        → length (list_bytes (payload_steps k (part (at + 13) (first_child k (at + 13) (stop_at b at)) b))) ≤ first_child k (at + 13)
        (stop_at b at) - (at + 13) + 5
    go k e = by (eqb k TEXT) refl (has_byte k) refl
      where
        by : (t : Bool) → eqb k TEXT ≡ t → (u : Bool) → has_byte k ≡ u
            → length (list_bytes (payload_steps k (part (at + 13) (first_child k (at + 13) (stop_at b at)) b)))
            ≤ first_child k (at + 13) (stop_at b at) - (at + 13) + 5
        by true p u q =
            let far = w.width (e ∙ eqb-true k TEXT p) in
            let x = part (at + 13) (stop_at b at) b in
            let n = part_length b (at + 13) (stop_at b at) (omega arith) w.inside in
            let d = length-drop 2 x in
            let nil_end = append-nil (drop 2 x) in
            rw (p, nil_end) (omega arith)
        by false p true q = rw (p, q) (omega arith)
        by false p false q = rw (p, q) (omega arith)

mutual
  unfolding Stands plain tree_steps

  pub tree_bytes_lem : (b : List ℕ) (t : Tree) (at end : ℕ) → Stands b 2 t at end → length (tree_bytes b t) ≤ 2 * (end - at)
  tree_bytes_lem b absent at end s = omega (arith, s.ends)
  tree_bytes_lem b (node h ts) at end s =
      let w = s.0.whole in
      let p = payload_bytes b at w in
      let f = first_behind b 2 at w in
      let r = row_bytes_lem b ts (head_at b at).first (stop_at b at) s.1 in
      let o = row_order b 2 ts (head_at b at).first (stop_at b at) s.1 in
      let x = part (at + 13) (head_at b at).first b in
      let m : length (list_bytes (payload_steps (kind_at b at) x ++ (child_steps (plains b ts) ++ (close_step ∷ []))))
      ≡ length (list_bytes (payload_steps (kind_at b at) x)) + (length (row_bytes b ts) + 1) =
      simp (list_append, length-append) in
      rw s.0.is (omega (arith, s.0.ends))

  pub row_bytes_lem : (b : List ℕ) (ts : Trees) (at stop : ℕ) → Row b 2 ts at stop → length (row_bytes b ts) ≤ 2 * (stop - at)
  row_bytes_lem b nil at stop s = omega arith
  row_bytes_lem b (t ▸ ts) at stop s =
      let a = tree_bytes_lem b t at (stop_at b at) s.0 in
      let e = tree_ends b 2 t at (stop_at b at) s.0 in
      let r = row_bytes_lem b ts (stop_at b at) stop s.1 in
      let o = row_order b 2 ts (stop_at b at) stop s.1 in
      rw (list_append (tree_steps (plain b t)) (child_steps (plains b ts)), length-append (tree_bytes b t) (row_bytes b ts)) (omega (arith, e.after))

-- ---- what is put
-- one after the other
pub puts_join : {xs ys : List ℕ} {pos mid end : ℕ} {out o u : List ℕ} → Puts xs pos out mid o → Puts ys mid o end u → Puts (xs ++ ys) pos out end u
puts_join {xs} {ys} {pos} {mid} {end} {out} {o} {u} p q =
    record {
      place = omega (arith, p.place, q.place, length-append xs ys);
      output = q.output ∙ ap (λ (z : List ℕ). sets z mid ys) p.output ∙ sets_behind xs ys out pos mid p.place;
    }

pub puts_byte : (x pos : ℕ) (out o : List ℕ) → o ≡ set out pos x → Puts (x ∷ []) pos out (pos + 1) o
puts_byte x pos out o e = record { place = refl; output = e }

pub puts_part : (b : List ℕ) (from to pos end : ℕ) (out o : List ℕ) → from ≤ to → to ≤ length b → end ≡ pos + (to - from)
    → o ≡ sets out pos (part from to b) → Puts (part from to b) pos out end o
puts_part b from to pos end out o h k n e = record { place = n ∙ ap (λ (m : ℕ). pos + m) (sym (part_length b from to h k)); output = e }

pub puts_is : {xs ys : List ℕ} {pos end : ℕ} {out o : List ℕ} → xs ≡ ys → Puts xs pos out end o → Puts ys pos out end o
puts_is {xs} {ys} {pos} {end} {out} {o} e p =
    record { place = p.place ∙ ap (λ (z : List ℕ). pos + length z) e; output = p.output ∙ ap (sets out pos) e }

-- a payload
module _ (b : List ℕ) (at : ℕ) (small : Bytes b) (w : Whole b 2 at) where
  abbrev payload : List ℕ
  payload = list_bytes (payload_steps (kind_at b at) (part (at + 13) (head_at b at).first b))

  pub text_payload : (stop pos : ℕ) (out o₁ o₂ o₃ o₄ : List ℕ) → kind_at b at ≡ TEXT → stop ≡ stop_at b at
      → length b ≤ 1048581 → o₁ ≡ set out pos 3
      → o₂ ≡ sets o₁ (pos + 1) (part (at + 13) (at + 13 + 2) b) → o₃ ≡ sets o₂ (pos + 3) (bytes4 ((stop - (at + 13 + 2)) % 4294967296))
      → o₄ ≡ sets o₃ (pos + 7) (part (at + 13 + 2) stop b) → Puts payload pos out (pos + 7 + (stop - (at + 13 + 2))) o₄
  unfolding first_child
  text_payload stop pos out o₁ o₂ o₃ o₄ k e short e₁ e₂ e₃ e₄ =
      let far = w.width k in
      let mid = at + 13 + 2 in
      let t = part mid stop b in
      let n : length t ≡ stop - mid = part_length b mid stop (omega arith) (omega (arith, w.inside)) in
      let two = took_two b (at + 13) mid refl (omega (arith, w.inside)) in
      let whole : part (at + 13) stop b ≡ bytes2 (be16 b (at + 13)) ++ t =
      took_is (took_join two (took_part b mid stop (omega arith) (omega (arith, w.inside)))) small in
      let p₁ = puts_byte 3 pos out o₁ e₁ in
      let p₂ = puts_part b (at + 13) mid (pos + 1) (pos + 3) o₁ o₂ (omega arith) (omega (arith, w.inside)) (omega arith) e₂ in
      let size : (stop - mid) % 4294967296 ≡ length t = mod-eq_of_lt (omega (arith, w.inside)) ∙ sym n in
      let p₃ : Puts (bytes4 (length t)) (pos + 3) o₂ (pos + 7) o₃ =
      record { place = omega arith; output = e₃ ∙ ap (λ (m : ℕ). sets o₂ (pos + 3) (bytes4 m)) size } in
      let p₄ = puts_part b mid stop (pos + 7) (pos + 7 + (stop - mid)) o₃ o₄ (omega arith) (omega (arith, w.inside)) refl e₄ in
      let first : (head_at b at).first ≡ stop = rw (eq-eqb (kind_at b at) TEXT k) (sym e) in
      puts_is
      (ap (λ (z : List ℕ). (3 ∷ []) ++ (z ++ (bytes4 (length t) ++ t))) (took_is two small)
      ∙ ap (λ (z : List ℕ). (3 ∷ []) ++ (bytes2 (be16 b (at + 13)) ++ (bytes4 (length t) ++ z))) (sym (append-nil t))
      ∙ sym
      (ap (λ (m : ℕ). list_bytes (payload_steps (kind_at b at) (part (at + 13) m b))) first
      ∙ ap (λ (z : List ℕ). list_bytes (payload_steps (kind_at b at) z)) whole
      ∙ ap list_bytes (text_steps (kind_at b at) (be16 b (at + 13)) t (eq-eqb (kind_at b at) TEXT k))))
      (puts_join p₁ (puts_join p₂ (puts_join p₃ p₄)))

  pub byte_payload : (pos : ℕ) (out o₁ o₂ : List ℕ) → ¬ (kind_at b at ≡ TEXT) → has_byte (kind_at b at) ≡ true → o₁ ≡ set out pos 4
      → o₂ ≡ set o₁ (pos + 1) (get_or b (at + 13) 0) → Puts payload pos out (pos + 2) o₂
  unfolding first_child
  byte_payload pos out o₁ o₂ k h e₁ e₂ =
      let t = ne_eqb (kind_at b at) TEXT k in
      let first : (head_at b at).first ≡ at + 13 + 1 = rw (t, h) in
      let fits : at + 13 + 1 ≤ length b = omega (arith, w.payload, w.inside) in
      let one = took_is (took_byte b (at + 13) fits) small in
      let is : payload ≡ 4 ∷ get_or b (at + 13) 0 ∷ [] =
      ap (λ (m : ℕ). list_bytes (payload_steps (kind_at b at) (part (at + 13) m b))) first
      ∙ ap (λ (z : List ℕ). list_bytes (payload_steps (kind_at b at) z)) one
      ∙ ap list_bytes (byte_steps (kind_at b at) (get_or b (at + 13) 0) t h) in
      let next : pos + 1 ≡ suc pos = add-one pos in
      puts_is (sym is) (record { place = refl; output = e₂ ∙ ap₂ (λ (z : List ℕ) (m : ℕ). set z m (get_or b (at + 13) 0)) e₁ next })

  pub no_payload : (pos : ℕ) (out : List ℕ) → ¬ (kind_at b at ≡ TEXT) → has_byte (kind_at b at) ≡ false → Puts payload pos out pos out
  unfolding first_child
  no_payload pos out k h =
      let t = ne_eqb (kind_at b at) TEXT k in
      let first : (head_at b at).first ≡ at + 13 = rw (t, h) in
      let none : part (at + 13) (at + 13) b ≡ [] = let z : at + 13 - (at + 13) ≡ 0 = omega arith in ap (λ (m : ℕ). take m (drop (at + 13) b)) z in
      let is : payload ≡ [] =
      ap (λ (m : ℕ). list_bytes (payload_steps (kind_at b at) (part (at + 13) m b))) first
      ∙ ap (λ (z : List ℕ). list_bytes (payload_steps (kind_at b at) z)) none
      ∙ ap list_bytes (no_steps (kind_at b at) t h) in
      puts_is (sym is) (record { place = omega arith; output = refl })

-- a payload byte lies in the image
pub payload_byte_inside : (b : List ℕ) (at : ℕ) → Whole b 2 at → ¬ (kind_at b at ≡ TEXT) → has_byte (kind_at b at) ≡ true → at + 13 < length b
unfolding first_child
payload_byte_inside b at w k h =
    let first : (head_at b at).first ≡ at + 13 + 1 = rw (ne_eqb (kind_at b at) TEXT k, h) in
    omega (arith, w.payload, w.inside)

-- an absent child
pub puts_absent : (b : List ℕ) (at pos : ℕ) (out o : List ℕ) → be32 b at ≡ 0 → o ≡ set out pos 5 → PutsTree b at pos out (pos + 1) o
unfolding Stands plain tree_steps
puts_absent b at pos out o z e absent end s = puts_byte 5 pos out o e
puts_absent b at pos out o z e (node h ts) end s = absurd (omega (arith, s.0.whole.long))

-- a record
pub head_bytes : (b : List ℕ) (at : ℕ) → Bytes b → at + 13 ≤ length b
    → part (at + 4) (at + 13) b ≡ (kind_at b at ∷ []) ++ bytes4 (be32 b (at + 5)) ++ bytes4 (be32 b (at + 9))
head_bytes b at small h =
    let far : at + 4 + 1 ≡ at + 5 = omega arith in
    let k = rw far at (took_byte b (at + 4) (omega arith)) in
    took_is (took_join (took_join k (took_four b (at + 5) (at + 9) (omega arith) (omega arith))) (took_four b (at + 9) (at + 13) (omega arith) h)) small

pub puts_record : (b : List ℕ) (at pos inner last : ℕ) (out o₁ o₂ o₃ o₄ o₅ : List ℕ) → Bytes b → ¬ (be32 b at ≡ 0)
    → o₁ ≡ set out pos 2
    → o₂ ≡ sets o₁ (pos + 1) (part (at + 4) (at + 13) b)
    → Puts (list_bytes (payload_steps (kind_at b at) (part (at + 13) (head_at b at).first b))) (pos + 10) o₂ inner o₃
    → PutsRow b (head_at b at).first (stop_at b at) inner o₃ last o₄ → o₅ ≡ set o₄ last 6 → PutsTree b at pos out (last + 1) o₅
unfolding Stands plain tree_steps
puts_record b at pos inner last out o₁ o₂ o₃ o₄ o₅ small z e₁ e₂ p r e absent end s = absurd (z s.empty)
puts_record b at pos inner last out o₁ o₂ o₃ o₄ o₅ small z e₁ e₂ p r e (node h ts) end s =
    let w = s.0.whole in
    let x = part (at + 13) (head_at b at).first b in
    let p₁ = puts_byte 2 pos out o₁ e₁ in
    let p₂ = puts_part b (at + 4) (at + 13) (pos + 1) (pos + 10) o₁ o₂ (omega arith) (omega (arith, w.inside, w.long)) (omega arith) e₂ in
    let rows = r ts s.1 in
    let p₅ = puts_byte 6 last o₄ o₅ e in
    let pay = list_bytes (payload_steps (kind_at b at) x) in
    let more : pay ++ (row_bytes b ts ++ (6 ∷ [])) ≡ list_bytes (payload_steps (kind_at b at) x ++ (child_steps (plains b ts) ++ (close_step ∷ []))) =
    sym (list_append (payload_steps (kind_at b at) x) (child_steps (plains b ts) ++ (close_step ∷ []))
    ∙ ap (λ (u : List ℕ). pay ++ u) (list_append (child_steps (plains b ts)) (close_step ∷ []))) in
    let head = head_bytes b at small (omega (arith, w.inside, w.long)) in
    rw s.0.is
    (puts_is
    (ap₂ (λ (u v : List ℕ). (2 ∷ []) ++ (u ++ v)) head more)
    (puts_join p₁ (puts_join p₂ (puts_join p (puts_join rows p₅)))))
