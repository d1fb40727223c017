-- A tree as it is moved: which move it is, how many bytes it has, and its bytes as they are put.
-- Assumes nothing.
use mathlib.Core.Path.{◌≡◌, refl, ap, ap₂, ◌∙◌}
use mathlib.Core.Bool.{Bool, true, false, cond}
use mathlib.Core.List.{List, [], ◌∷◌, ◌++◌}
use Prim.Native.Nat.{ℕ, ◌+◌, ◌-◌, ◌*◌, ◌%◌, ◌≤◌, ◌<◌}
use native.Mathlib.Omega.{arith}
use native.Mathlib.Nat.{mod-eq_of_lt}
use lib.Dec.{eqb}
use lib.ListN.{length, drop, length-append, length-drop}
use lib.Seq.{sets}
use Rattle.image.specs.Bytes.{be32, part}
use Rattle.image.specs.Kinds.{TREE, TEXT}
use Rattle.image.specs.Read.{head_at, stop_at, kind_at, Tree, Trees, absent, node, nil, ◌▸◌}
use Rattle.image.specs.Standing.{Stands, Row}
use Rattle.image.specs.Write.{Plain, Plains, without, plainly, done, ◌next◌, bytes2, bytes4, written, plain, Bytes}
use Rattle.image.proofs.Exact.{part_length}
use Rattle.image.proofs.Standing.{row_order, first_behind, tree_ends}
use Rattle.writer.specs.Stands.{Puts}
use Rattle.writer.proofs.Stores.{sets_before}
use Rattle.writer.proofs.Standing.{puts_join, puts_part, puts_is, head_bytes}
use Rattle.moves.specs.Moves.{due_width, narrower, dropped, dropped_all, wider, widened, widened_all}
use Rattle.moves.specs.Ways.{stored_bytes, payload_due, turned, turned_all}
use Rattle.moves.specs.Standing.{tree_bytes, row_bytes, PutsTree, PutsRow}
use Rattle.moves.specs.declared.way.Way.{Way}
use Rattle.moves.specs.declared.way.Way.TheVariants as way

-- ---- which move it is
mutual
  unfolding turned dropped

  pub turned_forward : (u : Bool) (x : Plain) → turned way.Forward u x ≡ dropped x
  turned_forward u without = refl
  turned_forward u (plainly k f t x xs) = ap (λ (ys : Plains). plainly k f t (narrower k x) ys) (turned_all_forward (eqb k TREE) xs)

  turned_all_forward : (u : Bool) (xs : Plains) → turned_all way.Forward u xs ≡ dropped_all xs
  turned_all_forward u done = refl
  turned_all_forward u (x next xs) = ap₂ (λ (y : Plain) (ys : Plains). y next ys) (turned_forward u x) (turned_all_forward false xs)

mutual
  unfolding turned widened

  pub turned_back : (u : Bool) (x : Plain) → turned way.Back u x ≡ widened u x
  turned_back u without = refl
  turned_back u (plainly k f t x xs) = ap (λ (ys : Plains). plainly k f t (wider u k x) ys) (turned_all_back (eqb k TREE) xs)

  turned_all_back : (u : Bool) (xs : Plains) → turned_all way.Back u xs ≡ widened_all u xs
  turned_all_back u done = refl
  turned_all_back u (x next xs) = ap₂ (λ (y : Plain) (ys : Plains). y next ys) (turned_back u x) (turned_all_back false xs)

-- ---- how many bytes it has
pub payload_size : (w : Way) (u : Bool) (k : ℕ) (x : List ℕ) → length (payload_due w u k x) ≤ length x + 2
payload_size way.Forward u k x = go (eqb k TEXT)
  where
    go : (t : Bool) → length (cond t (drop 2 x) x) ≤ length x + 2
    go true = let n = length-drop 2 x in omega arith
    go false = omega arith
payload_size way.Back u k x = go (eqb k TEXT)
  where
    go : (t : Bool) → length (cond t (bytes2 (due_width u x) ++ x) x) ≤ length x + 2
    go true = omega arith
    go false = omega arith

mutual
  unfolding Stands plain turned written

  pub tree_size : (w : Way) (u : Bool) (b : List ℕ) (t : Tree) (at end : ℕ) → Stands b (stored_bytes w) t at end
      → length (tree_bytes w u b t) ≤ 2 * (end - at)
  tree_size w u b absent at end s = omega (arith, s.ends)
  tree_size w u b (node h ts) at end s =
      let v = s.0.whole in
      let k = kind_at b at in
      let x = part (at + 13) (head_at b at).first b in
      let f = first_behind b (stored_bytes w) at v in
      let n = part_length b (at + 13) (head_at b at).first f (omega (arith, v.payload, v.inside)) in
      let p = payload_size w u k x in
      let r = row_size w (eqb k TREE) b ts (head_at b at).first (stop_at b at) s.1 in
      let o = row_order b (stored_bytes w) ts (head_at b at).first (stop_at b at) s.1 in
      let y = payload_due w u k x in
      let all = length-append ((k ∷ []) ++ bytes4 (be32 b (at + 5)) ++ bytes4 (be32 b (at + 9)) ++ y) (row_bytes w (eqb k TREE) b ts) in
      let front = length-append ((k ∷ []) ++ bytes4 (be32 b (at + 5)) ++ bytes4 (be32 b (at + 9))) y in
      rw s.0.is (omega (arith, s.0.ends, all, front))

  pub row_size : (w : Way) (u : Bool) (b : List ℕ) (ts : Trees) (at stop : ℕ) → Row b (stored_bytes w) ts at stop
      → length (row_bytes w u b ts) ≤ 2 * (stop - at)
  row_size w u b nil at stop s = omega arith
  row_size w u b (t ▸ ts) at stop s =
      let a = tree_size w u b t at (stop_at b at) s.0 in
      let e = tree_ends b (stored_bytes w) t at (stop_at b at) s.0 in
      let r = row_size w false b ts (stop_at b at) stop s.1 in
      let o = row_order b (stored_bytes w) ts (stop_at b at) stop s.1 in
      rw (length-append (tree_bytes w u b t) (row_bytes w false b ts)) (omega (arith, e.after))

-- ---- what is put
-- bytes, and their number put before them last
pub puts_framed : (xs : List ℕ) (pos last : ℕ) (out o₁ o₂ : List ℕ) → Puts xs (pos + 4) out last o₁ → last < 4294967296
    → o₂ ≡ sets o₁ pos (bytes4 ((last - pos - 4) % 4294967296)) → Puts (bytes4 (length xs) ++ xs) pos out last o₂
puts_framed xs pos last out o₁ o₂ p low e =
    let size : (last - pos - 4) % 4294967296 ≡ length xs = mod-eq_of_lt (omega arith) ∙ omega (arith, p.place) in
    record {
      place = omega (arith, p.place);
      output =
          e
          ∙ ap₂ (λ (o : List ℕ) (n : ℕ). sets o pos (bytes4 n)) p.output size
          ∙ sets_before (bytes4 (length xs)) xs out pos (pos + 4) refl;
    }

pub puts_absent : (w : Way) (u : Bool) (b : List ℕ) (at pos end : ℕ) (out o : List ℕ) → be32 b at ≡ 0 → end ≡ pos + 4
    → o ≡ sets out pos (bytes4 0)
    → PutsTree w u b at pos out end o
unfolding Stands plain turned written
puts_absent w u b at pos end out o z n e absent stop s = record { place = n; output = e }
puts_absent w u b at pos end out o z n e (node h ts) stop s = absurd (omega (arith, s.0.whole.long))

pub puts_record : (w : Way) (u : Bool) (b : List ℕ) (at pos inner last : ℕ) (out o₁ o₂ o₃ o₄ : List ℕ) → Bytes b → ¬ (be32 b at ≡ 0)
    → o₁ ≡ sets out (pos + 4) (part (at + 4) (at + 13) b)
    → Puts (payload_due w u (kind_at b at) (part (at + 13) (head_at b at).first b)) (pos + 13) o₁ inner o₂
    → PutsRow w (eqb (kind_at b at) TREE) b (head_at b at).first (stop_at b at) inner o₂ last o₃ → last < 4294967296
    → o₄ ≡ sets o₃ pos (bytes4 ((last - pos - 4) % 4294967296)) → PutsTree w u b at pos out last o₄
unfolding Stands plain turned written
puts_record w u b at pos inner last out o₁ o₂ o₃ o₄ small z e₁ p r low e absent end s = absurd (z s.empty)
puts_record w u b at pos inner last out o₁ o₂ o₃ o₄ small z e₁ p r low e (node h ts) end s =
    let v = s.0.whole in
    let y = payload_due w u (kind_at b at) (part (at + 13) (head_at b at).first b) in
    let rows = r ts s.1 in
    let p₁ = puts_part b (at + 4) (at + 13) (pos + 4) (pos + 13) out o₁ (omega arith) (omega (arith, v.inside, v.long)) (omega arith) e₁ in
    let head = head_bytes b at small (omega (arith, v.inside, v.long)) in
    let all = puts_is (ap (λ (x : List ℕ). x ++ y ++ row_bytes w (eqb (kind_at b at) TREE) b ts) head) (puts_join (puts_join p₁ p) rows) in
    rw s.0.is (puts_framed _ pos last out o₃ o₄ all low e)
